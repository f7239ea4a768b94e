-- Where a search begins.
use Rattle.std.specs.Prelude.{Bool, true, false, List, []}
use Rattle.dt_domain.specs.Domain.{DomainOps}
use Rattle.dt_terms.specs.Problem.{ProblemData}
use Rattle.dt_box.specs.Cells.{AreCells, root_cells}
use Rattle.dt_box.specs.Stillness.{IsSettled}
use Rattle.dt_log.specs.declared.line.Line.{Line}
use Rattle.dt_propagate.specs.declared.settling.Settled.{Settled}
use Rattle.dt_propagate.specs.declared.settling.Settled.TheVariants.{Quiet, Empty}
use Rattle.dt_propagate.specs.Settling.{IsLogged, IsEnd}

-- steps of these lines lead from the root cells to these, and settling ended so
pub record IsRoot {D : Type 0} (ops : DomainOps D) (p : ProblemData) (cells : List D) (lines : List Line) (end : Settled) : Type 0 where
  pub are : AreCells ops p.terms cells
  pub logged : IsLogged ops p.terms (root_cells ops p) [] cells lines
  pub ended : IsEnd ops p.terms end cells (IsSettled ops p.terms cells)

-- settling ended at an empty cell
abbrev pub is_refuted : Settled → Bool
is_refuted Quiet = false
is_refuted (Empty t) = true
