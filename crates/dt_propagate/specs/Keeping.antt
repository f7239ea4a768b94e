-- What is kept of the steps that are taken.
use Rattle.std.specs.Prelude.{◌≡◌, ℕ, List}
use Rattle.dt_domain.specs.Domain.{DomainOps}
use Rattle.dt_terms.specs.declared.term.Term.{Term}
use Rattle.dt_box.specs.Cells.{AreCells}
use Rattle.dt_box.specs.Trails.{IsKept}
use Rattle.dt_log.specs.declared.line.Line.{Line}
use Rattle.dt_propagate.specs.declared.taking.Keep.{Keep}
use Rattle.dt_propagate.specs.declared.taking.Keep.TheVariants.{Changes, Nothing}
use Rattle.dt_propagate.specs.Settling.{IsLogged}

-- changes were kept in the trail; or it is as it was
abbrev pub IsKeptIf : {D : Type 0} → Keep → List D → List (ℕ × D) → List D → List (ℕ × D) → Type 0
IsKeptIf Changes old trail new longer = IsKept old trail new longer
IsKeptIf Nothing old trail new longer = longer ≡ trail

-- the cells are of the problem, changes were kept where they are to be, and the steps logged
pub record IsCourse {D : Type 0} (keep : Keep) (ops : DomainOps D) (terms : List Term) (old : List D) (trail : List (ℕ × D)) (lines : List Line) (new : List D) (longer : List (ℕ × D)) (more : List Line) : Type 0 where
  pub cells : AreCells ops terms new
  pub kept : IsKeptIf keep old trail new longer
  pub logged : IsLogged ops terms old lines new more
