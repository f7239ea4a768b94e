-- What is tried at root cells and solves.
use Rattle.std.proofs.Common.{◌≡◌, ℕ, true, Option, List, length, refl, sym, subst}
use Rattle.std.specs.Prelude.{IfSome}
use Rattle.dt_domain.specs.Domain.{DomainOps, DomainLaws}
use Rattle.dt_terms.specs.Problem.{ProblemData, IsProblem}
use Rattle.dt_terms.specs.Terms.{choices_of}
use Rattle.dt_terms.specs.Values.{IsAssignment, solves}
use Rattle.dt_box.specs.Cells.{AreCells, root_cells, HoldAssignment}
use Rattle.dt_box.proofs.Assignments.{root_holds}
use Rattle.dt_box.proofs.Roots.{root_cells_are}
use Rattle.dt_solve.specs.Tries.{held_or_picks}
use Rattle.dt_solve.specs.Early.{IsEarly}
use Rattle.dt_solve.proofs.Fails.{are_aim}

module _ (D : Type 0) (ops : DomainOps D) (laws : DomainLaws ops) (p : ProblemData) (problem : IsProblem p) (cells : List D) (root : cells ≡ root_cells ops p) where
  -- root cells are cells
  pub root_are : AreCells ops p.terms cells
  root_are = subst (AreCells ops p.terms) (sym root) (root_cells_are D ops laws p problem)

  -- numbers that were tried there and solve
  pub early : (aim : Option (List ℕ)) (numbers : List ℕ) → IsAssignment p.terms numbers → solves p numbers ≡ true
      → IfSome aim (λ a. length a ≡ length (choices_of p.terms) → numbers ≡ held_or_picks ops p.terms cells a) → IsEarly p aim numbers
  early aim numbers i s t = record {
    assignment = i;
    solves = s;
    aimed = are_aim D ops p cells aim numbers root_are
        (λ a e fits solved. subst (λ (cs : List D). HoldAssignment ops p.terms cs a) (sym root) (root_holds D ops laws p a problem fits solved)) t;
  }
