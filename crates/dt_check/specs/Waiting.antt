-- The cells of the trees that wait, from one list of cells and a trail.
use Rattle.std.specs.Prelude.{◌≡◌, ℕ, ◌<◌, ◌≤◌, true, Option, Some, None, List, [], ◌∷◌, length, map, take}
use Rattle.std.specs.List.{AllByRecursion}
use Rattle.dt_domain.specs.Domain.{DomainOps}
use Rattle.dt_terms.specs.declared.term.Term.{Term}
use Rattle.dt_terms.specs.Terms.{bits_at}
use Rattle.dt_box.specs.Cells.{AreCells}
use Rattle.dt_box.specs.Steps.{after_bit}
use Rattle.dt_box.specs.Trails.{back, IsKept}
use Rattle.dt_check.specs.declared.pending.Pending.{Pending}

-- the cells with which the right tree of a split begins
abbrev pub right_cells : {D : Type 0} → DomainOps D → List D → List (ℕ × D) → Pending → List D
right_cells ops cells trail q = after_bit ops q.term q.bit true (back cells trail q.length)

-- of each of these, the next one first
abbrev pub waiting : {D : Type 0} → DomainOps D → List D → List (ℕ × D) → List Pending → List (List D)
waiting ops cells trail pending = map (right_cells ops cells trail) pending

-- each goes back at least as far as those before it, and the first one goes back to n pairs or fewer
unfoldable pub Stacked : ℕ → List Pending → Type 0
Stacked n [] = Unit {0}
Stacked n (q ∷ pending) = (q.length ≤ n) × Stacked q.length pending

-- the right tree of a split at these cells can be begun: they are cells of the problem, and have the bit
pub record CanBegin {D : Type 0} (ops : DomainOps D) (terms : List Term) (cells : List D) (q : Pending) : Type 0 where
  pub cells_are : AreCells ops terms cells
  pub term : q.term < length terms
  pub bit : q.bit < bits_at terms q.term

-- this holds of the cells at each of these splits
abbrev pub AtSplits : {D : Type 0} → (List D → Pending → Type 0) → List D → List (ℕ × D) → List Pending → Type 0
AtSplits P cells trail pending = AllByRecursion (λ q. P (back cells trail q.length) q) pending

-- where another tree is begun: its cells, and those that wait behind it, are what waited; else nothing
-- waited
abbrev pub IsNext : {D : Type 0} → DomainOps D → List D → List (ℕ × D) → List Pending → List D → List (ℕ × D) → List Pending → Option Pending → Type 0
IsNext ops cells trail pending new longer rest (Some q) = new ∷ waiting ops new longer rest ≡ waiting ops cells trail pending
IsNext ops cells trail pending new longer rest None = pending ≡ []

-- where another tree is begun, it is the one that waited first: the cells went back to those at its split,
-- and changes were kept since
pub record IsBegun {D : Type 0} (ops : DomainOps D) (cells : List D) (trail : List (ℕ × D)) (pending : List Pending) (new : List D) (longer : List (ℕ × D)) (rest : List Pending) (q : Pending) : Type 0 where
  pub first : pending ≡ q ∷ rest
  pub cells_are : new ≡ right_cells ops cells trail q
  pub kept : IsKept (back cells trail q.length) (take q.length trail) new longer
