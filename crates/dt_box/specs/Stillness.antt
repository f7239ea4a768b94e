-- When no step is left that would tell something new.
use Rattle.std.specs.Prelude.{◌≡◌, ℕ, ◌<◌, Bool, true, false, List, length}
use Rattle.dt_domain.specs.Domain.{DomainOps}
use Rattle.dt_terms.specs.declared.term.Term.{Term}
use Rattle.dt_box.specs.declared.step.Step.{Step}
use Rattle.dt_box.specs.declared.step.Step.TheVariants.{Forward, Backward}
use Rattle.dt_box.specs.Cells.{cell_at}
use Rattle.dt_box.specs.Steps.{IsStep, target, narrowed}
use Rattle.dt_box.specs.Changes.{has_news}

-- no cell is empty
abbrev pub HasNoEmpty : {D : Type 0} → DomainOps D → List D → Type 0
HasNoEmpty ops cells = (t : ℕ) → t < length cells → ops.is_empty (cell_at ops cells t) ≡ false

-- the step empties a cell or makes a further bit known
abbrev pub tells : {D : Type 0} → DomainOps D → List Term → Step → List D → Bool
tells ops terms step cells =
    has_news ops (cell_at ops cells (target terms step)) (narrowed ops terms step cells)

-- a step of the problem that does so
abbrev pub TellsNew : {D : Type 0} → DomainOps D → List Term → Step → List D → Type 0
TellsNew ops terms step cells = IsStep terms step × (tells ops terms step cells ≡ true)

-- the term from which a step goes: the node that it goes to or comes from
abbrev pub origin : Step → ℕ
origin (Forward term) = term
origin (Backward parent place) = parent

-- no step of the node at position t does so
abbrev pub IsStillAt : {D : Type 0} → DomainOps D → List Term → ℕ → List D → Type 0
IsStillAt ops terms t cells =
    (step : Step) → IsStep terms step → origin step ≡ t → tells ops terms step cells ≡ false

-- no step of the problem does so
abbrev pub IsStill : {D : Type 0} → DomainOps D → List Term → List D → Type 0
IsStill ops terms cells = (step : Step) → IsStep terms step → tells ops terms step cells ≡ false

-- no cell is empty, and no step empties one or makes a further bit known
pub record IsSettled {D : Type 0} (ops : DomainOps D) (terms : List Term) (cells : List D) : Type 0 where
  pub held : HasNoEmpty ops cells
  pub still : IsStill ops terms cells
