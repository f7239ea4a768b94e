-- What a pass over the marked steps leads to.
use Rattle.std.specs.Prelude.{◌≡◌, ◌≢◌, ◌⊎◌, ℕ, ◌+◌, ◌*◌, ◌-◌, ◌<◌, ◌≤◌, Bool, true, false, List, length}
use Rattle.std.specs.List.{range_with_len}
use Rattle.dt_domain.specs.Domain.{DomainOps}
use Rattle.dt_bits.specs.Ops.{arity_of}
use Rattle.dt_terms.specs.declared.term.Term.{Term}
use Rattle.dt_terms.specs.declared.term.Term.TheVariants.{Choice, Node}
use Rattle.dt_box.specs.declared.step.Step.{Step}
use Rattle.dt_box.specs.declared.step.Step.TheVariants.{Forward, Backward}
use Rattle.dt_box.specs.Cells.{cell_at}
use Rattle.dt_box.specs.Steps.{IsStep, target, after_step}
use Rattle.dt_box.specs.Stillness.{HasNoEmpty, IsSettled, tells}
use Rattle.dt_box.specs.Unknown.{unknown_of}
use Rattle.dt_propagate.specs.declared.marks.Marks.{Marks}
use Rattle.dt_propagate.specs.declared.taking.Took.{Took}
use Rattle.dt_propagate.specs.declared.taking.Took.TheVariants.{Nothing, Change, Empty}
use Rattle.dt_propagate.specs.Marks.{is_marked, position, Grows, AreMarkedNear}

-- how many steps may still change a cell: bits of terms that aren't known, and narrowings
abbrev pub cost : {D : Type 0} → DomainOps D → List Term → List D → ℕ → ℕ
cost ops terms cells narrowings = unknown_of ops terms cells (range_with_len 0 (length terms)) + narrowings

-- each step that tells something new is marked, or is one of these
pub record AreMarkedBut {D : Type 0} (ops : DomainOps D) (terms : List Term) (cells : List D) (words : List ℕ) (But : Step → Type 0) : Type 0 where
  pub each : (step : Step) → IsStep terms step → tells ops terms step cells ≡ true → (is_marked words (position (length terms) step) ≡ true) ⊎ But step

-- each step that tells something new is marked
abbrev pub AreMarked : {D : Type 0} → DomainOps D → List Term → List D → List ℕ → Type 0
AreMarked ops terms cells words = AreMarkedBut ops terms cells words (λ step. ⊥)

-- the cell of the term is empty
pub record IsEmptied {D : Type 0} (ops : DomainOps D) (terms : List Term) (cells : List D) (t : ℕ) : Type 0 where
  pub within : t < length terms
  pub empty : ops.is_empty (cell_at ops cells t) ≡ true

-- the step changed a cell and emptied none, and the steps near its target are marked
pub record IsStepTaken {D : Type 0} (ops : DomainOps D) (terms : List Term) (step : Step) (old : List D) (marks : Marks) (new : List D) (more : Marks) : Type 0 where
  pub held : HasNoEmpty ops new
  pub cells : new ≡ after_step ops terms step old
  pub grows : Grows marks.bits.words.items more.bits.words.items
  pub near : AreMarkedNear terms more.bits.words.items (target terms step)
  pub cost : cost ops terms new more.narrowings < cost ops terms old marks.narrowings

-- what came of a step
abbrev pub IsTaken : {D : Type 0} → DomainOps D → List Term → Step → List D → Marks → Took → List D → Marks → Type 0
IsTaken ops terms step old marks Nothing new more = (new ≡ old) × (more ≡ marks) × (tells ops terms step old ≡ false)
IsTaken ops terms step old marks Change new more = IsStepTaken ops terms step old marks new more
IsTaken ops terms step old marks (Empty t) new more = IsEmptied ops terms new t

-- some cells changed, and none is empty
pub record AreChanged {D : Type 0} (ops : DomainOps D) (terms : List Term) (old : List D) (marks : Marks) (new : List D) (more : Marks) : Type 0 where
  pub held : HasNoEmpty ops new
  pub marked : AreMarked ops terms new more.bits.words.items
  pub cost : cost ops terms new more.narrowings < cost ops terms old marks.narrowings

-- what came of the steps at a position
abbrev pub IsVisited : {D : Type 0} → DomainOps D → List Term → List D → Marks → Took → List D → Marks → Type 0
IsVisited ops terms old marks Nothing new more = (new ≡ old) × (more ≡ marks) × AreMarked ops terms old marks.bits.words.items
IsVisited ops terms old marks Change new more = AreChanged ops terms old marks new more
IsVisited ops terms old marks (Empty t) new more = IsEmptied ops terms new t

-- what came of a pass over all positions
abbrev pub IsPassed : {D : Type 0} → DomainOps D → List Term → List D → Marks → Took → List D → Marks → Type 0
IsPassed ops terms old marks Nothing new more = IsSettled ops terms new
IsPassed ops terms old marks Change new more = AreChanged ops terms old marks new more
IsPassed ops terms old marks (Empty t) new more = IsEmptied ops terms new t

-- how many operands a term has: none, if it is a choice
abbrev pub place_count : Term → ℕ
place_count (Choice w) = 0
place_count (Node op a b c w) = arity_of op

-- the step stands at this position
abbrev pub StandsAt : List Term → ℕ → Step → Type 0
StandsAt terms at step = position (length terms) step ≡ at

-- the step goes to an operand of this node at this place or a later one
abbrev pub IsLeft : ℕ → ℕ → Step → Type 0
IsLeft node place (Forward t) = ⊥
IsLeft node place (Backward t k) = (t ≡ node) × (place ≤ k)
