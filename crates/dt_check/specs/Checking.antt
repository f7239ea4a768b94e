-- Where the checker stands between two items, and what it finds at one.
use Rattle.std.specs.Prelude.{◌≡◌, ℕ, ◌<◌, ◌≤◌, Bool, true, false, ◌==◌, ◌&&◌, is_none, Option, Some, None, List, [], ◌∷◌, ◌++◌, length, reverse, All}
use Rattle.dt_domain.specs.Domain.{DomainOps}
use Rattle.dt_terms.specs.declared.term.Term.{Term}
use Rattle.dt_terms.specs.Problem.{ProblemData}
use Rattle.dt_box.specs.Cells.{AreCells}
use Rattle.dt_box.specs.Stillness.{IsSettled}
use Rattle.dt_box.specs.declared.step.Step.{Step}
use Rattle.dt_box.specs.declared.step.Step.TheVariants as steps
use Rattle.dt_box.specs.Trails.{back, IsKept}
use Rattle.dt_log.specs.declared.line.Line.{Line}
use Rattle.dt_log.specs.declared.line.Line.TheVariants.{Forward, Backward, Try, Split, Close, Loose, Unvisited}
use Rattle.dt_log.specs.declared.line.Claim.{Claim}
use Rattle.dt_log.specs.declared.line.Claim.TheVariants.{Impossible, Budget}
use Rattle.dt_check.specs.declared.pending.Pending.{Pending}
use Rattle.dt_check.specs.declared.checker.Checker.{Checker}
use Rattle.dt_check.specs.declared.checker.Finding.{Finding}
use Rattle.dt_check.specs.declared.checker.Finding.TheVariants.{Passed, Ended, Refused}
use Rattle.dt_check.specs.Reading.{Reading, reading, after_line, cause_of}
use Rattle.dt_check.specs.Waiting.{waiting, Stacked, CanBegin, AtSplits}

-- the cells of the tree that is read, what they were before, the right trees that wait, the latest split
-- last, how many splits there were, whether there was an end that was left, and how long the trail was
-- when the cells were last seen to be settled
pub record State (D : Type 0) : Type 0 where
  pub cells : List D
  pub trail : List (ℕ × D)
  pub pending : List Pending
  pub splits : ℕ
  pub opened : Bool
  pub settled : Option ℕ

abbrev pub state_of : {D : Type 0} → Checker D → State D
state_of c = record {
  cells = c.cells;
  trail = c.trail;
  pending = c.pending.items;
  splits = c.splits;
  opened = c.opened;
  settled = c.settled;
}

abbrev pub state : {D : Type 0} → List D → List (ℕ × D) → List Pending → ℕ → Bool → Option ℕ → State D
state cells trail pending splits opened settled =
    record { cells = cells; trail = trail; pending = pending; splits = splits; opened = opened; settled = settled }

-- what the state, with the Try items directly before, means
abbrev pub reading_at : {D : Type 0} → DomainOps D → State D → List (ℕ × ℕ) → Reading D
reading_at ops s tries = reading (s.cells ∷ waiting ops s.cells s.trail (reverse s.pending)) tries s.splits s.opened

-- after an end that was left
abbrev pub left : {D : Type 0} → State D → State D
left s = state s.cells s.trail s.pending s.splits true s.settled

-- the cells were settled when the trail had this many pairs
abbrev pub WasSettled : {D : Type 0} → DomainOps D → List Term → List D → List (ℕ × D) → Option ℕ → Type 0
WasSettled ops terms cells trail None = Unit {0}
WasSettled ops terms cells trail (Some n) = (n ≤ length trail) × IsSettled ops terms (back cells trail n)

-- no split was read yet: no change is kept, no right tree waits, and it isn't known that the cells were
-- settled
abbrev pub is_first : {D : Type 0} → State D → Bool
is_first s = (length s.trail == 0) && ((length s.pending == 0) && is_none s.settled)

-- before the first split the trail stays as it is; afterwards changes are kept in it
abbrev pub IsKeptAt : {D : Type 0} → Bool → List D → List (ℕ × D) → List D → List (ℕ × D) → Type 0
IsKeptAt true old trail new longer = longer ≡ trail
IsKeptAt false old trail new longer = IsKept old trail new longer

-- where the cells are known to be settled, after a split at this length of the trail
abbrev pub settled_at : Claim → ℕ → Option ℕ
settled_at Impossible n = None
settled_at (Budget limit) n = Some n

-- this holds where the log claims to be a record
abbrev pub UnderBudget : Claim → Type 0 → Type 0
UnderBudget Impossible A = Unit {0}
UnderBudget (Budget n) A = A

-- the right tree of a split at these cells can be begun, and they are settled where the log claims to be
-- a record
pub record IsSplitAt {D : Type 0} (ops : DomainOps D) (terms : List Term) (claim : Claim) (cells : List D) (q : Pending) : Type 0 where
  pub begin : CanBegin ops terms cells q
  pub settled : UnderBudget claim (IsSettled ops terms cells)

-- what always holds of the state
pub record IsState {D : Type 0} (ops : DomainOps D) (terms : List Term) (claim : Claim) (s : State D) : Type 0 where
  pub cells_are : AreCells ops terms s.cells
  pub within : All (λ change. change.0 < length s.cells) s.trail
  pub stacked : Stacked (length s.trail) (reverse s.pending)
  pub splits_at : AtSplits (IsSplitAt ops terms claim) s.cells s.trail (reverse s.pending)
  pub settled : WasSettled ops terms s.cells s.trail s.settled

-- the tree ended: nothing waited, or the state means what waited
abbrev pub IsTreeEnded : {D : Type 0} → DomainOps D → List Term → Claim → State D → Finding → State D → Type 0
IsTreeEnded ops terms claim old Passed new =
    (reading_at ops new [] ≡ reading (waiting ops old.cells old.trail (reverse old.pending)) [] old.splits old.opened) × IsState ops terms claim new
IsTreeEnded ops terms claim old Ended new = (old.pending ≡ []) × (new.splits ≡ old.splits) × (new.opened ≡ old.opened)
IsTreeEnded ops terms claim old (Refused cause) new = ⊥

-- the pairs of the Try items directly before the next item
abbrev pub tries_after : Line → List (ℕ × ℕ) → List (ℕ × ℕ)
tries_after (Forward t) tries = []
tries_after (Backward p k) tries = []
tries_after (Try c v) tries = tries ++ (c, v) ∷ []
tries_after (Split t i) tries = []
tries_after (Close t) tries = []
tries_after Loose tries = []
tries_after Unvisited tries = []

-- the item of a log for a step
abbrev pub step_line : Step → Line
step_line (steps.Forward t) = Forward t
step_line (steps.Backward p k) = Backward p k

-- what is found at an item: a cause, the first one; or none, and the state means what is known after the
-- item; or none, and no tree waits
abbrev pub IsFound : {D : Type 0} → DomainOps D → ProblemData → Claim → Line → List (ℕ × ℕ) → State D → Finding → State D → Type 0
IsFound ops p claim line tries old (Refused cause) new = cause_of ops p claim line (reading_at ops old tries) ≡ Some cause
IsFound ops p claim line tries old Passed new =
    (cause_of ops p claim line (reading_at ops old tries) ≡ None)
    × (reading_at ops new (tries_after line tries) ≡ after_line ops p.terms line (reading_at ops old tries))
    × IsState ops p.terms claim new
IsFound ops p claim line tries old Ended new =
    (cause_of ops p claim line (reading_at ops old tries) ≡ None)
    × ((after_line ops p.terms line (reading_at ops old tries)).stack ≡ [])
    × (new.splits ≡ (after_line ops p.terms line (reading_at ops old tries)).splits)
    × (new.opened ≡ (after_line ops p.terms line (reading_at ops old tries)).opened)
