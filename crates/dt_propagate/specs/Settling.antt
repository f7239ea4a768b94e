-- Settling: what the steps that were taken lead to.
use Rattle.std.specs.Prelude.{◌≡◌, ℕ, ◌+◌, ◌*◌, ◌<◌, ◌==◌, Bool, true, false, ◌||◌, List, [], ◌∷◌, ◌++◌, length, slice_index_or}
use Rattle.std.specs.List.{list_any, range_with_len}
use Rattle.dt_domain.specs.Domain.{DomainOps}
use Rattle.dt_terms.specs.declared.term.Term.{Term}
use Rattle.dt_box.specs.declared.step.Step.{Step}
use Rattle.dt_box.specs.declared.step.Step.TheVariants as steps
use Rattle.dt_box.specs.Cells.{cell_at, AreCells, HoldAssignment}
use Rattle.dt_box.specs.Steps.{IsStep, after_step}
use Rattle.dt_box.specs.Stillness.{HasNoEmpty, tells, origin}
use Rattle.dt_box.specs.Trails.{IsKept}
use Rattle.dt_log.specs.declared.line.Line.{Line}
use Rattle.dt_log.specs.declared.line.Line.TheVariants.{Forward, Backward}
use Rattle.dt_box.specs.Unknown.{unknown_of}
use Rattle.dt_propagate.specs.declared.settling.Settled.{Settled}
use Rattle.dt_propagate.specs.declared.settling.Settled.TheVariants.{Quiet, Empty}

-- the item of a log for a step
abbrev pub step_line : Step → Line
step_line (steps.Forward t) = Forward t
step_line (steps.Backward p k) = Backward p k

-- the lines are steps of the problem that lead from the old cells to the new ones
unfoldable pub Leads : {D : Type 0} → DomainOps D → List Term → List Line → List D → List D → Type 0
Leads ops terms [] old new = old ≡ new
Leads ops terms (line ∷ lines) old new =
    (s : Step) × (step_line s ≡ line) × IsStep terms s × Leads ops terms lines (after_step ops terms s old) new

-- lines were added that do so
pub record IsLogged {D : Type 0} (ops : DomainOps D) (terms : List Term) (old : List D) (lines : List Line) (new : List D) (more : List Line) : Type 0 where
  pub added : List Line
  pub lines_are : more ≡ lines ++ added
  pub leads : Leads ops terms added old new

-- the cells are of the problem, changes were kept, and the steps logged
pub record IsProgress {D : Type 0} (ops : DomainOps D) (terms : List Term) (old : List D) (trail : List (ℕ × D)) (lines : List Line) (new : List D) (longer : List (ℕ × D)) (more : List Line) : Type 0 where
  pub cells : AreCells ops terms new
  pub kept : IsKept old trail new longer
  pub logged : IsLogged ops terms old lines new more

-- the cell of the term is empty; or none is, and this holds
abbrev pub IsEnd : {D : Type 0} → DomainOps D → List Term → Settled → List D → Type 0 → Type 0
IsEnd ops terms Quiet cells P = HasNoEmpty ops cells × P
IsEnd ops terms (Empty t) cells P = (t < length terms) × (ops.is_empty (cell_at ops cells t) ≡ true)

-- what the old cells hold of assignments, the new ones hold
abbrev pub KeepsHeld : {D : Type 0} → DomainOps D → List Term → List D → List D → Type 0
KeepsHeld ops terms old new = (numbers : List ℕ) → HoldAssignment ops terms old numbers → HoldAssignment ops terms new numbers

-- where settling ended at an empty cell, the old cells hold no assignment
abbrev pub HoldsNone : {D : Type 0} → DomainOps D → List Term → Settled → List D → Type 0
HoldsNone ops terms Quiet old = Unit {0}
HoldsNone ops terms (Empty t) old = (numbers : List ℕ) → HoldAssignment ops terms old numbers → ⊥
