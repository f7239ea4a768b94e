-- What holds during a search.
use Rattle.std.specs.Prelude.{◌≡◌, ◌≢◌, ℕ, ◌+◌, ◌*◌, ◌-◌, ◌<◌, ◌≤◌, Bool, true, false, Option, Some, None, List, [], ◌∷◌, length, reverse, All}
use Rattle.std.specs.List.{AllByRecursion}
use Rattle.dt_domain.specs.Domain.{DomainOps}
use Rattle.dt_terms.specs.declared.term.Term.{Term}
use Rattle.dt_terms.specs.Terms.{choices_of}
use Rattle.dt_terms.specs.Problem.{ProblemData}
use Rattle.dt_terms.specs.Values.{IsAssignment, solves}
use Rattle.dt_box.specs.Cells.{cell_at, AreCells, HoldAssignment}
use Rattle.dt_box.specs.Stillness.{HasNoEmpty, IsSettled}
use Rattle.dt_box.specs.Unknown.{IsUnknownBit, AreRequiredKnown}
use Rattle.dt_box.specs.Watching.{Covers}
use Rattle.dt_log.specs.declared.line.Line.{Line}
use Rattle.dt_log.specs.declared.line.Claim.TheVariants.{Budget}
use Rattle.dt_log.specs.Shapes.{shape}
use Rattle.dt_log.specs.Shapes as shapes
use Rattle.dt_check.specs.declared.pending.Pending.{Pending}
use Rattle.dt_check.specs.Trials.{tried}
use Rattle.dt_check.specs.Reading.{reading, at_first, after_lines, Passes}
use Rattle.dt_check.specs.Along.{trials_along}
use Rattle.dt_check.specs.Waiting.{waiting, Stacked, AtSplits}
use Rattle.dt_check.specs.Trying.{IsTrial}
use Rattle.dt_propagate.specs.Settling.{IsEnd}
use Rattle.dt_solve.specs.Tries.{held_or_picks}
use Rattle.dt_solve.specs.declared.turning.Start.{Start}
use Rattle.dt_solve.specs.declared.turning.Start.TheVariants.{Ended, Changed}
use Rattle.dt_solve.specs.declared.turning.Search.{Search}
use Rattle.dt_solve.specs.declared.turning.Turned.{Turned}
use Rattle.dt_solve.specs.declared.turning.Turned.TheVariants.{More, Found, Refuted, Spent}

-- ---- where a turn begins

-- all but this term's cell are as in settled cells: a step that tells something new is near the term, and no
-- other cell is empty
pub record HasChanged {D : Type 0} (ops : DomainOps D) (terms : List Term) (cells : List D) (t : ℕ) : Type 0 where
  pub within : t < length terms
  pub covers : Covers ops terms cells (t ∷ [])
  pub held : (u : ℕ) → u < length cells → u ≢ t → ops.is_empty (cell_at ops cells u) ≡ false

-- what is known of the cells
abbrev pub IsStart : {D : Type 0} → DomainOps D → List Term → Start → List D → Type 0
IsStart ops terms (Ended end) cells = IsEnd ops terms end cells (IsSettled ops terms cells)
IsStart ops terms (Changed t) cells = HasChanged ops terms cells t

-- the term whose cell changed, where one did
abbrev pub changed_term : Start → Option ℕ
changed_term (Ended end) = None
changed_term (Changed t) = Some t

-- ---- the trees that wait

-- at these cells there was a split on the bit: they were settled, the bit wasn't known, and required terms
-- were known to be 1
pub record CanTurn {D : Type 0} (ops : DomainOps D) (p : ProblemData) (cells : List D) (q : Pending) : Type 0 where
  pub cells_are : AreCells ops p.terms cells
  pub settled : IsSettled ops p.terms cells
  pub unknown : IsUnknownBit ops p.terms cells q.term q.bit
  pub required : AreRequiredKnown ops p cells

-- ---- what was written

-- what was tried follows these numbers
abbrev pub FollowsAt : {D : Type 0} → DomainOps D → List Term → List ℕ → List D × List (ℕ × ℕ) → Type 0
FollowsAt ops terms numbers trial = tried ops terms trial.0 trial.1 ≡ held_or_picks ops terms trial.0 numbers

-- so does all that was tried, where an aim with a number for each choice is told
abbrev pub AllFollow : {D : Type 0} → DomainOps D → List Term → Option (List ℕ) → List (List D × List (ℕ × ℕ)) → Type 0
AllFollow ops terms aim trials =
    (numbers : List ℕ) → aim ≡ Some numbers → length numbers ≡ length (choices_of terms) → AllByRecursion (FollowsAt ops terms numbers) trials

-- the lines pass the checker, and leave the trees that begin with these cells
pub record IsRead {D : Type 0} (ops : DomainOps D) (p : ProblemData) (limit : ℕ) (aim : Option (List ℕ)) (lines : List Line) (stack : List (List D)) (splits : ℕ) (opened : Bool) : Type 0 where
  pub passes : Passes ops p (Budget limit) lines (at_first ops p)
  pub after : after_lines ops p.terms lines (at_first ops p) ≡ reading stack [] splits opened
  pub shape : shapes.after_lines (shape 1 false) lines ≡ Some (shape (length stack) false)
  pub follow : AllFollow ops p.terms aim (trials_along ops p.terms lines (at_first ops p))

-- ---- aims

-- an aim that solves the problem is held
abbrev pub HoldAim : {D : Type 0} → DomainOps D → ProblemData → Option (List ℕ) → List D → Type 0
HoldAim ops p aim cells =
    (numbers : List ℕ) → aim ≡ Some numbers → IsAssignment p.terms numbers → solves p numbers ≡ true → HoldAssignment ops p.terms cells numbers

-- where an aim that solves the problem is told, these numbers are the aim
abbrev pub AreAim : ProblemData → Option (List ℕ) → List ℕ → Type 0
AreAim p aim found = (numbers : List ℕ) → aim ≡ Some numbers → IsAssignment p.terms numbers → solves p numbers ≡ true → found ≡ numbers

-- no aim that solves the problem is told
abbrev pub NoAim : ProblemData → Option (List ℕ) → Type 0
NoAim p aim = (numbers : List ℕ) → aim ≡ Some numbers → IsAssignment p.terms numbers → solves p numbers ≡ true → ⊥

-- ---- a search

-- a tree is begun with these cells, and others wait
pub record IsSearching {D : Type 0} (ops : DomainOps D) (p : ProblemData) (limit : ℕ) (aim : Option (List ℕ)) (cells : List D) (trail : List (ℕ × D)) (pending : List Pending) (lines : List Line) (splits : ℕ) : Type 0 where
  pub cells_are : AreCells ops p.terms cells
  pub within : All (λ change. change.0 < length cells) trail
  pub stacked : Stacked (length trail) (reverse pending)
  pub turns : AtSplits (CanTurn ops p) cells trail (reverse pending)
  pub read : IsRead ops p limit aim lines (cells ∷ waiting ops cells trail (reverse pending)) splits false
  pub required : HasNoEmpty ops cells → AreRequiredKnown ops p cells
  pub aimed : HoldAim ops p aim cells
  pub most : splits ≤ limit

-- how much is left to do
abbrev pub left : ℕ → ℕ → List Pending → ℕ
left limit splits pending = 2 * (limit - splits) + length pending

-- a search stands so
pub record IsAt {D : Type 0} (ops : DomainOps D) (p : ProblemData) (limit : ℕ) (aim : Option (List ℕ)) (s : Search D) : Type 0 where
  pub searching : IsSearching ops p limit aim s.cells s.trail s.pending.items s.draft.lines s.splits
  pub start : IsStart ops p.terms s.start s.cells
  pub trial : IsTrial ops p.terms s.cells s.trail s.trial

-- what a turn leads to: less is left to do; or numbers that solve; or a draft in which nothing is left to
-- read
abbrev pub IsTurned : {D : Type 0} → DomainOps D → ProblemData → ℕ → Option (List ℕ) → Search D → Turned → Search D → List ℕ → Type 0
IsTurned ops p limit aim old More new numbers =
    IsAt ops p limit aim new × (left limit new.splits new.pending.items < left limit old.splits old.pending.items)
IsTurned ops p limit aim old Found new numbers = IsAssignment p.terms numbers × (solves p numbers ≡ true) × AreAim p aim numbers
IsTurned ops p limit aim old Refuted new numbers = IsRead ops p limit aim new.draft.lines [] new.splits false × NoAim p aim
IsTurned ops p limit aim old Spent new numbers = IsRead ops p limit aim new.draft.lines [] limit true × NoAim p aim
