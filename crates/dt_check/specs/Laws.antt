-- What the checker's verdicts say, over trees.
use Rattle.std.specs.Prelude.{◌≡◌, ◌↔◌, ◌+◌, ◌≤◌, ◌^◌, ℕ, Bool, true, false, List}
use Rattle.std.specs.List.{AllByRecursion}
use Rattle.dt_domain.specs.Domain.{DomainOps, KnowsBit}
use Rattle.dt_terms.specs.declared.term.Term.{Term}
use Rattle.dt_terms.specs.Problem.{ProblemData, IsProblem}
use Rattle.dt_terms.specs.Terms.{AreTerms, choices_of}
use Rattle.dt_terms.specs.Values.{IsAssignment, solves}
use Rattle.dt_box.specs.declared.step.Step.{Step}
use Rattle.dt_box.specs.Cells.{cell_at, AreCells, root_cells}
use Rattle.dt_box.specs.Steps.{IsStep, after_step}
use Rattle.dt_box.specs.Stillness.{IsSettled}
use Rattle.dt_box.specs.Unknown.{unknown_bits, bits_of_choices, AreRequiredKnown}
use Rattle.dt_log.specs.declared.line.Line.{Line}
use Rattle.dt_log.specs.declared.line.Claim.{Claim}
use Rattle.dt_log.specs.Trees.{Tree, lines_of, splits_of, StandsFor}
use Rattle.dt_log.specs.declared.line.Claim.TheVariants.{Impossible, Budget}
use Rattle.dt_check.specs.declared.verdict.Verdict.TheVariants.{Closed, Unfinished}
use Rattle.dt_check.specs.Trials.{tried, IsTry}
use Rattle.dt_check.specs.Sound.{Refutes}
use Rattle.dt_check.specs.Records.{IsRecord, unknown_first}
use Rattle.dt_check.specs.Reading.{verdict_of}

-- the log of these lines refutes the problem, with s splits
pub record Refutation {D : Type 0} (ops : DomainOps D) (p : ProblemData) (claim : Claim) (lines : List Line) (s : ℕ) : Type 0 where
  pub claims : claim ≡ Impossible
  pub tree : Tree
  pub stands : StandsFor lines tree
  pub refutes : Refutes ops p tree
  pub splits : splits_of tree ≡ s

-- the log of these lines is the record of a search that ended after n splits
pub record Record {D : Type 0} (ops : DomainOps D) (p : ProblemData) (claim : Claim) (lines : List Line) (n : ℕ) : Type 0 where
  pub claims : claim ≡ Budget n
  pub tree : Tree
  pub stands : StandsFor lines tree
  pub recorded : IsRecord ops p tree n

-- Closed comes exactly for refutations, with their splits
abbrev pub ClosedIsRefuted : {D : Type 0} → DomainOps D → Type 0
ClosedIsRefuted ops = (p : ProblemData) (tree : Tree) (s : ℕ) → (verdict_of ops p Impossible (lines_of tree) ≡ Closed s) ↔ (Refutes ops p tree × (splits_of tree ≡ s))

-- Unfinished comes exactly for records
abbrev pub UnfinishedIsRecord : {D : Type 0} → DomainOps D → Type 0
UnfinishedIsRecord ops = (p : ProblemData) (tree : Tree) (n : ℕ) → (verdict_of ops p (Budget n) (lines_of tree) ≡ Unfinished n) ↔ IsRecord ops p tree n

-- a problem that a tree refutes has no solving assignment
abbrev pub RefutedHasNone : {D : Type 0} → DomainOps D → Type 0
RefutedHasNone ops = (p : ProblemData) (tree : Tree) (numbers : List ℕ) → IsProblem p → Refutes ops p tree → IsAssignment p.terms numbers → solves p numbers ≡ true → ⊥

-- a record has fewer splits than two to the number of bits of choices that aren't known at its first
-- item that is no step, less 1; so too with the bits of all choices
abbrev pub RecordsAreShort : {D : Type 0} → DomainOps D → Type 0
RecordsAreShort ops =
    (p : ProblemData) (tree : Tree) (n : ℕ) → IsProblem p → IsRecord ops p tree n
    → (n + 2 ≤ 2 ^ unknown_first ops p.terms tree (root_cells ops p)) × (n + 2 ≤ 2 ^ bits_of_choices p.terms (choices_of p.terms))

-- a cell that isn't empty after a step knows each bit that it knew
abbrev pub StepsKeepBits : {D : Type 0} → DomainOps D → Type 0
StepsKeepBits {D} ops =
    (terms : List Term) (step : Step) (cells : List D) (t i : ℕ) (v : Bool) → AreTerms terms → AreCells ops terms cells → IsStep terms step
    → ops.is_empty (cell_at ops (after_step ops terms step cells) t) ≡ false
    → KnowsBit ops (cell_at ops cells t) i v → KnowsBit ops (cell_at ops (after_step ops terms step cells) t) i v

-- in the root cells each required term is known to be 1
abbrev pub RootsRequire : {D : Type 0} → DomainOps D → Type 0
RootsRequire ops = (p : ProblemData) → IsProblem p → AreRequiredKnown ops p (root_cells ops p)

-- where required terms are known to be 1, at settled cells in which every bit of every choice is known, what
-- is tried solves the problem
abbrev pub DecidedSolves : {D : Type 0} → DomainOps D → Type 0
DecidedSolves {D} ops =
    (p : ProblemData) (cells : List D) (tries : List (ℕ × ℕ)) → IsProblem p → AreCells ops p.terms cells → AreRequiredKnown ops p cells
    → IsSettled ops p.terms cells → unknown_bits ops p.terms cells ≡ 0
    → AllByRecursion (IsTry ops p.terms cells) tries → solves p (tried ops p.terms cells tries) ≡ true
