use Rattle.std.proofs.Common.{◌≡◌, ◌≤◌, ◌-◌, ℕ, true, length, get_or}
use Rattle.dt_terms.specs.Terms.{is_choice, term_at}
use Rattle.dt_check.specs.Marks.{HasNone}
use Rattle.dt_check.specs.Evaluating.{AreSeenTo}
use Rattle.dt_check.proofs.evaluation.Evaluation.evaluate_marked.Given as goal

-- none is marked before this term, and no choice's value has changed
abbrev pub invariant-terms : goal.invariant-terms
invariant-terms l = record {
  from : l.from ≤ length l.problem.terms;
  seen_to : AreSeenTo l.problem.terms l.self.values.items l.self.marks.marks.items;
  before : HasNone l.self.marks.marks.items 0 l.from;
  choices : (t : ℕ) → is_choice (term_at l.problem.terms t) ≡ true → get_or l.self.values.items t 0 ≡ get_or l.fn.self.values.items t 0;
  failed : l.self.failed ≡ l.fn.self.failed;
}

abbrev pub decreases-terms : goal.decreases-terms
decreases-terms l = length l.problem.terms - l.from
