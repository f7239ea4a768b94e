use Rattle.std.proofs.Common.{◌≡◌, ◌<◌, ℕ, length, get_or}
use Rattle.dt_terms.specs.Terms.{choices_of}
use Rattle.dt_check.specs.Trials.{pick_at}
use Rattle.dt_check.proofs.trial.write_picks.Given as goal

abbrev pub invariant-loop-choice : goal.invariant-loop-choice
invariant-loop-choice g l = record {
  count : length l.out ≡ length (choices_of l.problem.terms);
  picks : (k : ℕ) → k < l.choice → get_or l.out k 0 ≡ pick_at g.D.Domain.ops l.cells (get_or (choices_of l.problem.terms) k 0);
}
