use Rattle.std.proofs.Common.{◌≡◌, ◌<◌, ◌≤◌, ℕ, length, get_or}
use Rattle.dt_terms.specs.Terms.{choices_of}
use Rattle.dt_check.specs.Records.{aimed}
use Rattle.dt_solve.proofs.tried.hold_all.Given as goal

abbrev pub invariant-loop-choice : goal.invariant-loop-choice
invariant-loop-choice g l = record {
  count : length l.out ≡ length (choices_of l.problem.terms);
  held : (k : ℕ) → k < l.choice → get_or l.out k 0 ≡ aimed g.D.Domain.ops l.problem.terms l.cells l.fn.out k;
  later : (k : ℕ) → l.choice ≤ k → get_or l.out k 0 ≡ get_or l.fn.out k 0;
}
