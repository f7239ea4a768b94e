use Rattle.std.proofs.Common.{◌≡◌, length, drop}
use Rattle.dt_terms.specs.Terms.{choices_of}
use Rattle.dt_check.specs.Trials.{with_tries, tried}
use Rattle.dt_check.proofs.trial.write_tried.Given as goal

abbrev pub invariant-loop-pair : goal.invariant-loop-pair
invariant-loop-pair g l = record {
  count : length l.out ≡ length (choices_of l.problem.terms);
  rest : with_tries l.out (drop l.pair-index l.tries) ≡ tried g.D.Domain.ops l.problem.terms l.cells l.tries;
}
