use Rattle.std.proofs.Common.{◌≡◌, drop}
use Rattle.dt_check.specs.Trials.{with_tries, tried}
use Rattle.dt_check.specs.Evaluating.{numbers_of}
use Rattle.dt_check.specs.Trying.{IsTrying}
use Rattle.dt_check.proofs.trial.Trial.take_tries.Given as goal

abbrev pub invariant-loop-pair : goal.invariant-loop-pair
invariant-loop-pair g l = record {
  trying : IsTrying g.D.Domain.ops l.problem.terms l.cells l.self;
  rest : with_tries (numbers_of l.problem.terms l.self.evaluation.values.items) (drop l.pair-index l.tries) ≡ tried g.D.Domain.ops l.problem.terms l.cells l.tries;
  seen : l.self.seen ≡ l.fn.self.seen;
}
