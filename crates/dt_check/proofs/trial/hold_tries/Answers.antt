use Rattle.std.proofs.Common.{sym, arith}
use Rattle.dt_check.specs.Tests.{is_try}
use Rattle.dt_check.proofs.Testing.{all_from}
use Rattle.dt_check.proofs.trial.hold_tries.Goals as goal

pub returns : goal.returns
returns g c = let past = c.loop-tried-test.false in sym (all_from (is_try g.D.Domain.ops c.args.problem.now.terms c.args.cells.now) c.args.tries.now (0, 0) (λ k l. c.loop-tried.invariant k (omega arith)))
