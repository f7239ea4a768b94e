use Rattle.std.proofs.Common.{◌≡◌, ◌<◌, ℕ, true, get_or}
use Rattle.dt_check.specs.Tests.{is_try}
use Rattle.dt_check.proofs.trial.hold_tries.Given as goal

abbrev pub invariant-loop-tried : goal.invariant-loop-tried
invariant-loop-tried g l = (k : ℕ) → k < l.tried-index → is_try g.D.Domain.ops l.problem.terms l.cells (get_or l.tries k (0, 0)) ≡ true
