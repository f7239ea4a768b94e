use Rattle.std.proofs.Common.{arith}
use Rattle.dt_walk.proofs.Sound.{zeros}
use Rattle.dt_walk.proofs.walker.unbind.Goals as goal

pub returns : goal.returns
returns c = zeros c.loop-x.vars (λ k l. c.loop-x.invariant k (omega arith))
