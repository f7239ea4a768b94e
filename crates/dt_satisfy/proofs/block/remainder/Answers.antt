use Rattle.std.proofs.Common.{sym, arith}
use Rattle.dt_lemmas.proofs.Powers.{remainder_whole}
use Rattle.dt_satisfy.proofs.block.remainder.Goals as goal

pub returns-else-exponent-lt128 : goal.returns-else-exponent-lt128
returns-else-exponent-lt128 c = sym (remainder_whole c.args.address c.args.exponent (omega (arith, c.ranges.address)) c.if-exponent-lt128.false)
