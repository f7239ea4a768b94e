use Rattle.std.proofs.Common.{sym, arith}
use Rattle.dt_lemmas.proofs.Powers.{quotient_zero}
use Rattle.dt_claims.proofs.terms.quotient.Goals as goal

pub returns-else-exponent-lt128 : goal.returns-else-exponent-lt128
returns-else-exponent-lt128 c = sym (quotient_zero c.args.number c.args.exponent (omega (arith, c.ranges.number)) c.if-exponent-lt128.false)
