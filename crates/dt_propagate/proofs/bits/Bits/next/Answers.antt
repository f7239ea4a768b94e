use Rattle.std.proofs.Common.{arith}
use Rattle.dt_propagate.proofs.Marking.{past_words}
use Rattle.dt_propagate.proofs.bits.Bits.next.Goals as goal

pub returns-then-first-len : goal.returns-then-first-len
returns-then-first-len c = λ i l. past_words c.args.self.now.words.items i (omega (arith, c.len.ensures, c.if-first-len.true))
