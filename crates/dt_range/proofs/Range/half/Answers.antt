use Rattle.std.proofs.Common.{arith}
use Rattle.dt_lemmas.proofs.Powers.{middle_positive}
use Rattle.dt_range.proofs.Range.half.Goals as goal

pub overflow_sub-middle : goal.overflow_sub-middle
overflow_sub-middle c = let s = c.args.self.now in middle_positive s.lo s.hi c.args.bit c.requires.order (omega arith) c.requires.unknown
