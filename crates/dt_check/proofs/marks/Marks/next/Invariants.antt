use Rattle.std.proofs.Common.{◌*◌}
use Rattle.dt_check.specs.Marks.{HasNone}
use Rattle.dt_check.proofs.marks.Marks.next.Given as goal

-- none is marked in the blocks up to here
abbrev pub invariant-loop-block : goal.invariant-loop-block
invariant-loop-block l = HasNone l.self.marks.items l.from (l.block * 512)
