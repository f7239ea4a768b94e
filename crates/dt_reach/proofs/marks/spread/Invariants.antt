use Rattle.std.proofs.Common.{◌≡◌, drop}
use Rattle.dt_reach.specs.Reach.{spread}
use Rattle.dt_reach.proofs.marks.spread.Given as goal

abbrev pub invariant-loop-n : goal.invariant-loop-n
invariant-loop-n l = spread (drop l.n l.ways) l.n l.marks.items ≡ spread l.ways 0 l.initial.marks.items
