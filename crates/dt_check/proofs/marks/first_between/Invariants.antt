use Rattle.dt_check.specs.Marks.{HasNone}
use Rattle.dt_check.proofs.marks.first_between.Given as goal

-- none up to here is marked
abbrev pub invariant-loop-at : goal.invariant-loop-at
invariant-loop-at l = HasNone l.marks l.from l.at
