use Rattle.std.proofs.Common.{◌≡◌, false, take}
use Rattle.dt_sets.specs.Sets.{listed}
use Rattle.dt_sets.specs.Backward.{some_give}
use Rattle.dt_sets.proofs.partners.some_first.Given as goal

-- no number so far gives one of the result
abbrev pub invariant-loop-place : goal.invariant-loop-place
invariant-loop-place l = some_give l.op l.outcome l.a l.b l.c (take l.place (listed l.a)) (listed l.b) (listed l.c) ≡ false
