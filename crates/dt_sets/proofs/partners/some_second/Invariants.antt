use Rattle.std.proofs.Common.{◌≡◌, false, take}
use Rattle.std.specs.List.{list_any}
use Rattle.dt_bits.specs.Ops.{value_of}
use Rattle.dt_sets.specs.Sets.{listed, sets_holds}
use Rattle.dt_sets.specs.Forward.{valued}
use Rattle.dt_sets.proofs.partners.some_second.Given as goal

-- no number so far gives one of the result
abbrev pub invariant-loop-place : goal.invariant-loop-place
invariant-loop-place l =
    list_any (λ y. list_any (λ z. sets_holds l.outcome (value_of l.op l.x (valued l.b.width y) (valued l.c.width z))) (listed l.c)) (take l.place (listed l.b)) ≡ false
