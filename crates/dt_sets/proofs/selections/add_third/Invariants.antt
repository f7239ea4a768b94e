use Rattle.std.proofs.Common.{◌≡◌, take}
use Rattle.std.specs.List.{fold}
use Rattle.dt_bits.specs.Ops.{value_of}
use Rattle.dt_sets.specs.Sets.{listed}
use Rattle.dt_sets.specs.Gather.{added, IsGathering}
use Rattle.dt_sets.specs.Forward.{valued}
use Rattle.dt_sets.proofs.selections.add_third.Given as goal

-- the values of the numbers so far are put in
abbrev pub invariant-loop-place : goal.invariant-loop-place
invariant-loop-place l = record {
  is : l.gathered ≡ fold (λ s z. added s (value_of l.op l.x l.y (valued l.c.width z))) l.initial.gathered (take l.place (listed l.c));
  valid : IsGathering l.gathered;
}
