use Rattle.std.proofs.Common.{◌≡◌, map, take}
use Rattle.std.specs.List.{fold}
use Rattle.dt_bits.specs.Ops.{value_of}
use Rattle.dt_sets.specs.Sets.{listed}
use Rattle.dt_sets.specs.Gather.{added_all, IsGathering}
use Rattle.dt_sets.specs.Forward.{valued}
use Rattle.dt_sets.proofs.selections.add_second.Given as goal

-- the values with the numbers so far are put in
abbrev pub invariant-loop-place : goal.invariant-loop-place
invariant-loop-place l = record {
  is : l.gathered
      ≡ fold (λ s y. added_all s (map (λ z. value_of l.op l.x (valued l.b.width y) (valued l.c.width z)) (listed l.c))) l.initial.gathered (take l.place (listed l.b));
  valid : IsGathering l.gathered;
}
