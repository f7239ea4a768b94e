use Rattle.std.proofs.Common.{◌≡◌, map, take}
use Rattle.std.specs.List.{flat_map, fold}
use Rattle.dt_sets.specs.Sets.{listed}
use Rattle.dt_sets.specs.Gather.{added_all, IsGathering}
use Rattle.dt_sets.specs.Forward.{value_with}
use Rattle.dt_sets.proofs.selections.add_first.Given as goal

-- the values with the numbers so far are put in
abbrev pub invariant-loop-place : goal.invariant-loop-place
invariant-loop-place l = record {
  is : l.gathered
      ≡ fold (λ s x. added_all s (flat_map (λ y. map (λ z. value_with l.op l.a l.b l.c x y z) (listed l.c)) (listed l.b))) l.initial.gathered (take l.place (listed l.a));
  valid : IsGathering l.gathered;
}
