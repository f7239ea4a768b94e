use Rattle.std.proofs.Common.{◌≡◌, drop, map}
use Rattle.std.specs.List.{flat_map}
use Rattle.dt_build.specs.Building.{claimed}
use Rattle.dt_table.specs.Pairs.{pair_if}
use Rattle.dt_claims.specs.Views.{spot}
use Rattle.dt_claims.proofs.pairs.require_pairs_of.Given as goal

abbrev pub invariant-loop-other : goal.invariant-loop-other
invariant-loop-other l = claimed l.builder (flat_map (pair_if (spot l.read)) (map spot (drop l.other-index l.others))) ≡ claimed l.initial.builder (flat_map (pair_if (spot l.read)) (map spot l.others))
