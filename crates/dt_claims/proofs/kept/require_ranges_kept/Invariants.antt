use Rattle.std.proofs.Common.{◌≡◌, map, drop}
use Rattle.std.specs.List.{flat_map}
use Rattle.dt_build.specs.Building.{claimed}
use Rattle.dt_table.specs.Kept.{kept_forms}
use Rattle.dt_claims.specs.Views.{spot, access_of}
use Rattle.dt_claims.proofs.kept.require_ranges_kept.Given as goal

abbrev pub invariant-loop-kept : goal.invariant-loop-kept
invariant-loop-kept l = claimed l.builder (flat_map (kept_forms (access_of l.places) (map spot l.pages) (map spot l.tables)) (drop l.kept-index l.ranges)) ≡ claimed l.initial.builder (flat_map (kept_forms (access_of l.places) (map spot l.pages) (map spot l.tables)) l.ranges)
