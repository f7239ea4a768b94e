use Rattle.std.proofs.Common.{◌≡◌, drop, map}
use Rattle.std.specs.List.{flat_map}
use Rattle.dt_build.specs.Building.{claimed}
use Rattle.dt_table.specs.Pairs.{apart_if}
use Rattle.dt_claims.specs.Views.{spot, access_of}
use Rattle.dt_claims.proofs.apart.require_page_apart.Given as goal

abbrev pub invariant-loop-table : goal.invariant-loop-table
invariant-loop-table l = claimed l.builder (flat_map (apart_if (access_of l.places) (spot l.page)) (map spot (drop l.table-index l.tables))) ≡ claimed l.initial.builder (flat_map (apart_if (access_of l.places) (spot l.page)) (map spot l.tables))
