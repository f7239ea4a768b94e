use Rattle.std.proofs.Common.{◌≡◌, drop, map}
use Rattle.dt_build.specs.Building.{claimed}
use Rattle.dt_table.specs.Pairs.{apart_forms}
use Rattle.dt_claims.specs.Views.{spot, access_of}
use Rattle.dt_claims.proofs.apart.require_pages_apart.Given as goal

abbrev pub invariant-loop-page : goal.invariant-loop-page
invariant-loop-page l = claimed l.builder (apart_forms (access_of l.places) (map spot (drop l.page-index l.pages)) (map spot l.tables)) ≡ claimed l.initial.builder (apart_forms (access_of l.places) (map spot l.pages) (map spot l.tables))
