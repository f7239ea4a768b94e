use Rattle.std.proofs.Common.{◌≡◌, drop, map}
use Rattle.std.specs.List.{flat_map}
use Rattle.dt_build.specs.Building.{claimed}
use Rattle.dt_table.specs.Kept.{kept_form}
use Rattle.dt_table.specs.Spots.{only_if}
use Rattle.dt_claims.specs.Views.{spot, access_of}
use Rattle.dt_claims.proofs.kept.require_pages_kept.Given as goal

abbrev pub invariant-loop-page : goal.invariant-loop-page
invariant-loop-page l = claimed l.builder (flat_map (λ x. only_if x.live (kept_form (access_of l.places) l.kept (λ o. o.come) x.of)) (map spot (drop l.page-index l.pages))) ≡ claimed l.initial.builder (flat_map (λ x. only_if x.live (kept_form (access_of l.places) l.kept (λ o. o.come) x.of)) (map spot l.pages))
