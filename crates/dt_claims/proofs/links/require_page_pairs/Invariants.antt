use Rattle.std.proofs.Common.{◌≡◌, drop, map}
use Rattle.std.specs.List.{flat_map}
use Rattle.dt_build.specs.Building.{claimed}
use Rattle.dt_table.specs.Links.{page_if}
use Rattle.dt_claims.specs.Relations.{page_relation_form}
use Rattle.dt_claims.specs.Views.{spot, access_of}
use Rattle.dt_claims.proofs.links.require_page_pairs.Given as goal

abbrev pub invariant-loop-page : goal.invariant-loop-page
invariant-loop-page l = claimed l.builder (flat_map (λ x. flat_map (page_if (page_relation_form (access_of l.places) l.relation) x) (map spot l.others)) (map spot (drop l.page-index l.pages))) ≡ claimed l.initial.builder (flat_map (λ x. flat_map (page_if (page_relation_form (access_of l.places) l.relation) x) (map spot l.others)) (map spot l.pages))
