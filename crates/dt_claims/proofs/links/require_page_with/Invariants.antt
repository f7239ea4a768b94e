use Rattle.std.proofs.Common.{◌≡◌, drop, map}
use Rattle.std.specs.List.{flat_map}
use Rattle.dt_build.specs.Building.{claimed}
use Rattle.dt_table.specs.Links.{page_if}
use Rattle.dt_claims.specs.Relations.{page_relation_form}
use Rattle.dt_claims.specs.Views.{spot, access_of}
use Rattle.dt_claims.proofs.links.require_page_with.Given as goal

abbrev pub invariant-loop-other : goal.invariant-loop-other
invariant-loop-other l = claimed l.builder (flat_map (page_if (page_relation_form (access_of l.places) l.relation) (spot l.page)) (map spot (drop l.other-index l.others))) ≡ claimed l.initial.builder (flat_map (page_if (page_relation_form (access_of l.places) l.relation) (spot l.page)) (map spot l.others))
