use Rattle.std.proofs.Common.{List, refl, map, ◌∙◌}
use Rattle.std.specs.List.{flat_map}
use Rattle.dt_build.specs.Building.{claimed}
use Rattle.dt_claims.specs.declared.spots.SpotOut.{SpotOut}
use Rattle.dt_table.specs.Links.{page_if}
use Rattle.dt_claims.specs.Relations.{page_relation_form}
use Rattle.dt_claims.specs.Views.{spot, access_of}
use Rattle.dt_claims.proofs.Turns.{turn}
use Rattle.dt_claims.proofs.links.require_page_pairs.Goals as goal

pub loop-page-preserved : goal.loop-page-preserved
loop-page-preserved c =
    turn (λ (xs : List SpotOut). flat_map (λ x. flat_map (page_if (page_relation_form (access_of c.args.places) c.args.relation) x) (map spot c.args.others.now)) (map spot xs)) (λ (x : SpotOut) (xs : List SpotOut). flat_map (page_if (page_relation_form (access_of c.args.places) c.args.relation) (spot x)) (map spot c.args.others.now)) (λ x xs. refl)
    c.loop-page.builder c.require_page_with.new.builder _ c.args.pages.now c.loop-page.page-index c.page-item.result c.loop-page-test.true
    (c.in_ok-require_page_with.ensures ∙ (λ i. claimed c.loop-page.builder (flat_map (page_if (page_relation_form (access_of c.args.places) c.args.relation) (spot (c.page-item.is i))) (map spot c.args.others.now)))) c.loop-page.invariant
