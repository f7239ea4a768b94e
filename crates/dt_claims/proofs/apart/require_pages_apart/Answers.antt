use Rattle.std.proofs.Common.{List, refl, map, ◌∙◌}
use Rattle.std.specs.List.{flat_map}
use Rattle.dt_build.specs.Building.{claimed}
use Rattle.dt_claims.specs.declared.spots.SpotOut.{SpotOut}
use Rattle.dt_table.specs.Pairs.{apart_if, apart_forms}
use Rattle.dt_claims.specs.Views.{spot, access_of}
use Rattle.dt_claims.proofs.Turns.{turn}
use Rattle.dt_claims.proofs.apart.require_pages_apart.Goals as goal

pub loop-page-preserved : goal.loop-page-preserved
loop-page-preserved c =
    turn (λ (xs : List SpotOut). apart_forms (access_of c.args.places) (map spot xs) (map spot c.args.tables.now)) (λ (x : SpotOut) (xs : List SpotOut). flat_map (apart_if (access_of c.args.places) (spot x)) (map spot c.args.tables.now)) (λ x xs. refl)
    c.loop-page.builder c.require_page_apart.new.builder _ c.args.pages.now c.loop-page.page-index c.page-item.result c.loop-page-test.true
    (c.in_ok-require_page_apart.ensures ∙ (λ i. claimed c.loop-page.builder (flat_map (apart_if (access_of c.args.places) (spot (c.page-item.is i))) (map spot c.args.tables.now)))) c.loop-page.invariant
