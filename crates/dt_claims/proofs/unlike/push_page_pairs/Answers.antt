use Rattle.std.proofs.Common.{List, ◌++◌, map, refl, ◌∙◌}
use Rattle.std.specs.List.{flat_map}
use Rattle.dt_table.specs.Unlike.{page_unlikes}
use Rattle.dt_claims.specs.declared.spots.SpotOut.{SpotOut}
use Rattle.dt_claims.specs.Views.{spot}
use Rattle.dt_claims.proofs.Steps.{gathered}
use Rattle.dt_claims.proofs.unlike.push_page_pairs.Goals as goal

pub loop-page-preserved : goal.loop-page-preserved
loop-page-preserved c =
    let terms = c.args.terms.now in
    let others = map spot c.args.others.now in
    gathered (λ (xs : List SpotOut). flat_map (λ x. flat_map (page_unlikes terms x) others) (map spot xs)) (λ (x : SpotOut). flat_map (page_unlikes terms (spot x)) others) (λ x xs. refl)
    c.loop-page.found.items c.push_page_with.new.found.items _ c.args.pages.now c.loop-page.page-index c.page-item.result c.loop-page-test.true
    (c.in_ok-push_page_with.ensures ∙ (λ i. c.loop-page.found.items ++ flat_map (page_unlikes terms (spot (c.page-item.is i))) others)) c.loop-page.invariant
