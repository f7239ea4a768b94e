use Rattle.std.proofs.Common.{List, ◌++◌, map, refl, ◌∙◌}
use Rattle.std.specs.List.{flat_map}
use Rattle.dt_table.specs.Unlike.{page_unlikes}
use Rattle.dt_claims.specs.declared.spots.SpotOut.{SpotOut}
use Rattle.dt_claims.specs.Views.{spot}
use Rattle.dt_claims.proofs.Steps.{gathered}
use Rattle.dt_claims.proofs.unlike.push_page_with.Goals as goal

pub loop-other-preserved : goal.loop-other-preserved
loop-other-preserved c =
    let terms = c.args.terms.now in
    let page = spot c.args.page.now in
    gathered (λ (xs : List SpotOut). flat_map (page_unlikes terms page) (map spot xs)) (λ (x : SpotOut). page_unlikes terms page (spot x)) (λ x xs. refl)
    c.loop-other.found.items c.push_page.new.found.items _ c.args.others.now c.loop-other.other-index c.other-item.result c.loop-other-test.true
    (c.in_ok-push_page.ensures ∙ (λ i. c.loop-other.found.items ++ page_unlikes terms page (spot (c.other-item.is i)))) c.loop-other.invariant
