use Rattle.std.proofs.Common.{◌++◌, map, ap, ◌∙◌}
use Rattle.std.specs.List.{flat_map}
use Rattle.std.proofs.lemmas.Result.{on_ok_weaker}
use Rattle.dt_table.specs.Unlike.{page_unlikes}
use Rattle.dt_claims.specs.Views.{spot}
use Rattle.dt_claims.proofs.unlike.push_pages.Goals as goal

pub returns : goal.returns
returns c =
    let terms = c.args.terms.now in
    let pages = ap (map spot) c.as_slice.ensures.value ∙ c.in_ok-pages.ensures in
    let others = ap (map spot) c.as_slice-2.ensures.value ∙ c.in_ok-others.ensures in
    on_ok_weaker c.push_page_pairs.result
    (λ h. h ∙ (λ i. c.args.found.now.items ++ flat_map (λ x. flat_map (page_unlikes terms x) (others i)) (pages i)))
    c.push_page_pairs.ensures
