use Rattle.std.proofs.Common.{List, ◌++◌, ap, ◌∙◌}
use Rattle.std.specs.List.{flat_map}
use Rattle.std.proofs.lemmas.Result.{on_ok_weaker}
use Rattle.dt_model.specs.ModelData.{data_of}
use Rattle.dt_build.specs.Building.{claimed}
use Rattle.dt_forms.specs.Forms.{Form}
use Rattle.dt_table.specs.Links.{link_forms}
use Rattle.dt_table.specs.Table.{wish_forms, page_forms, keep_forms, list_access}
use Rattle.dt_claims.specs.Views.{rows_of, access_of}
use Rattle.dt_claims.proofs.Rows.{same_links}
use Rattle.dt_claims.proofs.Turns.{both_required}
use Rattle.dt_claims.proofs.claims.require_list.Goals as goal

pub returns : goal.returns
returns c =
    let d = data_of c.args.model.now in
    let r = c.args.requests.now in
    let rows = rows_of c.args.rows.now in
    let wishes = wish_forms d r 0 r.accesses rows in
    let links = flat_map (link_forms d r (list_access d r) rows) r.links in
    let blocks = page_forms d r rows ++ keep_forms d r rows in
    on_ok_weaker c.require_blocks.result
    (λ h. both_required c.args.builder.now c.require_wishes.new.builder c.require_blocks.new.builder wishes (links ++ blocks) c.in_ok-require_wishes.ensures
    (both_required c.require_wishes.new.builder c.require_links.new.builder c.require_blocks.new.builder links blocks
    (c.in_ok-require_links.ensures
    ∙ (λ i. claimed c.require_wishes.new.builder (flat_map (link_forms d r (access_of (c.in_ok-places.ensures i)) rows) (c.as_slice-links.ensures i)))
    ∙ ap (λ (fs : List Form). claimed c.require_wishes.new.builder fs) (same_links d r rows r.links))
    h))
    c.require_blocks.ensures
