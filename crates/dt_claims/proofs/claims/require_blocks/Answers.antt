use Rattle.std.proofs.Common.{◌∙◌, map}
use Rattle.std.specs.List.{flat_map}
use Rattle.std.proofs.lemmas.Result.{on_ok_weaker}
use Rattle.dt_model.specs.ModelData.{data_of}
use Rattle.dt_build.specs.Building.{claimed}
use Rattle.dt_table.specs.Kept.{kept_forms}
use Rattle.dt_table.specs.Pairs.{apart_forms}
use Rattle.dt_table.specs.Table.{page_forms, keep_forms}
use Rattle.dt_claims.specs.Views.{spot, rows_of, access_of}
use Rattle.dt_claims.proofs.Turns.{both_required}
use Rattle.dt_claims.proofs.claims.require_blocks.Goals as goal

pub returns : goal.returns
returns c =
    let d = data_of c.args.model.now in
    let r = c.args.requests.now in
    let rows = rows_of c.args.rows.now in
    let pages = (λ i. map spot (c.as_slice.ensures.value i)) ∙ c.in_ok-pages.ensures in
    let tables = (λ i. map spot (c.as_slice-2.ensures.value i)) ∙ c.in_ok-tables.ensures in
    let kept_pages = (λ i. map spot (c.as_slice-3.ensures.value i)) ∙ c.in_ok-pages.ensures in
    let kept_tables = (λ i. map spot (c.as_slice-4.ensures.value i)) ∙ c.in_ok-tables.ensures in
    on_ok_weaker c.require_ranges_kept.result
    (λ h. both_required c.args.builder.now c.require_pages_apart.new.builder c.require_ranges_kept.new.builder (page_forms d r rows) (keep_forms d r rows)
    (c.in_ok-require_pages_apart.ensures ∙ (λ i. claimed c.args.builder.now (apart_forms (access_of (c.requires i)) (pages i) (tables i))))
    (h ∙ (λ i. claimed c.require_pages_apart.new.builder (flat_map (kept_forms (access_of (c.requires i)) (kept_pages i) (kept_tables i)) (c.as_slice-kept.ensures i)))))
    c.require_ranges_kept.ensures
