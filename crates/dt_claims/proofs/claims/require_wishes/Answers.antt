use Rattle.std.proofs.Common.{List, ◌+◌, drop, ap, ◌∙◌}
use Rattle.std.specs.List.{flat_map}
use Rattle.dt_model.specs.ModelData.{data_of}
use Rattle.dt_build.specs.Building.{claimed}
use Rattle.dt_forms.specs.Forms.{Form}
use Rattle.dt_table.specs.Demands.{demand_forms}
use Rattle.dt_table.specs.Table.{wish_forms, access_of as table_access}
use Rattle.dt_claims.specs.Views.{rows_of, access_of}
use Rattle.dt_claims.proofs.Rows.{wishes_here, same_demands}
use Rattle.dt_claims.proofs.Turns.{on}
use Rattle.dt_claims.proofs.claims.require_wishes.Goals as goal

pub loop-k-preserved : goal.loop-k-preserved
loop-k-preserved c =
    let d = data_of c.args.model.now in
    let r = c.args.requests.now in
    let wishes = c.as_slice-accesses.result.now in
    let rows = c.args.rows.now in
    let k = c.loop-k.k in
    let a = c.index-accesses-k.result in
    let row = c.in-Some.row.now in
    let found = c.in-Some.ensures.lookup in
    on c.loop-k.builder c.require_demands.new.builder _ (flat_map (demand_forms d (table_access d r k a) row.items) a.demands) (wish_forms d r (k + 1) (drop (k + 1) wishes) (rows_of (drop (k + 1) rows))) (wish_forms d r k (drop k wishes) (rows_of (drop k rows)))
    (wishes_here d r wishes rows k a row c.loop-k-test.true c.index-accesses-k.is found.3.0 found.1)
    (c.in_ok-require_demands.ensures
    ∙ (λ i. claimed c.loop-k.builder (flat_map (demand_forms d (access_of (c.in_ok-places.ensures i)) (c.as_slice.ensures.value i)) (c.as_slice-demands.ensures i)))
    ∙ ap (λ (fs : List Form). claimed c.loop-k.builder fs) (same_demands d r k a row.items a.demands))
    c.loop-k.invariant
