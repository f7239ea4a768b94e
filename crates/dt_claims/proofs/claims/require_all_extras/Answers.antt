use Rattle.std.proofs.Common.{List, ◌+◌, drop, ap, ◌∙◌}
use Rattle.dt_model.specs.ModelData.{data_of}
use Rattle.dt_build.specs.Building.{claimed}
use Rattle.dt_reach.specs.declared.ways.Ways.{Ways}
use Rattle.dt_ways.specs.Ways.{access_ways}
use Rattle.dt_table.specs.Extras.{extras_of, all_extras}
use Rattle.dt_claims.specs.Views.{rows_of}
use Rattle.dt_claims.proofs.Rows.{extras_here}
use Rattle.dt_claims.proofs.Turns.{on}
use Rattle.dt_claims.proofs.claims.require_all_extras.Goals as goal

pub loop-k-preserved : goal.loop-k-preserved
loop-k-preserved c =
    let d = data_of c.args.model.now in
    let r = c.args.requests.now in
    let rows = c.args.rows.now in
    let k = c.loop-k.k in
    let row = c.index-rows-k.result in
    on c.loop-k.builder c.require_extras.new.builder _ (extras_of (access_ways d r k) row.items) (all_extras d r (k + 1) (rows_of (drop (k + 1) rows))) (all_extras d r k (rows_of (drop k rows)))
    (extras_here d r rows k row c.loop-k-test.true c.index-rows-k.is)
    (c.in_ok-require_extras.ensures ∙ (λ i. claimed c.loop-k.builder (extras_of (c.as_slice.ensures.value i) (c.as_slice-in-loop-k.ensures.value i)))
    ∙ ap (λ (ws : List Ways). claimed c.loop-k.builder (extras_of ws row.items)) c.in_ok-ways.ensures)
    c.loop-k.invariant
