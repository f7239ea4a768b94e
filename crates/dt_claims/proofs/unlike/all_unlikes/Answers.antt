use Rattle.std.proofs.Common.{refl}
use Rattle.std.specs.List.{flat_map}
use Rattle.dt_model.specs.ModelData.{data_of}
use Rattle.dt_table.specs.Unlike.{link_unlikes}
use Rattle.dt_claims.specs.Views.{rows_of}
use Rattle.dt_claims.proofs.Steps.{gathered}
use Rattle.dt_claims.proofs.unlike.all_unlikes.Goals as goal

pub loop-link-preserved : goal.loop-link-preserved
loop-link-preserved c =
    let one = link_unlikes (data_of c.args.model.now) c.args.requests.now c.args.terms.now (rows_of c.args.rows.now) in
    gathered (flat_map one) one (λ x xs. refl)
    c.loop-link.found.items c.push_link.new.found.items _ c.as_slice-links.result.now c.loop-link.link-index _ c.loop-link-test.true c.in_ok-push_link.ensures c.loop-link.invariant
