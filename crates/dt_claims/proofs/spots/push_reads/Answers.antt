use Rattle.std.proofs.Common.{◌++◌, List, map, ap, ◌∙◌}
use Rattle.std.proofs.lemmas.Result.{on_ok_weaker}
use Rattle.dt_model.specs.ModelData.{data_of}
use Rattle.dt_model.specs.Faults.{steps}
use Rattle.dt_reach.specs.declared.ways.Ways.{Ways}
use Rattle.dt_table.specs.Spots.{read_spots}
use Rattle.dt_claims.specs.Views.{spot}
use Rattle.dt_ways.proofs.Models.{model_steps}
use Rattle.dt_claims.proofs.spots.push_reads.Goals as goal

pub returns : goal.returns
returns c =
    let same = model_steps c.args.model.now c.as_slice-nodes.result.now c.as_slice-nodes.ensures in
    on_ok_weaker c.push_reads_among.result
    (λ h. h
    ∙ (λ i. map spot c.args.spots.now.items ++ read_spots (c.as_slice-open.ensures.value i) c.args.access (same i) c.args.outs.now 0)
    ∙ ap (λ (ws : List Ways). map spot c.args.spots.now.items ++ read_spots ws c.args.access (steps (data_of c.args.model.now)) c.args.outs.now 0) c.in_ok-ways.ensures)
    c.push_reads_among.ensures
