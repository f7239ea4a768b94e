use Rattle.std.proofs.Common.{length, ap, arith}
use Rattle.dt_model.specs.ModelData.{ModelData}
use Rattle.dt_model.specs.Accepted.{accepted_data}
use Rattle.dt_model.proofs.Accepting.{few_nodes}
use Rattle.std.proofs.lemmas.List.{length-map}
use Rattle.dt_model.specs.ModelData.{node_of}
use Rattle.dt_encode.proofs.sizes.node_count.Goals as goal

pub returns-clause-few : goal.returns-clause-few
returns-clause-few c =
    let few = few_nodes (accepted_data c.args.model.now) c.model.ensures.accepted in
    let same = ap (λ (d : ModelData). length d.nodes) c.model.ensures.same in
    let count = length-map c.model.result.now.nodes node_of in
    omega (arith, few, same, count)
