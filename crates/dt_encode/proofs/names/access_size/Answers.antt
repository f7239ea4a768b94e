use Rattle.std.proofs.Common.{length, ap, arith}
use Rattle.dt_model.specs.ModelData.{ModelData}
use Rattle.dt_model.specs.Accepted.{accepted_data}
use Rattle.dt_model.proofs.Accepting.{few_inputs}
use Rattle.dt_encode.proofs.names.access_size.Goals as goal

pub overflow_add-result : goal.overflow_add-result
overflow_add-result c =
    let inputs = few_inputs (accepted_data c.args.model.now) c.model.ensures.accepted in
    let same = ap (λ (d : ModelData). length d.inputs) c.model.ensures.same in
    let count = c.len.ensures in
    let reads = c.read_nodes.ensures.few in
    omega (arith, inputs, same, count, reads)

pub returns-clause-few : goal.returns-clause-few
returns-clause-few c =
    let inputs = few_inputs (accepted_data c.args.model.now) c.model.ensures.accepted in
    let same = ap (λ (d : ModelData). length d.inputs) c.model.ensures.same in
    let count = c.len.ensures in
    let reads = c.read_nodes.ensures.few in
    omega (arith, inputs, same, count, reads)
