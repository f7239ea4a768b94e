use Rattle.std.proofs.Common.{◌≡◌, List, ap, ◌∙◌, sym, arith}
use Rattle.std.specs.Prelude.{count_by}
use Rattle.dt_model.specs.declared.model.Node.{Node}
use Rattle.dt_model.specs.ModelData.{act_of}
use Rattle.dt_model.specs.Accepted.{accepted_data}
use Rattle.dt_model.specs.Faults.{is_done}
use Rattle.dt_table.specs.Sizes.{done_nodes}
use Rattle.dt_table.proofs.Small.{small_is}
use Rattle.dt_encode.proofs.Small.{count_seen}
use Rattle.dt_encode.proofs.sizes.done_nodes.Goals as goal

pub returns : goal.returns
returns c =
    let value : c.dones_among.result ≡ done_nodes (accepted_data c.args.model.now) =
    c.dones_among.ensures
    ∙ ap (λ (nodes : List Node). count_by (λ (n : Node). is_done (act_of n.act)) nodes) c.as_slice.ensures
    ∙ sym (count_seen is_done c.model.result.now.nodes)
    ∙ ap done_nodes c.model.ensures.same in
    let few = (small_is (accepted_data c.args.model.now) c.model.ensures.accepted).dones in
    record { value = value; few = omega (arith, few) }
