use Rattle.std.proofs.Common.{◌≡◌, List, ap, ◌∙◌, sym, arith}
use Rattle.std.specs.Prelude.{count_by}
use Rattle.dt_model.specs.declared.model.Node.{Node}
use Rattle.dt_model.specs.ModelData.{act_of}
use Rattle.dt_model.specs.Accepted.{accepted_data}
use Rattle.dt_model.specs.Faults.{is_read}
use Rattle.dt_request.specs.Choices.{read_nodes}
use Rattle.dt_table.proofs.Small.{small_is}
use Rattle.dt_encode.proofs.Small.{count_seen}
use Rattle.dt_encode.proofs.sizes.read_nodes.Goals as goal

pub returns : goal.returns
returns c =
    let value : c.reads_among.result ≡ read_nodes (accepted_data c.args.model.now) =
    c.reads_among.ensures
    ∙ ap (λ (nodes : List Node). count_by (λ (n : Node). is_read (act_of n.act)) nodes) c.as_slice.ensures
    ∙ sym (count_seen is_read c.model.result.now.nodes)
    ∙ ap read_nodes c.model.ensures.same in
    let few = (small_is (accepted_data c.args.model.now) c.model.ensures.accepted).reads in
    record { value = value; few = omega (arith, few) }
