use Rattle.std.proofs.Common.{List, sym, ap, ◌∙◌}
use Rattle.std.specs.Prelude.{count_by}
use Rattle.dt_model.specs.declared.model.Node.{Node}
use Rattle.dt_model.specs.ModelData.{act_of}
use Rattle.dt_model.specs.Faults.{is_read}
use Rattle.dt_request.proofs.Choosing.{reads_seen}
use Rattle.dt_claims.proofs.places.read_nodes.Goals as goal

pub returns : goal.returns
returns c =
    c.reads_among.ensures ∙ ap (λ (nodes : List Node). count_by (λ (n : Node). is_read (act_of n.act)) nodes) c.as_slice.ensures
    ∙ sym (reads_seen c.args.model.now.nodes)
