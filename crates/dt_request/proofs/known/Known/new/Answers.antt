use Rattle.std.proofs.Common.{List, length, map, sym, ap, subst, ◌∙◌, arith}
use Rattle.std.proofs.lemmas.List.{length-map}
use Rattle.dt_model.specs.declared.model.Node.{Node}
use Rattle.dt_model.specs.ModelData.{ModelData, node_of}
use Rattle.dt_model.specs.Accepted.{accepted_data}
use Rattle.dt_model.specs.Faults.{names_of}
use Rattle.dt_model.specs.NameTable.{Finds}
use Rattle.dt_model.proofs.Accepting.{few_regs, few_inputs, few_nodes}
use Rattle.dt_request.specs.Entry.{node_names}
use Rattle.dt_request.proofs.Steps.{names_are}
use Rattle.dt_request.proofs.known.Known.new.Goals as goal

pub named_table-requires : goal.named_table-requires
named_table-requires c = omega (arith, few_regs (accepted_data c.args.model.now) c.model-parts.ensures.accepted, ap (λ (d : ModelData). length d.regs) c.model-parts.ensures.same, ap length c.as_slice.ensures)

pub named_table-requires-2 : goal.named_table-requires-2
named_table-requires-2 c = omega (arith, few_inputs (accepted_data c.args.model.now) c.model-parts.ensures.accepted, ap (λ (d : ModelData). length d.inputs) c.model-parts.ensures.same, ap length c.as_slice-2.ensures)

pub node_table-requires : goal.node_table-requires
node_table-requires c = omega (arith, few_nodes (accepted_data c.args.model.now) c.model-parts.ensures.accepted, ap (λ (d : ModelData). length d.nodes) c.model-parts.ensures.same, length-map c.model-parts.result.now.nodes node_of, ap length c.as_slice-3.ensures)

pub invariant_of-result : goal.invariant_of-result
invariant_of-result c =
    let d = accepted_data c.args.model.now in
    record {
      regs_found = subst (Finds c.in_ok-regs.regs) (ap names_of c.as_slice.ensures ∙ ap (λ (x : ModelData). names_of x.regs) c.model-parts.ensures.same) c.in_ok-regs.ensures;
      inputs_found = subst (Finds c.in_ok-inputs.inputs) (ap names_of c.as_slice-2.ensures ∙ ap (λ (x : ModelData). names_of x.inputs) c.model-parts.ensures.same) c.in_ok-inputs.ensures;
      nodes_found = subst (Finds c.in_ok-nodes.nodes) (ap (λ (ns : List Node). map (λ (n : Node). n.name) ns) c.as_slice-3.ensures ∙ sym (names_are c.model-parts.result.now.nodes) ∙ ap node_names c.model-parts.ensures.same) c.in_ok-nodes.ensures;
    }
