use Rattle.std.proofs.Common.{arith}
use Rattle.dt_lemmas.proofs.Lists.{All-from_map}
use Rattle.dt_model.specs.ModelData.{NodeData, data_of, node_of}
use Rattle.dt_model.specs.Faults.{StepArities}
use Rattle.dt_model.proofs.Compose.{passed_reg_widths, passed_input_widths, passed_var_widths, passed_few_vars}
use Rattle.dt_model.proofs.checking.graph_fault.Goals as goal

pub nodes_fault-requires-clause-declared : goal.nodes_fault-requires-clause-declared
nodes_fault-requires-clause-declared c =
    let d = data_of c.args.m.now in
    record {
      few_vars = passed_few_vars d 6 (omega arith) c.requires.legal;
      regs = passed_reg_widths d 6 (omega arith) c.requires.legal;
      inputs = passed_input_widths d 6 (omega arith) c.requires.legal;
      vars = passed_var_widths d 6 (omega arith) c.requires.legal;
      arities = All-from_map (λ (n : NodeData). StepArities n.step) node_of c.args.m.now.nodes c.requires.arities.nodes;
    }
