use Rattle.std.proofs.Common.{◌≡◌, ◌++◌, take}
use Rattle.std.specs.Prelude.{map}
use Rattle.dt_lex.specs.Printing.{text_of}
use Rattle.dt_model.specs.ModelData.{node_of, data_of}
use Rattle.dt_model.specs.Faults.{node_scope}
use Rattle.dt_modeltext.specs.Print.{node_row}
use Rattle.dt_modeltext.proofs.print.row.push_nodes.Given as goal

abbrev pub invariant-loop-node : goal.invariant-loop-node
invariant-loop-node l = l.out.items ≡ l.fn.out.items ++ text_of (map (λ n. node_row (node_scope (data_of l.model)) (data_of l.model).nodes (node_of n)) (take l.node-index l.node-items))
