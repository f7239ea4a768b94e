use Rattle.std.proofs.Common.{◌≡◌, take}
use Rattle.std.specs.Prelude.{map}
use Rattle.dt_model.specs.NameTable.{Finds}
use Rattle.dt_request.proofs.known.node_table.Given as goal

abbrev pub invariant-loop-node : goal.invariant-loop-node
invariant-loop-node l = (l.at ≡ l.node-index) × Finds l.table (map (λ n. n.name) (take l.node-index l.nodes))
