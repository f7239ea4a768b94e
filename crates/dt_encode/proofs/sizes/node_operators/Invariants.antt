use Rattle.std.proofs.Common.{◌≡◌, take}
use Rattle.std.specs.Prelude.{sum_by}
use Rattle.dt_model.specs.ModelData.{act_of}
use Rattle.dt_model.specs.Faults.{step_operators}
use Rattle.dt_encode.proofs.sizes.node_operators.Given as goal

abbrev pub invariant-loop-node : goal.invariant-loop-node
invariant-loop-node l = l.total ≡ sum_by (λ n. step_operators (act_of n.act)) (take l.node-index l.nodes)
