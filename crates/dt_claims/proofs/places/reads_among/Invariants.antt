use Rattle.std.proofs.Common.{◌≡◌, ◌≤◌, take}
use Rattle.std.specs.Prelude.{count_by}
use Rattle.dt_model.specs.ModelData.{act_of}
use Rattle.dt_model.specs.Faults.{is_read}
use Rattle.dt_claims.proofs.places.reads_among.Given as goal

abbrev pub invariant-loop-node : goal.invariant-loop-node
invariant-loop-node l = (l.count ≡ count_by (λ n. is_read (act_of n.act)) (take l.node-index l.nodes)) × (l.count ≤ l.node-index)
