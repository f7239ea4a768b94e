use Rattle.std.proofs.Common.{◌≡◌, ℕ, ◌<◌, Bool, length, get_or}
use Rattle.dt_model.specs.declared.flow.NodeSets.{NodeSets}
use Rattle.dt_model.specs.Flow.{found, some_after, steps_of}
use Rattle.dt_model.proofs.flow.flows.Given as goal

abbrev pub invariant-loop-k : goal.invariant-loop-k
invariant-loop-k l = (length l.sets.items ≡ l.count) × ((n v : ℕ) (b : Bool) (d : NodeSets) → n < l.count → v < 512 → found (get_or l.sets.items n d) v b ≡ some_after (steps_of l.nodes) v l.k n b)
