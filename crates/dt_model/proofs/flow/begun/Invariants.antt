use Rattle.std.proofs.Common.{◌≡◌, ℕ, ◌<◌, Bool, not, ◌&&◌, eqb, length, get_or}
use Rattle.dt_model.specs.declared.flow.NodeSets.{NodeSets}
use Rattle.dt_model.specs.Flow.{found}
use Rattle.dt_model.proofs.flow.begun.Given as goal

abbrev pub invariant-loop-i : goal.invariant-loop-i
invariant-loop-i l = (length l.sets.items ≡ l.i) × ((n v : ℕ) (b : Bool) (d : NodeSets) → n < l.i → v < 512 → found (get_or l.sets.items n d) v b ≡ (eqb n 0 && not b))
