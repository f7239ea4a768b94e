use Rattle.std.proofs.Common.{ℕ, ◌<◌}
use Rattle.dt_box.specs.Stillness.{IsStillAt}
use Rattle.dt_box.proofs.sweep.first_step.Given as goal

abbrev pub invariant-loop-term : goal.invariant-loop-term
invariant-loop-term g l = (t : ℕ) → t < l.term → IsStillAt g.D.Domain.ops l.terms t l.cells
