use Rattle.std.proofs.Common.{◌≡◌, ℕ, ◌<◌, false}
use Rattle.dt_box.specs.declared.step.Step.TheVariants.{Backward}
use Rattle.dt_box.specs.Stillness.{tells}
use Rattle.dt_box.proofs.sweep.backward_from.Given as goal

abbrev pub invariant-loop-place : goal.invariant-loop-place
invariant-loop-place g l = (k : ℕ) → k < l.place → tells g.D.Domain.ops l.terms (Backward l.parent k) l.cells ≡ false
