use Rattle.std.proofs.Common.{ℕ, ◌<◌, get_or}
use Rattle.dt_box.specs.Stillness.{IsStillAt}
use Rattle.dt_box.specs.Watching.{users_of}
use Rattle.dt_box.proofs.near.near_step.Given as goal

-- no step of the users up to here tells something new
abbrev pub invariant-loop-user : goal.invariant-loop-user
invariant-loop-user g l = (k : ℕ) → k < l.user-index → IsStillAt g.D.Domain.ops l.terms (get_or (users_of l.terms l.term) k 0) l.cells
