use Rattle.std.proofs.Common.{◌≡◌, ℕ, ◌<◌, true}
use Rattle.dt_terms.specs.Terms.{is_choice, term_at}
use Rattle.dt_solve.specs.Choosing.{IsKnownAt}
use Rattle.dt_solve.proofs.choosing.first_unknown.Given as goal

abbrev pub invariant-loop-term : goal.invariant-loop-term
invariant-loop-term g l = (t : ℕ) → t < l.term → is_choice (term_at l.problem.terms t) ≡ true → IsKnownAt g.D.Domain.ops l.problem.terms l.cells t
