use Rattle.std.proofs.Common.{ℕ, ◌<◌, ◌^◌, get_or}
use Rattle.dt_terms.specs.Terms.{bits_at, choices_of}
use Rattle.dt_terms.proofs.evaluation.fit_choices.Given as goal

-- the numbers up to here fit
abbrev pub invariant-loop-k : goal.invariant-loop-k
invariant-loop-k l = (k : ℕ) → k < l.k → get_or l.numbers k 0 < 2 ^ bits_at l.terms (get_or (choices_of l.terms) k 0)
