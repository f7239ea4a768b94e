use Rattle.std.proofs.Common.{sym, ◌∙◌}
use Rattle.dt_lemmas.proofs.Equalities.{two}
use Rattle.dt_sets.specs.OneBit.{held, of_bits}
use Rattle.dt_sets.proofs.OneBits.{full_bits, zero_bits, one_bits}
use Rattle.dt_sets.proofs.one_bit.Held.triple.Goals as goal

pub returns-in-true-true : goal.returns-in-true-true
returns-in-true-true c = c.full.ensures ∙ full_bits ∙ two (λ z o. of_bits (held z o)) (sym c.in-true-true.is-0) (sym c.in-true-true.is-1)

pub returns-in-true-false : goal.returns-in-true-false
returns-in-true-false c = c.one.ensures ∙ zero_bits ∙ two (λ z o. of_bits (held z o)) (sym c.in-true-false.is-0) (sym c.in-true-false.is-1)

pub returns-in-false-true : goal.returns-in-false-true
returns-in-false-true c = c.one-in-false-true.ensures ∙ one_bits ∙ two (λ z o. of_bits (held z o)) (sym c.in-false-true.is-0) (sym c.in-false-true.is-1)
