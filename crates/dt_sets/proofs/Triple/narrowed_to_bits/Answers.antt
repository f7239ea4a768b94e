use Rattle.std.proofs.Common.{sym, ap, ◌∙◌}
use Rattle.dt_lemmas.proofs.Booleans.{same_flags}
use Rattle.dt_lemmas.proofs.Equalities.{two}
use Rattle.dt_sets.specs.Triple.{triple_meet}
use Rattle.dt_sets.specs.OneBit.{held, of_bits}
use Rattle.dt_sets.proofs.OneBits.{bits_meet}
use Rattle.dt_sets.proofs.Triple.narrowed_to_bits.Goals as goal

pub returns-then-kept-own-2 : goal.returns-then-kept-own-2
returns-then-kept-own-2 c =
    ap (λ t. triple_meet t (of_bits c.args.told)) c.of-own.ensures ∙ bits_meet c.of-own.result c.args.told ∙ ap of_bits (sym c.both-kept.ensures)
    ∙ two (λ z o. of_bits (held z o)) (same_flags c.both-kept.result.zero c.of-own.result.zero c.if-kept-own.true) (same_flags c.both-kept.result.one c.of-own.result.one c.if-kept-own-2.true)
    ∙ sym c.of-own.ensures

pub returns-else-kept-own : goal.returns-else-kept-own
returns-else-kept-own c =
    c.triple.ensures ∙ ap of_bits c.both-kept.ensures ∙ sym (bits_meet c.of-own.result c.args.told) ∙ sym (ap (λ t. triple_meet t (of_bits c.args.told)) c.of-own.ensures)
