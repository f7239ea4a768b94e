use Rattle.std.proofs.Common.{ℕ, ◌+◌, ◌*◌, ◌^◌, ◌<◌, ap, sym, subst, arith}
use Rattle.dt_lemmas.proofs.Powers.{joined_words, joined_fits}
use Rattle.dt_bits.specs.Bits.{IsValue, width}
use Rattle.dt_bits.specs.declared.value.Bv.{Bv}
use Rattle.dt_bits.proofs.applying.joined.Goals as goal

pub returns-clause-value : goal.returns-clause-value
returns-clause-value c =
    let h = c.args.high in
    let l = c.args.low in
    let f : ℕ → Bv = λ n. record { width = width (h.width.0 + l.width.0); bits = n } in
    ap f (joined_words h.bits h.width.0 l.bits l.width.0 c.requires.high.1 c.requires.low.1 c.requires.whole)

pub returns-clause-range : goal.returns-clause-range
returns-clause-range c =
    let h = c.args.high in
    let l = c.args.low in
    subst IsValue (sym (returns-clause-value c))
    ((omega (arith, c.requires.high), c.requires.whole), joined_fits h.bits h.width.0 l.bits l.width.0 c.requires.high.1 c.requires.low.1)
