use Rattle.std.proofs.Common.{◌≡◌, ◌/◌, ◌-◌, ◌+◌, ◌^◌, bit_or, bit_xor, refl, sym, ap, ◌∙◌, arith}
use Rattle.std.specs.Int.{w128, leading_zeros, trailing_zeros}
use Rattle.dt_pair.proofs.Places.{clash, clash_top, leading_fits, place_here, no_place, place_above}
use Rattle.dt_pair.specs.Laws.Normal.{words_of}
use Rattle.dt_pair.proofs.ends.candidate_place.Goals as goal

pub overflow_sub-top : goal.overflow_sub-top
overflow_sub-top c =
    let k = c.args.known.now in
    leading_fits k.width.0 k.mask k.value c.args.lo (words_of k c.requires.known) c.requires.known.width.1 c.requires.clash

pub returns-then-bit_of : goal.returns-then-bit_of
returns-then-bit_of c =
    let k = c.args.known.now in
    let a = words_of k c.requires.known in
    let t = 127 - leading_zeros w128 (clash k.mask k.value c.args.lo) in
    place_here k.width.0 k.mask k.value c.args.lo t a (clash_top k.width.0 k.mask k.value c.args.lo t a c.requires.known.width.1 c.requires.clash refl) (sym c.bit_of.ensures ∙ c.if-bit_of.true)

pub returns-then-open-eq0 : goal.returns-then-open-eq0
returns-then-open-eq0 c =
    let k = c.args.known.now in
    let a = words_of k c.requires.known in
    let t = 127 - leading_zeros w128 (clash k.mask k.value c.args.lo) in
    no_place k.width.0 k.mask k.value c.args.lo t (clash_top k.width.0 k.mask k.value c.args.lo t a c.requires.known.width.1 c.requires.clash refl) (sym c.bit_of.ensures ∙ c.if-bit_of.false)
    (ap (λ n. bit_xor n (bit_or c.args.lo k.mask) / 2 ^ t) (sym c.ones.ensures) ∙ c.if-open-eq0.true)

pub returns-else-open-eq0 : goal.returns-else-open-eq0
returns-else-open-eq0 c =
    let k = c.args.known.now in
    let a = words_of k c.requires.known in
    let t = 127 - leading_zeros w128 (clash k.mask k.value c.args.lo) in
    let e : bit_xor c.ones.result (bit_or c.args.lo k.mask) / 2 ^ t ≡ bit_xor (2 ^ k.width.0 - 1) (bit_or c.args.lo k.mask) / 2 ^ t = ap (λ n. bit_xor n (bit_or c.args.lo k.mask) / 2 ^ t) c.ones.ensures in
    let f = c.if-open-eq0.false in
    place_above k.width.0 k.mask k.value c.args.lo t _ a c.requires.lo c.requires.known.width.1 (clash_top k.width.0 k.mask k.value c.args.lo t a c.requires.known.width.1 c.requires.clash refl)
    (sym c.bit_of.ensures ∙ c.if-bit_of.false) (omega (arith, e, f)) (ap (λ n. t + trailing_zeros w128 n) e)
