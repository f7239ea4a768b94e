use Rattle.std.proofs.Common.{◌-◌, ◌/◌, ◌^◌, bit_xor, ap, ◌∙◌, sym, arith}
use Rattle.std.specs.Int.{w128, leading_zeros}
use Rattle.dt_range.proofs.Words.{mask_of_equal, highest_of, low_word_fits, mask_of_differing}
use Rattle.dt_range.proofs.Range.mask.Goals as goal

pub returns-then-differing-eq0 : goal.returns-then-differing-eq0
returns-then-differing-eq0 c =
    c.ones.ensures ∙ mask_of_equal c.args.self.now c.requires (sym c.holds_none.ensures ∙ c.if-holds_none.false) c.if-differing-eq0.true

pub overflow_shr-result : goal.overflow_shr-result
overflow_shr-result c = let h = highest_of c.args.self.now c.requires c.if-differing-eq0.false in omega (arith, h.zeros)

pub overflow_sub-result : goal.overflow_sub-result
overflow_sub-result c =
    let h = highest_of c.args.self.now c.requires c.if-differing-eq0.false in
    omega (arith, low_word_fits c.args.self.now h, c.ones-2.ensures)

pub returns : goal.returns
returns c =
    let a = c.args.self.now in
    ap (λ n. n - (2 ^ 128 - 1) / 2 ^ leading_zeros w128 (bit_xor a.lo a.hi)) c.ones-2.ensures
    ∙ mask_of_differing a c.requires (sym c.holds_none.ensures ∙ c.if-holds_none.false) (highest_of a c.requires c.if-differing-eq0.false)
