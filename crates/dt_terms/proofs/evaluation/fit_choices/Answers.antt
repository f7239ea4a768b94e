use Rattle.std.proofs.Common.{◌<◌, ◌^◌, length, get_or, sym, ap, subst, arith, below_more}
use Rattle.std.proofs.lemmas.Bool.{false≢true}
use Rattle.std.proofs.lemmas.Nat.{pow_pos}
use Rattle.dt_bits.specs.Bits.{IsWidth}
use Rattle.dt_terms.specs.Terms.{choices_of}
use Rattle.dt_terms.proofs.Choices.{choice_stands, choice_bits}
use Rattle.dt_terms.proofs.evaluation.fit_choices.Goals as goal

pub bounds-terms-choices : goal.bounds-terms-choices
bounds-terms-choices c =
    rw c.requires.choices (choice_stands c.args.terms.now c.loop-k.k (omega (arith, c.requires.count, ap length c.requires.choices))).0

pub ones-requires : goal.ones-requires
ones-requires c =
    let b = choice_bits c.args.terms.now c.args.choices.now c.loop-k.k _ c.width.result c.requires.choices (omega (arith, c.requires.count)) c.width.ensures in
    let t = choice_stands c.args.terms.now c.loop-k.k (omega (arith, c.requires.count, ap length c.requires.choices)) in
    subst IsWidth (sym b.1) (c.requires.terms (get_or (choices_of c.args.terms.now) c.loop-k.k 0) t.0).width_is

pub returns-then-numbers-k : goal.returns-then-numbers-k
returns-then-numbers-k c =
    let b = choice_bits c.args.terms.now c.args.choices.now c.loop-k.k _ c.width.result c.requires.choices (omega (arith, c.requires.count)) c.width.ensures in
    let n = 2 ^ c.width.result.0 in
    let p = pow_pos c.width.result.0 in (
      λ e. absurd (false≢true e),
      λ fit.
          let l : c.loop-k.k < length c.args.numbers.now = omega arith in
          let f : get_or c.args.numbers.now c.loop-k.k 0 < 2 ^ c.width.result.0 = subst (λ w. get_or c.args.numbers.now c.loop-k.k 0 < 2 ^ w) (sym b.1) (fit c.loop-k.k l) in
          absurd (omega (arith, c.ones.ensures, c.if-numbers-k.true)),
    )

pub loop-k-preserved : goal.loop-k-preserved
loop-k-preserved c =
    let b = choice_bits c.args.terms.now c.args.choices.now c.loop-k.k _ c.width.result c.requires.choices (omega (arith, c.requires.count)) c.width.ensures in
    let p = pow_pos c.width.result.0 in
    let f : get_or c.args.numbers.now c.loop-k.k 0 < 2 ^ c.width.result.0 = omega (arith, c.ones.ensures, c.if-numbers-k.false) in
    below_more _ _ c.loop-k.invariant (subst (λ w. get_or c.args.numbers.now c.loop-k.k 0 < 2 ^ w) b.1 f)
