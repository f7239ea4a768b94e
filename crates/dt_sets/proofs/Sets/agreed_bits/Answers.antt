use Rattle.std.proofs.Common.{ℕ, ◌-◌, ◌^◌, ◌<◌, ◌≤◌, length, refl, sym, ap, ◌∙◌, subst, arith}
use Rattle.std.proofs.lemmas.Nat.{pow_pos}
use Rattle.dt_bits.proofs.BitLemmas.{bit_of_zero}
use Rattle.dt_sets.specs.Sets.{listed}
use Rattle.dt_sets.specs.Laws.Form.{few_is}
use Rattle.dt_sets.proofs.Alike.{differ_next, differ_fits, differ_all}
use Rattle.dt_sets.proofs.Loops.{at_place, count_is}
use Rattle.dt_sets.proofs.Sets.agreed_bits.Goals as goal

pub at-first-requires-clause-form : goal.at-first-requires-clause-form
at-first-requires-clause-form c = few_is c.args.self.now c.requires.self_is c.requires.few

pub at-requires-clause-form : goal.at-requires-clause-form
at-requires-clause-form c = few_is c.args.self.now c.requires.self_is c.requires.few

pub loop-place-init : goal.loop-place-init
loop-place-init c = record { fits = pow_pos c.args.self.now.width.0; bits = bit_of_zero }

pub loop-place-preserved : goal.loop-place-preserved
loop-place-preserved c =
    let s = c.args.self.now in
    let w = s.width.0 in
    let k = count_is s c.requires.self_is c.requires.few in
    let l : c.loop-place.place < length (listed s) = omega (arith, k, c.loop-place-test.true) in
    let m : 0 < length (listed s) = omega arith in
    let P : ℕ → Type 0 = λ n. n < 2 ^ w in
    record {
      fits = differ_fits w c.at.result c.loop-place.differing c.at-first.result c.loop-place.invariant.fits
          (subst P (sym c.at.ensures) (at_place P (listed s) c.loop-place.place c.requires.self_is.fits l))
          (subst P (sym c.at-first.ensures) (at_place P (listed s) 0 c.requires.self_is.fits m));
      bits = differ_next w (listed s) c.loop-place.place c.at.result c.loop-place.differing _ c.at-first.result l c.at.ensures refl c.loop-place.invariant.bits;
    }

pub overflow_sub-result : goal.overflow_sub-result
overflow_sub-result c = omega (arith, c.ones.ensures, c.loop-place.invariant.fits)

pub returns : goal.returns
returns c =
    let s = c.args.self.now in
    let w = s.width.0 in
    let k = count_is s c.requires.self_is c.requires.few in
    let m : 0 < length (listed s) = omega (arith, k, c.requires.some) in
    let l : length (listed s) ≤ c.loop-place.place = omega (arith, k, c.loop-place-test.false) in
    ap (λ n. n - c.loop-place.differing) c.ones.ensures
    ∙ differ_all w (listed s) c.loop-place.place c.loop-place.differing c.at-first.result m l c.at-first.ensures c.loop-place.invariant.fits c.loop-place.invariant.bits
