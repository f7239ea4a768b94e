use Rattle.std.proofs.Common.{ℕ, ◌<◌, ◌≤◌, Bool, get_or, length, refl, sym, ap, ◌∙◌, arith}
use Rattle.dt_bits.specs.Ops.{fits_at, value_of}
use Rattle.dt_bits.specs.declared.value.Bv.{Bv}
use Rattle.dt_sets.specs.Sets.{listed, sets_holds}
use Rattle.dt_sets.specs.Forward.{valued}
use Rattle.dt_sets.proofs.Loops.{count_is, any_here, any_next, any_none}
use Rattle.dt_sets.proofs.partners.some_third.Goals as goal

pub apply-value-requires-clause-fits : goal.apply-value-requires-clause-fits
apply-value-requires-clause-fits c =
    ap (λ (v : Bv). fits_at c.args.op c.args.x.width.0 c.args.y.width.0 v.width.0) c.value_at.ensures.is ∙ c.requires.fits

pub returns-then-holds : goal.returns-then-holds
returns-then-holds c =
    let s = c.args.c.now in
    let p : ℕ → Bool = λ z. sets_holds c.args.outcome.now (value_of c.args.op c.args.x c.args.y (valued s.width z)) in
    let k = count_is s c.requires.c c.requires.few in
    let l : c.loop-place.place < length (listed s) = omega (arith, k, c.loop-place-test.true) in
    sym (any_here p (listed s) c.loop-place.place (get_or (listed s) c.loop-place.place 0) l refl
    (ap (λ v. sets_holds c.args.outcome.now (value_of c.args.op c.args.x c.args.y v)) (sym c.value_at.ensures.is)
    ∙ ap (λ (v : Bv). sets_holds c.args.outcome.now v.bits) (sym c.apply-value.ensures.value) ∙ sym c.holds.ensures ∙ c.if-holds.true))

pub loop-place-preserved : goal.loop-place-preserved
loop-place-preserved c =
    let s = c.args.c.now in
    let p : ℕ → Bool = λ z. sets_holds c.args.outcome.now (value_of c.args.op c.args.x c.args.y (valued s.width z)) in
    let k = count_is s c.requires.c c.requires.few in
    let l : c.loop-place.place < length (listed s) = omega (arith, k, c.loop-place-test.true) in
    any_next p (listed s) c.loop-place.place (get_or (listed s) c.loop-place.place 0) l c.loop-place.invariant refl
    (ap (λ v. sets_holds c.args.outcome.now (value_of c.args.op c.args.x c.args.y v)) (sym c.value_at.ensures.is)
    ∙ ap (λ (v : Bv). sets_holds c.args.outcome.now v.bits) (sym c.apply-value.ensures.value) ∙ sym c.holds.ensures ∙ c.if-holds.false)

pub returns : goal.returns
returns c =
    let s = c.args.c.now in
    let p : ℕ → Bool = λ z. sets_holds c.args.outcome.now (value_of c.args.op c.args.x c.args.y (valued s.width z)) in
    let k = count_is s c.requires.c c.requires.few in
    let l : length (listed s) ≤ c.loop-place.place = omega (arith, k, c.loop-place-test.false) in
    sym (any_none p (listed s) c.loop-place.place l c.loop-place.invariant)
