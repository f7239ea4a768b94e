use Rattle.std.proofs.Common.{ℕ, ◌<◌, ◌≤◌, List, get_or, length, map, refl, ap, ◌∙◌, arith}
use Rattle.dt_bits.specs.Ops.{fits_at, value_of}
use Rattle.dt_bits.specs.declared.value.Bv.{Bv}
use Rattle.dt_sets.specs.Sets.{listed}
use Rattle.dt_sets.specs.Gather.{added_all}
use Rattle.dt_sets.specs.Forward.{valued}
use Rattle.dt_sets.proofs.Loops.{count_is, fold_next, fold_all}
use Rattle.dt_sets.proofs.Gathers.{added_flat}
use Rattle.dt_sets.proofs.selections.add_second.Goals as goal

pub add_third-requires-clause-fits : goal.add_third-requires-clause-fits
add_third-requires-clause-fits c =
    ap (λ (v : Bv). fits_at c.args.op c.args.x.width.0 v.width.0 c.args.c.now.width.0) c.value_at.ensures.is ∙ c.requires.fits

pub loop-place-preserved : goal.loop-place-preserved
loop-place-preserved c =
    let s = c.args.b.now in
    let t = c.args.c.now in
    let f : ℕ → List ℕ = λ y. map (λ z. value_of c.args.op c.args.x (valued s.width y) (valued t.width z)) (listed t) in
    let k = count_is s c.requires.b c.requires.b_few in
    let l : c.loop-place.place < length (listed s) = omega (arith, k, c.loop-place-test.true) in
    record {
      is = fold_next (λ g y. added_all g (f y)) c.args.gathered.now c.loop-place.gathered c.add_third.new.gathered (listed s) c.loop-place.place (get_or (listed s) c.loop-place.place 0) l c.loop-place.invariant.is refl
          (c.add_third.ensures.is ∙ ap (λ v. added_all c.loop-place.gathered (map (λ z. value_of c.args.op c.args.x v (valued t.width z)) (listed t))) c.value_at.ensures.is);
      valid = c.add_third.ensures.valid;
    }

pub returns-clause-is : goal.returns-clause-is
returns-clause-is c =
    let s = c.args.b.now in
    let t = c.args.c.now in
    let f : ℕ → List ℕ = λ y. map (λ z. value_of c.args.op c.args.x (valued s.width y) (valued t.width z)) (listed t) in
    let k = count_is s c.requires.b c.requires.b_few in
    let l : length (listed s) ≤ c.loop-place.place = omega (arith, k, c.loop-place-test.false) in
    fold_all (λ g y. added_all g (f y)) c.args.gathered.now c.loop-place.gathered (listed s) c.loop-place.place l c.loop-place.invariant.is
    ∙ added_flat f c.args.gathered.now (listed s)
