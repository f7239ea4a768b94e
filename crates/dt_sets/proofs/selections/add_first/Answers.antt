use Rattle.std.proofs.Common.{ℕ, ◌<◌, ◌≤◌, List, get_or, length, map, refl, ap, ◌∙◌, arith}
use Rattle.std.specs.List.{flat_map}
use Rattle.dt_bits.specs.Ops.{fits_at, value_of}
use Rattle.dt_bits.specs.declared.value.Bv.{Bv}
use Rattle.dt_sets.specs.Sets.{listed}
use Rattle.dt_sets.specs.Gather.{added_all}
use Rattle.dt_sets.specs.Forward.{valued, value_with}
use Rattle.dt_sets.proofs.Loops.{count_is, fold_next, fold_all}
use Rattle.dt_sets.proofs.Gathers.{added_flat}
use Rattle.dt_sets.proofs.selections.add_first.Goals as goal

pub add_second-requires-clause-fits : goal.add_second-requires-clause-fits
add_second-requires-clause-fits c =
    ap (λ (v : Bv). fits_at c.args.op v.width.0 c.args.b.now.width.0 c.args.c.now.width.0) c.value_at.ensures.is ∙ c.requires.fitting.fits

pub loop-place-preserved : goal.loop-place-preserved
loop-place-preserved c =
    let s = c.args.a.now in
    let u = c.args.b.now in
    let t = c.args.c.now in
    let f : ℕ → List ℕ = λ x. flat_map (λ y. map (λ z. value_with c.args.op s u t x y z) (listed t)) (listed u) in
    let k = count_is s c.requires.fitting.a_is c.requires.a_few in
    let l : c.loop-place.place < length (listed s) = omega (arith, k, c.loop-place-test.true) in
    record {
      is = fold_next (λ g x. added_all g (f x)) c.args.gathered.now c.loop-place.gathered c.add_second.new.gathered (listed s) c.loop-place.place (get_or (listed s) c.loop-place.place 0) l c.loop-place.invariant.is refl
          (c.add_second.ensures.is ∙ ap (λ v. added_all c.loop-place.gathered (flat_map (λ y. map (λ z. value_of c.args.op v (valued u.width y) (valued t.width z)) (listed t)) (listed u))) c.value_at.ensures.is);
      valid = c.add_second.ensures.valid;
    }

pub returns-clause-is : goal.returns-clause-is
returns-clause-is c =
    let s = c.args.a.now in
    let u = c.args.b.now in
    let t = c.args.c.now in
    let f : ℕ → List ℕ = λ x. flat_map (λ y. map (λ z. value_with c.args.op s u t x y z) (listed t)) (listed u) in
    let k = count_is s c.requires.fitting.a_is c.requires.a_few in
    let l : length (listed s) ≤ c.loop-place.place = omega (arith, k, c.loop-place-test.false) in
    fold_all (λ g x. added_all g (f x)) c.args.gathered.now c.loop-place.gathered (listed s) c.loop-place.place l c.loop-place.invariant.is
    ∙ added_flat f c.args.gathered.now (listed s)
