-- Range keeps the laws of a domain.
pub mod Between
pub mod KnownBits
pub mod Meets
pub mod ForwardHolds
pub mod BackwardHolds
pub mod Calls
use Rattle.std.proofs.Common.{◌≡◌, ℕ, ◌-◌, ◌^◌, ◌<◌, ◌≤◌, Bool, true, false, ◌&&◌, cond, eqb, ltb, leb, Option, Some, None, refl, ap, ◌∙◌, arith}
use Rattle.std.specs.Prelude.{MatchOption, ◌↔◌}
use Rattle.std.proofs.lemmas.Bool.{and_parts, and_left, and_from, ltb-true, ltb-false, lt-leb, le-leb, eqb-true, eq-eqb, false_from_ne_true}
use Rattle.dt_bits.specs.Bits.{IsValue, number_of}
use Rattle.dt_bits.proofs.BitLemmas.{number_of_below}
use Rattle.dt_bits.specs.declared.value.Bv.{Bv}
use Rattle.dt_domain.specs.Domain.{DomainLaws, IsExact, AreAlike}
use Rattle.dt_range.specs.declared.Range.{Range}
use Rattle.dt_range.specs.Range.{IsRange, range_holds, range_is_empty, range_full, range_one, shares_from}
use Rattle.dt_range.specs.Ops.{range_ops}
use Rattle.dt_range.specs.Laws.Between.{held, held_is, held_below, full_is, one_is, full_holds, one_of_holds}
use Rattle.dt_range.specs.Laws.KnownBits.{held_agrees, empty_known, one_all, known_one}
use Rattle.dt_range.specs.Laws.Meets.{meet_is, meet_holds, meet_empty, meet_knows, with_bit_is, with_bit_holds}
use Rattle.dt_range.specs.Laws.Calls.{forward_is, forward_holds, forward_known, backward_is, backward_holds}

one_holds : (v : Bv) (x : ℕ) → range_holds (range_one v) x ≡ true ↔ (x ≡ v.bits)
one_holds v x = (λ h. let k = held (range_one v) x h in omega (arith, k.above, k.below), λ e. one_of_holds v x e)

empty_holds : (a : Range) (x : ℕ) → range_is_empty a ≡ true → range_holds a x ≡ false
empty_holds a x e = false_from_ne_true _ (λ h. let k = held a x h in let l = ltb-true _ _ e in omega (arith, k.above, k.below))

mask_below : (a : Range) (e : Bool) → cond e 0 (number_of a.width.0 (shares_from a)) < 2 ^ a.width.0
mask_below a true = let h = number_of_below a.width.0 (shares_from a) in omega (arith, h)
mask_below a false = number_of_below a.width.0 (shares_from a)

low_held : (a : Range) → range_is_empty a ≡ false → range_holds a a.lo ≡ true
low_held a e = held_is a a.lo (omega arith) (ltb-false _ _ e)

pick_held : (a : Range) (e : Bool) → range_is_empty a ≡ e → MatchOption (cond e None (Some a.lo)) (e ≡ true) (λ x. range_holds a x ≡ true)
pick_held a true e = refl
pick_held a false e = low_held a e

pub range_laws : DomainLaws range_ops
range_laws = record {
  full_is = λ w h. full_is w h;
  one_is = λ v h. one_is v h;
  meet_is = meet_is;
  with_bit_is = λ a i v p l. with_bit_is a i v p;
  forward_is = forward_is;
  backward_is = backward_is;
  width_is = λ a p. p.width;
  mask_fits = λ a p. mask_below a (range_is_empty a);
  held_fits = λ a x p h. held_below a x p (held a x h);
  full_holds = λ w x h l. full_holds w x l;
  one_holds = λ v x h. one_holds v x;
  one_known = λ v h. one_all v;
  meet_holds = λ a b x g h k. meet_holds a b x (held a x h) (held b x k);
  meet_empty = λ a b g s. meet_empty a b g.a_is g.b_is s;
  meet_knows = meet_knows;
  empty_holds_none = λ a x p e. empty_holds a x e;
  holds_some = λ a p e. (a.lo, low_held a e);
  held_agrees = λ a x p h. held_agrees a x p (held a x h);
  empty_known = λ a p e. empty_known a e;
  known_one = λ a x y p k h g. known_one a x y p k (held a x h) (held a y g);
  forward_holds = forward_holds;
  forward_known = forward_known;
  backward_holds = backward_holds;
  pick_held = λ a p. pick_held a (range_is_empty a) refl;
  with_bit_holds = λ a i v x p l e h. with_bit_holds a i v x e (held a x h);
}

abbrev range_eq : Range → Range → Bool
range_eq a b = eqb a.lo b.lo && (eqb a.hi b.hi && eqb a.width.0 b.width.0)

same_parts : (a b : Range) → a.lo ≡ b.lo → a.hi ≡ b.hi → a.width.0 ≡ b.width.0 → a ≡ b
same_parts a b e f g = grind arith

pub range_exact : IsExact range_eq
range_exact = record {
  same = λ a b h.
      let p = and_parts (eqb a.lo b.lo) _ h in
      let q = and_parts (eqb a.hi b.hi) (eqb a.width.0 b.width.0) p.1 in
      same_parts a b (eqb-true _ _ p.0) (eqb-true _ _ q.0) (eqb-true _ _ q.1);
  refl = λ a. and_from (eqb a.lo a.lo) _ (eq-eqb a.lo a.lo refl) (and_from (eqb a.hi a.hi) (eqb a.width.0 a.width.0) (eq-eqb a.hi a.hi refl) (eq-eqb a.width.0 a.width.0 refl));
}
