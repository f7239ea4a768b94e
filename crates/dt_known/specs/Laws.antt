-- Known keeps the laws of a domain.
pub mod Bits
pub mod Agreement
pub mod ForwardHolds
pub mod BackwardHolds
pub mod Calls
pub mod AllKnown
pub mod Meets
use Rattle.std.proofs.Common.{◌≡◌, ◌≢◌, ℕ, zero, suc, ◌+◌, ◌-◌, ◌*◌, ◌/◌, ◌%◌, ◌^◌, ◌<◌, ◌≤◌, Bool, true, false, not, ◌&&◌, ◌||◌, cond, eqb, ltb, leb, bit_and, Option, Some, None, is_some, refl, sym, ap, ◌∙◌, subst, inl, inr, ◌⊎◌, ⊎_elim, min, lit<, lit≤, arith, rules}
use Rattle.std.specs.Prelude.{MatchOption, ◌↔◌}
use Rattle.std.proofs.lemmas.Bool.{cases_lt, cond_both, cond-false, cond-true, and_parts, and_left, or_parts, or_from, or_left, or_right, ltb-true, ltb-false, leb-true, leb-false, eq-eqb, eqb-true, and_from, lt-ltb, false≢true, not-true, not-false, cases_Bool, false_from_ne_true}
use Rattle.std.proofs.lemmas.Nat.{pow_pos, and_le_r, and_mask}
use Rattle.std.specs.Int.Bits.{and_zero_r}
use Rattle.std.proofs.Math.Nat.{mod-eq_of_lt}
use mathlib.Core.Bool.{beq}
use Rattle.dt_lemmas.proofs.Booleans.{same_flags, flag_same}
use Rattle.dt_bits.specs.Bits.{IsWidth, IsValue, bit, width, differs, number_of, some_below}
use Rattle.dt_bits.specs.Ops.{IsOp, arity_of, fits_at, width_of, value_of}
use Rattle.dt_bits.specs.declared.op.Op.{Op}
use Rattle.dt_bits.specs.declared.op.Op.TheVariants.{Const, Not, And, Or, Xor, Add, Sub, Slice, Concat, SignExt, Shl, Shr, Eq, Ltu, Ite}
use Rattle.dt_bits.specs.declared.value.Bv.{Bv}
use Rattle.dt_bits.specs.declared.value.Width.{Width}
use Rattle.dt_bits.proofs.BitLemmas.{same_bits, number_of_below, bit_of_number, bit_of_ones, bit_above}
use Rattle.dt_bits.proofs.Below.{none_below, none_below_from, found_below}
use Rattle.dt_domain.specs.Domain.{DomainOps, DomainLaws, DecidingLaws, IsExact, Fitting, FittingAt, AreAlike, HoldUsed, AreUsedKnown, value_at, operand, Holds, IsAllKnown, KnowsBit, IsDomainOf, result_width}
use Rattle.dt_known.specs.declared.Known.{Known}
use Rattle.dt_known.specs.Known.{IsKnown, known_holds, is_one, known_bit, from_bits, nothing, known_meet, known_one, known_full, known_pick, known_with_bit, single_bit, clash, either, all_known, are_apart}
use Rattle.dt_known.specs.Forward.{forward_bit, known_forward, some_used_empty, width_after, not_bit, sum_bit, carry_into, greatest}
use Rattle.dt_known.specs.Backward.{backward_bit, has_conflict, known_backward}
use Rattle.dt_known.specs.Ops.{known_ops}
use Rattle.dt_known.specs.Laws.Bits.{Agrees, Held, held, held_is, holds_from_bits, known_is_from_bits, known_is_nothing, mask_bit, value_bit, value_fits, bit_from_bits, all_from_bits, known_all}
use Rattle.dt_known.specs.Laws.Calls.{forward_is, forward_holds, backward_is, backward_holds}
use Rattle.dt_known.specs.Laws.AllKnown.{forward_known}
use Rattle.dt_known.specs.Laws.Meets.{meet_is, meet_holds, meet_empty, meet_knows, bit_knows, single_knows, single_holds, single_is}

empty_holds : (a : Known) (x : ℕ) → a.empty ≡ true → known_holds a x ≡ false
empty_holds a x e = and_left (not a.empty) _ (ap not e)

value_held : (a : Known) → IsKnown a → a.empty ≡ false → known_holds a a.value ≡ true
value_held a p e = held_is a a.value e (value_fits a p) p.within

one_is_known : (v : Bv) → IsValue v → IsKnown (known_one v)
one_is_known v h = record {
  width = h.0;
  mask_fits = omega (arith, pow_pos v.width.0);
  within = and_mask v.bits v.width.0 ∙ mod-eq_of_lt h.1;
  empty = λ e. absurd (false≢true e);
}

one_holds : (v : Bv) (x : ℕ) → IsValue v → known_holds (known_one v) x ≡ true ↔ (x ≡ v.bits)
one_holds v x h = (
  λ e. let k = held (known_one v) x (one_is_known v h) e in
      let s : bit_and x (2 ^ v.width.0 - 1) ≡ x = and_mask x v.width.0 ∙ mod-eq_of_lt k.fits in sym s ∙ k.masked,
  λ e. let s : x < 2 ^ v.width.0 = subst (λ n. n < 2 ^ v.width.0) (sym e) h.1 in
      held_is (known_one v) x refl s (and_mask x v.width.0 ∙ mod-eq_of_lt s ∙ e),
)

pick_held : (a : Known) (e : Bool) → IsKnown a → a.empty ≡ e → MatchOption (cond e None (Some a.value)) (e ≡ true) (λ x. known_holds a x ≡ true)
pick_held a true p e = refl
pick_held a false p e = value_held a p e

known_same : (a : Known) (x y : ℕ) → a.mask ≡ 2 ^ a.width.0 - 1 → Held a x → Held a y → x ≡ y
known_same a x y k h g =
    let s : bit_and x (2 ^ a.width.0 - 1) ≡ x = and_mask x a.width.0 ∙ mod-eq_of_lt h.fits in
    let t : bit_and y (2 ^ a.width.0 - 1) ≡ y = and_mask y a.width.0 ∙ mod-eq_of_lt g.fits in
    sym s ∙ ap (bit_and x) (sym k) ∙ h.masked ∙ sym g.masked ∙ ap (bit_and y) k ∙ t

single_alike : (a : Known) (i : ℕ) (v : Bool) → IsKnown a → AreAlike known_ops a (single_bit a.width i v)
single_alike a i v p = record { a_is = p; b_is = single_is a.width i v p.width; widths = refl }

pub known_laws : DomainLaws known_ops
known_laws = record {
  full_is = λ w h. (record { width = h; mask_fits = pow_pos w.0; within = refl; empty = λ e. absurd (false≢true e) }, refl);
  one_is = λ v h. (one_is_known v h, refl);
  meet_is = meet_is;
  with_bit_is = λ a i v p l. meet_is a (single_bit a.width i v) (single_alike a i v p);
  forward_is = forward_is;
  backward_is = backward_is;
  width_is = λ a p. p.width;
  mask_fits = λ a p. p.mask_fits;
  held_fits = λ a x p h. (held a x p h).fits;
  full_holds = λ w x h l. held_is (known_full w) x refl l (and_zero_r x);
  one_holds = one_holds;
  one_known = λ v h. (refl, refl);
  meet_holds = meet_holds;
  meet_empty = meet_empty;
  meet_knows = meet_knows;
  empty_holds_none = λ a x p e. empty_holds a x e;
  holds_some = λ a p e. (a.value, value_held a p e);
  held_agrees = λ a x p h. (held a x p h).masked;
  empty_known = λ a p e. p.empty e;
  known_one = λ a x y p k h g. known_same a x y k (held a x p h) (held a y p g);
  forward_holds = forward_holds;
  forward_known = forward_known;
  backward_holds = backward_holds;
  pick_held = λ a p. pick_held a a.empty p refl;
  with_bit_holds = λ a i v x p l e h. meet_holds a (single_bit a.width i v) x (single_alike a i v p) h (single_holds a.width i v x (held a x p h).fits e);
}

pub known_decides : DecidingLaws known_ops
known_decides = record {
  with_bit_decides = λ a i v p l.
      let s = single_bit a.width i v in
      let q = single_alike a i v p in
      ⊎_elim (λ (t : (known_meet a s).empty ≡ true). inl t)
      (λ (t : (known_meet a s).empty ≡ false). inr (
        meet_knows a s i v q t (inr (bit_knows s i v q.b_is (single_knows a.width i v l))),
        λ j u k. meet_knows a s j u q t (inl k),
      ))
      (cases_Bool ((known_meet a s).empty));
}

abbrev known_eq : Known → Known → Bool
known_eq a b = eqb a.mask b.mask && (eqb a.value b.value && (beq a.empty b.empty && eqb a.width.0 b.width.0))

same_parts : (a b : Known) → a.mask ≡ b.mask → a.value ≡ b.value → a.width.0 ≡ b.width.0 → a.empty ≡ b.empty → a ≡ b
same_parts a b e f g h = grind arith

pub known_exact : IsExact known_eq
known_exact = record {
  same = λ a b h.
      let p = and_parts (eqb a.mask b.mask) _ h in
      let q = and_parts (eqb a.value b.value) _ p.1 in
      let r = and_parts (beq a.empty b.empty) (eqb a.width.0 b.width.0) q.1 in
      same_parts a b (eqb-true _ _ p.0) (eqb-true _ _ q.0) (eqb-true _ _ r.1) (same_flags a.empty b.empty r.0);
  refl = λ a. and_from (eqb a.mask a.mask) _ (eq-eqb a.mask a.mask refl) (and_from (eqb a.value a.value) _ (eq-eqb a.value a.value refl) (and_from (beq a.empty a.empty) (eqb a.width.0 a.width.0) (flag_same a.empty) (eq-eqb a.width.0 a.width.0 refl)));
}
