-- The bits that a range knows: those that its ends share, with all bits above.
use Rattle.std.proofs.Common.{◌≡◌, ℕ, ◌-◌, ◌/◌, ◌^◌, ◌<◌, ◌≤◌, Bool, true, false, ◌&&◌, bit_and, refl, sym, ap, ◌∙◌, ⊎_elim, arith}
use Rattle.std.specs.Int.Bits.{and_zero_r}
use Rattle.std.proofs.lemmas.Bool.{cases_lt, cond-true, cond-false, cond_both, eqb-true, eq-eqb, le-ltb, false≢true, cases_Bool}
use Rattle.std.proofs.lemmas.Nat.{pow_pos, and_le_l}
use Rattle.dt_lemmas.proofs.Powers.{quotient_between}
use Rattle.dt_lemmas.proofs.Booleans.{and_alike, and_kept}
use Rattle.dt_bits.specs.Bits.{bit, number_of}
use Rattle.dt_bits.specs.declared.value.Bv.{Bv}
use Rattle.dt_bits.proofs.BitLemmas.{same_bits, bit_of_and, bit_of_zero, bit_of_ones, bit_above, number_of_below, bit_of_number, same_bit}
use Rattle.dt_domain.specs.Domain.{KnowsBit, IsAllKnown}
use Rattle.dt_range.specs.declared.Range.{Range}
use Rattle.dt_range.specs.Range.{IsRange, range_is_empty, shares_from, range_mask, range_value, range_one}
use Rattle.dt_range.specs.Ops.{range_ops}
use Rattle.dt_range.specs.Laws.Between.{Held, held_full}

pub mask_empty : (a : Range) → range_is_empty a ≡ true → range_mask a ≡ 0
mask_empty a e = cond-true (range_is_empty a) 0 (number_of a.width.0 (shares_from a)) e

pub mask_full : (a : Range) → range_is_empty a ≡ false → range_mask a ≡ number_of a.width.0 (shares_from a)
mask_full a e = cond-false (range_is_empty a) 0 (number_of a.width.0 (shares_from a)) e

pub mask_fits : (a : Range) → range_mask a < 2 ^ a.width.0
mask_fits a = cond_both (range_is_empty a) 0 (number_of a.width.0 (shares_from a)) (λ n. n < 2 ^ a.width.0)
    (λ _. pow_pos a.width.0) (λ _. number_of_below a.width.0 (shares_from a))

pub mask_bit : (a : Range) (i : ℕ) → range_is_empty a ≡ false → i < a.width.0 → bit (range_mask a) i ≡ shares_from a i
mask_bit a i e l = ap (λ n. bit n i) (mask_full a e) ∙ bit_of_number a.width.0 (shares_from a) i l

-- a held number has the bits that the ends share
pub held_shares : (a : Range) (x i : ℕ) → Held a x → shares_from a i ≡ true → x / 2 ^ i ≡ a.lo / 2 ^ i
held_shares a x i h e = quotient_between a.lo x a.hi i h.above h.below (eqb-true _ _ e)

pub held_agrees : (a : Range) (x : ℕ) → IsRange a → Held a x → bit_and x (range_mask a) ≡ range_value a
held_agrees a x p h =
    let m = range_mask a in
    let below : x < 2 ^ a.width.0 = omega (arith, p.hi_fits, h.below) in
    same_bits a.width.0 (bit_and x m) (bit_and a.lo m) (omega (arith, and_le_l x m)) (omega (arith, and_le_l a.lo m, p.lo_fits))
    (λ i l. bit_of_and x m i
    ∙ and_alike (bit m i) (bit x i) (bit a.lo i) (λ e. same_bit x a.lo i (held_shares a x i h (sym (mask_bit a i (held_full a x h) l) ∙ e)))
    ∙ sym (bit_of_and a.lo m i))

pub empty_known : (a : Range) → range_is_empty a ≡ true → (range_mask a ≡ 0) × (range_value a ≡ 0)
empty_known a e = (mask_empty a e, ap (bit_and a.lo) (mask_empty a e) ∙ and_zero_r a.lo)

-- ---- one bit

-- what it means that a knows that bit i is v
pub record Knows (a : Range) (i : ℕ) (v : Bool) : Type 0 where
  pub full : range_is_empty a ≡ false
  pub below : i < a.width.0
  pub shares : shares_from a i ≡ true
  pub is : bit a.lo i ≡ v

pub knows : (a : Range) (i : ℕ) (v : Bool) → KnowsBit range_ops a i v → Knows a i v
knows a i v k =
    let full : range_is_empty a ≡ false = ⊎_elim
    (λ (e : range_is_empty a ≡ true). absurd (false≢true (sym (bit_of_zero i) ∙ ap (λ n. bit n i) (sym (mask_empty a e)) ∙ k.0)))
    (λ (e : range_is_empty a ≡ false). e)
    (cases_Bool (range_is_empty a)) in
    let below : i < a.width.0 = ⊎_elim
    (λ (l : i < a.width.0). l)
    (λ (l : a.width.0 ≤ i). absurd (false≢true (sym (bit_above (range_mask a) a.width.0 i (mask_fits a) l) ∙ k.0)))
    (cases_lt i a.width.0) in
    record {
      full = full;
      below = below;
      shares = sym (mask_bit a i full below) ∙ k.0;
      is = (and_left_is (bit a.lo i) (bit (range_mask a) i) k.0) ∙ sym (bit_of_and a.lo (range_mask a) i) ∙ k.1;
    }
  where
    and_left_is : (p q : Bool) → q ≡ true → p ≡ (p && q)
    and_left_is p q e = grind arith

pub knows_bit : (a : Range) (i : ℕ) (v : Bool) → Knows a i v → KnowsBit range_ops a i v
knows_bit a i v k =
    let m : bit (range_mask a) i ≡ true = mask_bit a i k.full k.below ∙ k.shares in
    (m, bit_of_and a.lo (range_mask a) i ∙ and_kept (bit a.lo i) (bit (range_mask a) i) m ∙ k.is)

-- ---- all bits

-- where all bits are known, the range is a single value
pub all_single : (a : Range) → 1 ≤ a.width.0 → IsAllKnown range_ops a → a.lo ≡ a.hi
all_single a l h =
    let e = sym (mask_bit a 0 h.0 (omega arith)) ∙ ap (λ n. bit n 0) h.1 ∙ bit_of_ones a.width.0 0 (omega arith) in
    let d : a.lo / 2 ^ 0 ≡ a.hi / 2 ^ 0 = eqb-true _ _ e in
    omega arith

-- a single value has all bits known
pub one_all : (v : Bv) → IsAllKnown range_ops (range_one v)
one_all v =
    let e : range_is_empty (range_one v) ≡ false = le-ltb v.bits v.bits (omega arith) in (
      e,
      mask_full (range_one v) e ∙ same_bits v.width.0 _ (2 ^ v.width.0 - 1) (number_of_below v.width.0 (shares_from (range_one v))) (omega (arith, pow_pos v.width.0))
          (λ i l. bit_of_number v.width.0 (shares_from (range_one v)) i l ∙ eq-eqb (v.bits / 2 ^ i) (v.bits / 2 ^ i) refl ∙ sym (bit_of_ones v.width.0 i l)),
    )

-- where all bits are known, at most one number is held
pub known_one : (a : Range) (x y : ℕ) → IsRange a → range_mask a ≡ 2 ^ a.width.0 - 1 → Held a x → Held a y → x ≡ y
known_one a x y p e h k =
    let s = all_single a p.width.0 (held_full a x h, e) in
    omega (arith, h.above, h.below, k.above, k.below)
