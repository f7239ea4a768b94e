-- What the words of the bodies are: masks, halves and shifted ends.
use Rattle.std.proofs.Common.{◌≡◌, ℕ, suc, ◌+◌, ◌-◌, ◌/◌, ◌^◌, ◌<◌, ◌≤◌, false, not, ◌&&◌, eqb, ltb, bit_xor, refl, sym, ap, ◌∙◌, subst, ⊎_elim, arith}
use Rattle.std.specs.Int.{w128, leading_zeros}
use Rattle.std.specs.Int.Bits.{xor_self}
use Rattle.std.proofs.lemmas.Bool.{cases_lt, cases_eq, and_right, eq-eqb, ne_eqb, lt-ltb, le-ltb}
use Rattle.std.proofs.lemmas.Nat.{pow_pos, xor_lt, xor_shr, le-div, leading_top}
use Rattle.std.proofs.lemmas.Nat.Bits.{ones_shr}
use Rattle.std.proofs.Math.Nat.{div-eq_of_lt, pow-le-pow_right}
use Rattle.dt_lemmas.proofs.Powers.{halved, quotient_fits}
use Rattle.dt_bits.specs.Bits.{number_of}
use Rattle.dt_bits.proofs.BitLemmas.{same_bits, bit_of_complement, bit_of_ones, bit_of_ones_at, bit_of_number, number_of_below, equal_from_xor}
use Rattle.dt_range.specs.declared.Range.{Range}
use Rattle.dt_range.specs.Range.{IsRange, range_is_empty, shares_from, range_mask}
use Rattle.dt_range.specs.Laws.KnownBits.{mask_full}

-- ---- two numbers from a bit up

-- j is the highest bit in which x and y differ: they share the bits from i up exactly where i is above it
shared_above : (w x y j i : ℕ) → x < 2 ^ w → y < 2 ^ w → 2 ^ j ≤ bit_xor x y → bit_xor x y < 2 ^ suc j → eqb (x / 2 ^ i) (y / 2 ^ i) ≡ not (ltb i (suc j))
shared_above w x y j i h k l u = ⊎_elim
    (λ (s : i < suc j). ne_eqb _ _ (λ e.
    let z : bit_xor x y / 2 ^ i ≡ 0 = xor_shr x y i ∙ ap (λ n. bit_xor n (y / 2 ^ i)) e ∙ xor_self (y / 2 ^ i) in
    let p : 2 ^ i ≤ 2 ^ j = pow-le-pow_right (omega arith) (omega arith) in
    let q : 1 ≤ bit_xor x y / 2 ^ i = le-div 1 (bit_xor x y) (2 ^ i) (pow_pos i) (omega arith) in
    omega arith) ∙ ap not (sym (lt-ltb i (suc j) s)))
    (λ (s : suc j ≤ i). eq-eqb _ _ (
    let p : 2 ^ suc j ≤ 2 ^ i = pow-le-pow_right (omega arith) s in
    equal_from_xor w (x / 2 ^ i) (y / 2 ^ i) (quotient_fits w x i h) (quotient_fits w y i k)
    (sym (xor_shr x y i) ∙ div-eq_of_lt (let t : bit_xor x y < 2 ^ i = omega arith in t))) ∙ ap not (sym (le-ltb i (suc j) s)))
    (cases_lt i (suc j))

-- numbers share the bits from i up exactly where none differs there
pub shares_is : (w x y i : ℕ) → x < 2 ^ w → y < 2 ^ w → eqb (bit_xor x y / 2 ^ i) 0 ≡ eqb (x / 2 ^ i) (y / 2 ^ i)
shares_is w x y i h k = ⊎_elim
    (λ (e : x / 2 ^ i ≡ y / 2 ^ i). eq-eqb _ _ (xor_shr x y i ∙ ap (λ n. bit_xor n (y / 2 ^ i)) e ∙ xor_self (y / 2 ^ i)) ∙ sym (eq-eqb _ _ e))
    (λ (n : x / 2 ^ i ≡ y / 2 ^ i → ⊥).
    ne_eqb _ _ (λ e. n (equal_from_xor w (x / 2 ^ i) (y / 2 ^ i) (quotient_fits w x i h) (quotient_fits w y i k) (sym (xor_shr x y i) ∙ e)))
    ∙ sym (ne_eqb _ _ n))
    (cases_eq (x / 2 ^ i) (y / 2 ^ i))

one_is : (n : ℕ) → eqb n 1 ≡ (not (eqb n 0) && eqb (n / 2) 0)
one_is n = ⊎_elim
    (λ (e : n ≡ 0). at (λ m. eqb m 1 ≡ (not (eqb m 0) && eqb (m / 2) 0)) 0 n (sym e) refl)
    (λ (p : n ≡ 0 → ⊥). ⊎_elim
    (λ (e : n ≡ 1). at (λ m. eqb m 1 ≡ (not (eqb m 0) && eqb (m / 2) 0)) 1 n (sym e) refl)
    (λ (q : n ≡ 1 → ⊥). let half : n / 2 ≡ 0 → ⊥ = λ e. some_half n p q e in
    ne_eqb n 1 q ∙ sym (and_right (not (eqb n 0)) (eqb (n / 2) 0) (ne_eqb (n / 2) 0 half)))
    (cases_eq n 1))
    (cases_eq n 0)
  where
    at : (P : ℕ → Type 0) (m n : ℕ) → m ≡ n → P m → P n
    at P m n e h = subst P e h

    some_half : (n : ℕ) → (n ≡ 0 → ⊥) → (n ≡ 1 → ⊥) → n / 2 ≡ 0 → ⊥
    some_half n p q e = grind arith

-- bit i is the highest in which they differ exactly where the differing bits from i up are that bit alone
pub highest_is : (w x y i : ℕ) → x < 2 ^ w → y < 2 ^ w
    → eqb (bit_xor x y / 2 ^ i) 1 ≡ (not (eqb (x / 2 ^ i) (y / 2 ^ i)) && eqb (x / 2 ^ (i + 1)) (y / 2 ^ (i + 1)))
highest_is w x y i h k =
    one_is (bit_xor x y / 2 ^ i)
    ∙ ap (λ b. not b && eqb (bit_xor x y / 2 ^ i / 2) 0) (shares_is w x y i h k)
    ∙ ap (λ b. not (eqb (x / 2 ^ i) (y / 2 ^ i)) && b) (ap (λ n. eqb n 0) (halved (bit_xor x y) i) ∙ shares_is w x y (i + 1) h k)

-- ---- the mask

-- all bits are known where the ends are equal
pub mask_of_equal : (a : Range) → IsRange a → range_is_empty a ≡ false → bit_xor a.lo a.hi ≡ 0 → 2 ^ a.width.0 - 1 ≡ range_mask a
mask_of_equal a p e d =
    let w = a.width.0 in
    let s = equal_from_xor w a.lo a.hi p.lo_fits p.hi_fits d in
    same_bits w (2 ^ w - 1) (number_of w (shares_from a)) (omega (arith, pow_pos w)) (number_of_below w (shares_from a))
    (λ i l. bit_of_ones w i l ∙ sym (bit_of_number w (shares_from a) i l ∙ eq-eqb _ _ (ap (λ n. n / 2 ^ i) s)))
    ∙ sym (mask_full a e)

-- what the place of the highest differing bit says
pub record Highest (a : Range) : Type 0 where
  pub j : ℕ
  pub zeros : leading_zeros w128 (bit_xor a.lo a.hi) + suc j ≡ 128
  pub reached : 2 ^ j ≤ bit_xor a.lo a.hi
  pub above : bit_xor a.lo a.hi < 2 ^ suc j
  pub within : suc j ≤ a.width.0

pub highest_of : (a : Range) → IsRange a → (bit_xor a.lo a.hi ≡ 0 → ⊥) → Highest a
highest_of a p n =
    let d = bit_xor a.lo a.hi in
    let fits : d < 2 ^ a.width.0 = xor_lt a.width.0 a.lo a.hi p.lo_fits p.hi_fits in
    let wide : 2 ^ a.width.0 ≤ 2 ^ 128 = pow-le-pow_right (omega arith) p.width.1 in
    let some : 0 < d = positive d n in
    let t = leading_top 128 d some (omega arith) in
    record {
      j = t.0;
      zeros = t.1;
      reached = t.2;
      above = t.3;
      within = ⊎_elim (λ (l : a.width.0 < suc t.0). let q : 2 ^ a.width.0 ≤ 2 ^ t.0 = pow-le-pow_right (omega arith) (omega arith) in absurd (omega (arith, t.2))) (λ (l : suc t.0 ≤ a.width.0). l) (cases_lt a.width.0 (suc t.0));
    }
  where
    positive : (d : ℕ) → (d ≡ 0 → ⊥) → 0 < d
    positive d n = grind arith

-- the word of all bits up to the highest that differs
pub low_word : (a : Range) (h : Highest a) → (2 ^ 128 - 1) / 2 ^ leading_zeros w128 (bit_xor a.lo a.hi) ≡ 2 ^ suc h.j - 1
low_word a h =
    let z = leading_zeros w128 (bit_xor a.lo a.hi) in
    let e : 128 - z ≡ suc h.j = omega (arith, h.zeros) in
    ones_shr 128 z (omega (arith, h.zeros)) ∙ ap (λ n. 2 ^ n - 1) e

pub low_word_fits : (a : Range) (h : Highest a) → (2 ^ 128 - 1) / 2 ^ leading_zeros w128 (bit_xor a.lo a.hi) ≤ 2 ^ a.width.0 - 1
low_word_fits a h =
    let q : 2 ^ suc h.j ≤ 2 ^ a.width.0 = pow-le-pow_right (omega arith) h.within in
    omega (arith, low_word a h)

pub mask_of_differing : (a : Range) → IsRange a → range_is_empty a ≡ false → (h : Highest a)
    → 2 ^ a.width.0 - 1 - (2 ^ 128 - 1) / 2 ^ leading_zeros w128 (bit_xor a.lo a.hi) ≡ range_mask a
mask_of_differing a p e h =
    let w = a.width.0 in
    let q : 2 ^ suc h.j ≤ 2 ^ w = pow-le-pow_right (omega arith) h.within in
    let n = 2 ^ suc h.j - 1 in
    ap (λ m. 2 ^ w - 1 - m) (low_word a h)
    ∙ same_bits w (2 ^ w - 1 - n) (number_of w (shares_from a)) (omega (arith, pow_pos w)) (number_of_below w (shares_from a))
    (λ i l. bit_of_complement w n i (omega (arith, pow_pos (suc h.j))) l ∙ ap not (bit_of_ones_at (suc h.j) i)
    ∙ sym (bit_of_number w (shares_from a) i l ∙ shared_above w a.lo a.hi h.j i p.lo_fits p.hi_fits h.reached h.above))
    ∙ sym (mask_full a e)

-- ---- halves

-- ---- shifted ends
