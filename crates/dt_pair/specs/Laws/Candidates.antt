-- A candidate: its bits, its place among the numbers, and that it has the known bits.
use Rattle.std.proofs.Common.{◌≡◌, ℕ, ◌+◌, ◌-◌, ◌*◌, ◌/◌, ◌%◌, ◌^◌, ◌<◌, ◌≤◌, Bool, true, false, not, ◌&&◌, cond, ltb, bit_and, sym, ap, ◌∙◌, subst, ⊎_elim, arith}
use Rattle.std.proofs.lemmas.Bool.{cases_lt, cases_order, and_parts, and_from, eqb-true, eq-eqb, not-true, cond-true, cond-false, le-ltb, lt-ltb}
use Rattle.std.proofs.lemmas.Nat.{pow_pos, pow-add, and_shr, and_mod, and_le_l, and_le_r, shr_below, mul-add-lt, mod_below, shr-shr, div-mul-add}
use Rattle.dt_lemmas.proofs.Powers.{quotient_le, pow_next, odd_above}
use Rattle.dt_bits.specs.Bits.{bit}
use Rattle.dt_bits.proofs.BitLemmas.{same_bits, bit_of_and, bit_of_shr, bit_of_mod, bit_of_joined, bit_of_ones, bit_of_odd, upper_bits}
use Rattle.dt_pair.specs.Ends.{has_bits, agrees_above, is_candidate, candidate, is_known_zero}
use Rattle.dt_pair.specs.Laws.Splits.{Parting, split_low, split_high}

-- ---- its bits

pub candidate_form : (v lo i : ℕ) → candidate v lo i ≡ (lo / 2 ^ (i + 1) * 2 ^ 1 + 1) * 2 ^ i + v % 2 ^ i
candidate_form v lo i = ap (λ p. lo / 2 ^ (i + 1) * p + 2 ^ i + v % 2 ^ i) (pow_next i) ∙ odd_above (lo / 2 ^ (i + 1)) (2 ^ i) (v % 2 ^ i)

bits : (v lo i j : ℕ) → bit (candidate v lo i) j ≡ cond (ltb j i) (bit (v % 2 ^ i) j) (bit (lo / 2 ^ (i + 1) * 2 ^ 1 + 1) (j - i))
bits v lo i j = ap (λ n. bit n j) (candidate_form v lo i) ∙ bit_of_joined (lo / 2 ^ (i + 1) * 2 ^ 1 + 1) i (v % 2 ^ i) j (mod_below v (2 ^ i) (pow_pos i))

pub bits_below : (v lo i j : ℕ) → j < i → bit (candidate v lo i) j ≡ bit v j
bits_below v lo i j l = bits v lo i j ∙ cond-true (ltb j i) _ _ (lt-ltb j i l) ∙ bit_of_mod v i j l

pub bit_here : (v lo i : ℕ) → bit (candidate v lo i) i ≡ true
bit_here v lo i =
    let z : i - i ≡ 0 = omega arith in
    bits v lo i i ∙ cond-false (ltb i i) _ _ (le-ltb i i (omega arith))
    ∙ ap (bit (lo / 2 ^ (i + 1) * 2 ^ 1 + 1)) z ∙ bit_of_odd (lo / 2 ^ (i + 1)) 0 ∙ bit_of_ones 1 0 (omega arith)

pub bits_above : (v lo i j : ℕ) → i < j → bit (candidate v lo i) j ≡ bit lo j
bits_above v lo i j l =
    let e : i + 1 + (j - i - 1) ≡ j = omega arith in
    bits v lo i j ∙ cond-false (ltb j i) _ _ (le-ltb j i (omega arith))
    ∙ bit_of_odd (lo / 2 ^ (i + 1)) (j - i) ∙ cond-false (ltb (j - i) 1) _ _ (le-ltb (j - i) 1 (omega arith))
    ∙ bit_of_shr lo (i + 1) (j - i - 1) ∙ ap (bit lo) e

-- ---- known bits

-- each bit of a number that has the known bits
pub has_bit : (m v x j : ℕ) → has_bits m v x ≡ true → (bit x j && bit m j) ≡ bit v j
has_bit m v x j h = sym (bit_of_and x m j) ∙ ap (λ n. bit n j) (eqb-true (bit_and x m) v h)

pub above_bit : (m v x i j : ℕ) → agrees_above m v x i ≡ true → i < j → (bit x j && bit m j) ≡ bit v j
above_bit m v x i j h l =
    let k = j - (i + 1) in
    let e : i + 1 + k ≡ j = omega arith in
    let s = has_bit (m / 2 ^ (i + 1)) (v / 2 ^ (i + 1)) (x / 2 ^ (i + 1)) k h in
    subst (λ n. (bit x n && bit m n) ≡ bit v n) e
    (ap (λ b. b && bit m (i + 1 + k)) (sym (bit_of_shr x (i + 1) k)) ∙ ap (λ b. bit (x / 2 ^ (i + 1)) k && b) (sym (bit_of_shr m (i + 1) k)) ∙ s ∙ bit_of_shr v (i + 1) k)

pub record IsCandidate (m v lo i : ℕ) : Type 0 where
  pub zero : bit lo i ≡ false
  pub free : is_known_zero m v i ≡ false
  pub above : agrees_above m v lo i ≡ true

pub candidate_is : (m v lo i : ℕ) → is_candidate m v lo i ≡ true → IsCandidate m v lo i
candidate_is m v lo i h =
    let p = and_parts (not (bit lo i)) _ h in
    let q = and_parts (not (is_known_zero m v i)) (agrees_above m v lo i) p.1 in
    record { zero = not-true (bit lo i) p.0; free = not-true (is_known_zero m v i) q.0; above = q.1 }

pub from_candidate : (m v lo i : ℕ) → IsCandidate m v lo i → is_candidate m v lo i ≡ true
from_candidate m v lo i c = and_from (not (bit lo i)) _ (ap not c.zero) (and_from (not (is_known_zero m v i)) (agrees_above m v lo i) (ap not c.free) c.above)

here : (p q : Bool) → (q && p) ≡ q → (p && not q) ≡ false → (true && p) ≡ q
here p q e h = grind arith

-- a candidate has the known bits
pub candidate_has : (w m v lo i : ℕ) → bit_and v m ≡ v → m < 2 ^ w → IsCandidate m v lo i → has_bits m v (candidate v lo i) ≡ true
candidate_has w m v lo i e h c =
    let x = candidate v lo i in
    let within : (j : ℕ) → (bit v j && bit m j) ≡ bit v j = λ j. sym (bit_of_and v m j) ∙ ap (λ n. bit n j) e in
    eq-eqb (bit_and x m) v (same_bits w (bit_and x m) v (omega (arith, and_le_r x m)) (omega (arith, and_le_r v m)) (λ j l. bit_of_and x m j ∙
    ⊎_elim (λ (s : j ≡ i). subst (λ j. (bit x j && bit m j) ≡ bit v j) (sym s) (ap (λ b. b && bit m i) (bit_here v lo i) ∙ here (bit m i) (bit v i) (within i) c.free))
    (⊎_elim (λ (s : j < i). ap (λ b. b && bit m j) (bits_below v lo i j s) ∙ within j)
    (λ (s : i < j). ap (λ b. b && bit m j) (bits_above v lo i j s) ∙ above_bit m v lo i j c.above s))
    (cases_order j i)))

-- ---- its place

pub candidate_beyond : (v lo i : ℕ) → bit lo i ≡ false → lo < candidate v lo i
candidate_beyond v lo i h = omega (arith, split_low lo i h, mod_below lo (2 ^ i) (pow_pos i))

pub candidate_fits : (w v lo i : ℕ) → i < w → lo < 2 ^ w → candidate v lo i < 2 ^ w
candidate_fits w v lo i l h =
    let k = w - (i + 1) in
    let e : k + (i + 1) ≡ w = omega arith in
    let q : lo / 2 ^ (i + 1) < 2 ^ k = shr_below lo k (i + 1) (subst (λ n. lo < 2 ^ n) (sym e) h) in
    let r : 2 ^ i + v % 2 ^ i < 2 ^ (i + 1) = omega (arith, mod_below v (2 ^ i) (pow_pos i), pow_next i) in
    let s : 2 ^ (i + 1) * 2 ^ k ≡ 2 ^ w = grind (arith, pow-add 2 k (i + 1), ap (λ n. 2 ^ n) e) in
    omega (arith, mul-add-lt (lo / 2 ^ (i + 1)) (2 ^ (i + 1)) (2 ^ i + v % 2 ^ i) (2 ^ k) q r)

-- ---- where a number that has the known bits parts from lo

known_here : (p q : Bool) → (true && p) ≡ q → (p && not q) ≡ false
known_here p q e = grind arith

-- there is a candidate
pub parting_candidate : (w m v lo y : ℕ) → has_bits m v y ≡ true → (p : Parting w lo y) → IsCandidate m v lo p.at
parting_candidate w m v lo y h p = record {
  zero = p.low;
  free = known_here (bit m p.at) (bit v p.at) (ap (λ b. b && bit m p.at) (sym p.high) ∙ has_bit m v y p.at h);
  above =
      let n = 2 ^ (p.at + 1) in
      eq-eqb (bit_and (lo / n) (m / n)) (v / n) (ap (λ q. bit_and q (m / n)) p.same ∙ sym (and_shr y m (p.at + 1)) ∙ ap (λ q. q / n) (eqb-true (bit_and y m) v h));
}

low_part : (m v y i : ℕ) → has_bits m v y ≡ true → v % 2 ^ i ≤ y % 2 ^ i
low_part m v y i h =
    let e : v % 2 ^ i ≡ bit_and (y % 2 ^ i) (m % 2 ^ i) = ap (λ n. n % 2 ^ i) (sym (eqb-true (bit_and y m) v h)) ∙ and_mod y m i in
    omega (arith, and_le_l (y % 2 ^ i) (m % 2 ^ i))

-- and it isn't greater than the number
pub candidate_least : (w m v lo y : ℕ) → has_bits m v y ≡ true → (p : Parting w lo y) → candidate v lo p.at ≤ y
candidate_least w m v lo y h p =
    let n = 2 ^ (p.at + 1) in
    let e : lo / n * n ≡ y / n * n = ap (λ q. q * n) p.same in
    omega (arith, split_high y p.at p.high, low_part m v y p.at h, e)

-- nor is a candidate at a lower bit
pub candidate_below : (w m v lo y i : ℕ) → (p : Parting w lo y) → i < p.at → candidate v lo i < y
candidate_below w m v lo y i p l =
    let x = candidate v lo i in
    let k = p.at - (i + 1) in
    let d : i + 1 + k ≡ p.at = omega arith in
    let r : 2 ^ i + v % 2 ^ i < 2 ^ (i + 1) = omega (arith, mod_below v (2 ^ i) (pow_pos i), pow_next i) in
    let f : lo / 2 ^ (i + 1) * 2 ^ (i + 1) + (2 ^ i + v % 2 ^ i) ≡ x = omega arith in
    let s : x / 2 ^ (i + 1) ≡ lo / 2 ^ (i + 1) = ap (λ n. n / 2 ^ (i + 1)) (sym f) ∙ div-mul-add (lo / 2 ^ (i + 1)) (2 ^ (i + 1)) (2 ^ i + v % 2 ^ i) r in
    let t : x / 2 ^ p.at ≡ lo / 2 ^ p.at = ap (λ n. x / 2 ^ n) (sym d) ∙ sym (shr-shr x (i + 1) k) ∙ ap (λ n. n / 2 ^ k) s ∙ shr-shr lo (i + 1) k ∙ ap (λ n. lo / 2 ^ n) d in
    let a : lo / 2 ^ p.at ≡ lo / 2 ^ (p.at + 1) * 2 + 0 = subst (λ b. lo / 2 ^ p.at ≡ lo / 2 ^ (p.at + 1) * 2 + cond b 1 0) p.low (upper_bits lo p.at) in
    let b : y / 2 ^ p.at ≡ y / 2 ^ (p.at + 1) * 2 + 1 = subst (λ b. y / 2 ^ p.at ≡ y / 2 ^ (p.at + 1) * 2 + cond b 1 0) p.high (upper_bits y p.at) in
    ⊎_elim (λ (o : x < y). o)
    (λ (o : y ≤ x). let u = quotient_le y x p.at o in let c = p.same in absurd (omega (arith, t, a, b, u, c)))
    (cases_lt x y)
