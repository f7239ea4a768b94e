-- Where the lowest candidate stands, found by the highest bit at which lo and the known bits clash.
use Rattle.std.proofs.Common.{◌≡◌, ℕ, suc, ◌+◌, ◌-◌, ◌/◌, ◌^◌, ◌<◌, ◌≤◌, Bool, true, false, not, ◌&&◌, ◌||◌, bit_and, bit_or, bit_xor, refl, sym, ap, ◌∙◌, subst, ⊎_elim, arith}
use Rattle.std.specs.Int.{w128, leading_zeros, trailing_zeros}
use Rattle.std.proofs.lemmas.Bool.{cases_lt, cases_eq, cases_order, false_from_ne_true, false≢true, true≢false, eq-eqb, le-leb}
use Rattle.std.proofs.lemmas.Nat.{pow_pos, leading_top, and_le_r, xor_lt, or_lt, shr_le}
use Rattle.std.proofs.lemmas.Nat.Bits.{bit_at-trailing_zeros}
use Rattle.std.proofs.Math.Nat.{pow-le-pow_right}
use Rattle.dt_bits.specs.Bits.{bit, differs}
use Rattle.dt_bits.proofs.BitLemmas.{same_bits, bit_is, bit_of_and, bit_of_or, bit_of_xor, bit_of_shr, bit_of_zero, bit_of_ones, bit_above, top_bit_is}
use Rattle.dt_pair.specs.Ends.{has_bits, agrees_above, is_candidate}
use Rattle.dt_pair.specs.Places.{IsLowestPlace}
use Rattle.dt_pair.specs.Laws.Candidates.{candidate_is, from_candidate, above_bit}
use Rattle.dt_pair.specs.Laws.Least.{AreWords}

-- ---- clashes

-- the known bits that lo hasn't
abbrev pub clash : ℕ → ℕ → ℕ → ℕ
clash m v lo = bit_and (bit_xor lo v) m

agree_here : (x v m : Bool) → (v && m) ≡ v → (differs x v && m) ≡ false → (x && m) ≡ v
agree_here x v m h e = grind arith

within_bit : (w m v j : ℕ) → AreWords w m v → (bit v j && bit m j) ≡ bit v j
within_bit w m v j a = sym (bit_of_and v m j) ∙ ap (λ n. bit n j) a.within

clash_bit : (m v lo j : ℕ) → bit (clash m v lo) j ≡ (differs (bit lo j) (bit v j) && bit m j)
clash_bit m v lo j = bit_of_and (bit_xor lo v) m j ∙ ap (λ b. b && bit m j) (bit_of_xor lo v j)

agrees_at : (w m v lo j : ℕ) → AreWords w m v → bit (clash m v lo) j ≡ false → (bit lo j && bit m j) ≡ bit v j
agrees_at w m v lo j a e = agree_here (bit lo j) (bit v j) (bit m j) (within_bit w m v j a) (sym (clash_bit m v lo j) ∙ e)

-- no clash: lo has the known bits
pub no_clash : (w m v lo : ℕ) → AreWords w m v → clash m v lo ≡ 0 → has_bits m v lo ≡ true
no_clash w m v lo a e = eq-eqb (bit_and lo m) v (same_bits w (bit_and lo m) v (omega (arith, and_le_r lo m, a.mask)) (omega (arith, and_le_r v m, a.mask, a.within))
    (λ j l. bit_of_and lo m j ∙ agrees_at w m v lo j a (ap (λ n. bit n j) e ∙ bit_of_zero j)))

pub clash_pos : (w m v lo : ℕ) → AreWords w m v → has_bits m v lo ≡ false → 0 < clash m v lo
clash_pos w m v lo a h = ⊎_elim (λ (e : clash m v lo ≡ 0). absurd (true≢false (sym (no_clash w m v lo a e) ∙ h))) (λ (n : clash m v lo ≡ 0 → ⊥). omega arith) (cases_eq (clash m v lo) 0)

clash_wide : (w m v lo : ℕ) → AreWords w m v → w ≤ 128 → clash m v lo < 2 ^ 128
clash_wide w m v lo a l = let u : 2 ^ w ≤ 2 ^ 128 = pow-le-pow_right (omega arith) l in omega (arith, and_le_r (bit_xor lo v) m, a.mask)

pub leading_fits : (w m v lo : ℕ) → AreWords w m v → w ≤ 128 → has_bits m v lo ≡ false → leading_zeros w128 (clash m v lo) ≤ 127
leading_fits w m v lo a l h = let k = leading_top 128 (clash m v lo) (clash_pos w m v lo a h) (clash_wide w m v lo a l) in omega (arith, k.1)

-- t is the highest bit at which they clash
pub record IsClash (w m v lo t : ℕ) : Type 0 where
  pub below : t < w
  pub here : (differs (bit lo t) (bit v t) && bit m t) ≡ true
  pub above : (j : ℕ) → t < j → (bit lo j && bit m j) ≡ bit v j

top_is : (w n t : ℕ) → n < 2 ^ w → w ≤ 128 → 0 < n → t ≡ 127 - leading_zeros w128 n → (t < w) × (bit n t ≡ true) × ((j : ℕ) → t < j → bit n j ≡ false)
top_is w n t h l p e =
    let m : 2 ^ w ≤ 2 ^ 128 = pow-le-pow_right (omega arith) l in
    let k = leading_top 128 n p (omega arith) in
    let d : t ≡ k.0 = omega (arith, k.1) in
    let b : bit n (suc k.0 - 1) ≡ true = top_bit_is (suc k.0) n (omega arith) k.3 ∙ le-leb (2 ^ (suc k.0 - 1)) n (let z : suc k.0 - 1 ≡ k.0 = omega arith in subst (λ i. 2 ^ i ≤ n) (sym z) k.2) in
    let z : suc k.0 - 1 ≡ t = omega (arith, d) in
    let here : bit n t ≡ true = subst (λ i. bit n i ≡ true) z b in (
      ⊎_elim (λ (s : t < w). s) (λ (s : w ≤ t). absurd (false≢true (sym (bit_above n w t h s) ∙ here))) (cases_lt t w),
      here,
      λ j s. bit_above n (suc k.0) j k.3 (omega (arith, d)),
    )

pub clash_top : (w m v lo t : ℕ) → AreWords w m v → w ≤ 128 → has_bits m v lo ≡ false → t ≡ 127 - leading_zeros w128 (clash m v lo) → IsClash w m v lo t
clash_top w m v lo t a l h e =
    let s = top_is w (clash m v lo) t (omega (arith, and_le_r (bit_xor lo v) m, a.mask)) l (clash_pos w m v lo a h) e in
    record {
      below = s.0;
      here = sym (clash_bit m v lo t) ∙ s.1;
      above = λ j g. agrees_at w m v lo j a (s.2 j g);
    }

-- ---- candidates

-- above the clash the bits agree
above_from : (w m v lo i : ℕ) → AreWords w m v → ((j : ℕ) → i < j → (bit lo j && bit m j) ≡ bit v j) → agrees_above m v lo i ≡ true
above_from w m v lo i a h =
    let n = 2 ^ (i + 1) in
    let x = lo / n in
    eq-eqb (bit_and x (m / n)) (v / n) (same_bits w (bit_and x (m / n)) (v / n)
    (omega (arith, and_le_r x (m / n), shr_le m (i + 1), a.mask)) (omega (arith, shr_le v (i + 1), and_le_r v m, a.mask, a.within))
    (λ j l. bit_of_and x (m / n) j ∙ ap (λ b. b && bit (m / n) j) (bit_of_shr lo (i + 1) j) ∙ ap (λ b. bit lo (i + 1 + j) && b) (bit_of_shr m (i + 1) j)
    ∙ h (i + 1 + j) (omega arith) ∙ sym (bit_of_shr v (i + 1) j)))

no_agreement : (x v m : Bool) → (differs x v && m) ≡ true → (x && m) ≡ v → ⊥
no_agreement true true true h e = false≢true h
no_agreement true true false h e = false≢true h
no_agreement true false true h e = true≢false e
no_agreement true false false h e = false≢true h
no_agreement false true true h e = false≢true e
no_agreement false true false h e = false≢true e
no_agreement false false true h e = false≢true h
no_agreement false false false h e = false≢true h

-- below it there is no candidate
none_below_clash : (w m v lo t j : ℕ) → IsClash w m v lo t → j < t → is_candidate m v lo j ≡ false
none_below_clash w m v lo t j c l = false_from_ne_true (is_candidate m v lo j) (λ e.
    no_agreement (bit lo t) (bit v t) (bit m t) c.here (above_bit m v lo j t (candidate_is m v lo j e).above l))

up_bits : (x v m : Bool) → (differs x v && m) ≡ true → v ≡ true → (x ≡ false) × ((m && not v) ≡ false)
up_bits true true m h e = absurd (false≢true h)
up_bits false true true h e = (refl, refl)
up_bits false true false h e = absurd (false≢true h)
up_bits x false m h e = absurd (false≢true e)

-- where the known bit is 1 at the clash, the lowest candidate stands there
pub place_here : (w m v lo t : ℕ) → AreWords w m v → IsClash w m v lo t → bit v t ≡ true → IsLowestPlace w m v lo t
place_here w m v lo t a c e =
    let u = up_bits (bit lo t) (bit v t) (bit m t) c.here e in
    record {
      below = c.below;
      here = from_candidate m v lo t (record { zero = u.0; free = u.1; above = above_from w m v lo t a c.above });
      none_lower = λ j l. none_below_clash w m v lo t j c l;
    }

down_bit : (x v m : Bool) → (differs x v && m) ≡ true → v ≡ false → x ≡ true
down_bit true v m h e = refl
down_bit false true m h e = absurd (true≢false e)
down_bit false false m h e = absurd (false≢true h)

-- the bits that are 0 in lo and unknown
abbrev pub open_bits : ℕ → ℕ → ℕ → ℕ
open_bits w m lo = bit_xor (2 ^ w - 1) (bit_or lo m)

open_bit : (w m lo j : ℕ) → j < w → bit (open_bits w m lo) j ≡ not (bit lo j || bit m j)
open_bit w m lo j l = bit_of_xor (2 ^ w - 1) (bit_or lo m) j ∙ ap (λ b. differs b (bit (bit_or lo m) j)) (bit_of_ones w j l) ∙ ap not (bit_of_or lo m j)

open_fits : (w m lo : ℕ) → lo < 2 ^ w → m < 2 ^ w → open_bits w m lo < 2 ^ w
open_fits w m lo h l = xor_lt w (2 ^ w - 1) (bit_or lo m) (omega (arith, pow_pos w)) (or_lt w lo m h l)

open_parts : (x m v : Bool) → not (x || m) ≡ true → (x ≡ false) × ((m && not v) ≡ false)
open_parts true m v h = absurd (false≢true h)
open_parts false true v h = absurd (false≢true h)
open_parts false false v h = (refl, refl)

closed : (x m v : Bool) → not (x || m) ≡ false → (x && m) ≡ v → x ≡ false → (m && not v) ≡ false → ⊥
closed true m v h e z f = true≢false z
closed false true v h e z f = absurd (true≢false (ap not e ∙ f))
closed false false v h e z f = true≢false h

-- above the clash, there is a candidate at each such bit, and at no other
open_is : (w m v lo t j : ℕ) → AreWords w m v → IsClash w m v lo t → t < j → j < w → bit (open_bits w m lo) j ≡ true → is_candidate m v lo j ≡ true
open_is w m v lo t j a c g l e =
    let p = open_parts (bit lo j) (bit m j) (bit v j) (sym (open_bit w m lo j l) ∙ e) in
    from_candidate m v lo j (record { zero = p.0; free = p.1; above = above_from w m v lo j a (λ k s. c.above k (omega arith)) })

closed_is : (w m v lo t j : ℕ) → IsClash w m v lo t → t < j → j < w → bit (open_bits w m lo) j ≡ false → is_candidate m v lo j ≡ false
closed_is w m v lo t j c g l e = false_from_ne_true (is_candidate m v lo j) (λ d.
    let k = candidate_is m v lo j d in
    closed (bit lo j) (bit m j) (bit v j) (sym (open_bit w m lo j l) ∙ e) (c.above j g) k.zero k.free)

none_at : (m v lo t : ℕ) → bit lo t ≡ true → is_candidate m v lo t ≡ false
none_at m v lo t e = false_from_ne_true (is_candidate m v lo t) (λ d. true≢false (sym e ∙ (candidate_is m v lo t d).zero))

none_through : (w m v lo t j : ℕ) → IsClash w m v lo t → bit v t ≡ false → (t < j → bit (open_bits w m lo) j ≡ false) → j < w → is_candidate m v lo j ≡ false
none_through w m v lo t j c e h l = ⊎_elim
    (λ (s : j ≡ t). subst (λ i. is_candidate m v lo i ≡ false) (sym s) (none_at m v lo t (down_bit (bit lo t) (bit v t) (bit m t) c.here e)))
    (⊎_elim (λ (s : j < t). none_below_clash w m v lo t j c s) (λ (s : t < j). closed_is w m v lo t j c s l (h s)))
    (cases_order j t)

-- where it is 0, and no such bit stands above, there is none
pub no_place : (w m v lo t : ℕ) → IsClash w m v lo t → bit v t ≡ false → open_bits w m lo / 2 ^ t ≡ 0 → (j : ℕ) → j < w → is_candidate m v lo j ≡ false
no_place w m v lo t c e z j l = none_through w m v lo t j c e (λ s.
    let k = j - t in
    let d : t + k ≡ j = omega arith in
    ap (bit (open_bits w m lo)) (sym d) ∙ sym (bit_of_shr (open_bits w m lo) t k) ∙ ap (λ n. bit n k) z ∙ bit_of_zero k) l

-- else the lowest candidate stands at the lowest such bit above
pub place_above : (w m v lo t i : ℕ) → AreWords w m v → lo < 2 ^ w → w ≤ 128 → IsClash w m v lo t → bit v t ≡ false → 0 < open_bits w m lo / 2 ^ t
    → i ≡ t + trailing_zeros w128 (open_bits w m lo / 2 ^ t) → IsLowestPlace w m v lo i
place_above w m v lo t i a h l c e p f =
    let n = open_bits w m lo in
    let o = open_fits w m lo h a.mask in
    let u : 2 ^ w ≤ 2 ^ 128 = pow-le-pow_right (omega arith) l in
    let q = trailing_zeros w128 (n / 2 ^ t) in
    let z = bit_at-trailing_zeros w128 (n / 2 ^ t) p (omega (arith, shr_le n t)) in
    let here : bit n i ≡ true = ap (bit n) f ∙ sym (bit_of_shr n t q) ∙ bit_is (n / 2 ^ t) q 1 z.1 in
    let below : i < w = ⊎_elim (λ (s : i < w). s) (λ (s : w ≤ i). absurd (false≢true (sym (bit_above n w i o s) ∙ here))) (cases_lt i w) in
    let one : bit lo t ≡ true = down_bit (bit lo t) (bit v t) (bit m t) c.here e in
    let shut : bit n t ≡ false = open_bit w m lo t c.below ∙ ap (λ b. not (b || bit m t)) one in
    let above : t < i = ⊎_elim (λ (s : i ≡ t). absurd (true≢false (sym here ∙ ap (bit n) s ∙ shut))) (λ (s : i ≡ t → ⊥). omega (arith, f)) (cases_eq i t) in
    record {
      below = below;
      here = open_is w m v lo t i a c above below here;
      none_lower = λ j g. none_through w m v lo t j c e (λ s.
          let k = j - t in
          let d : t + k ≡ j = omega arith in
          ap (bit n) (sym d) ∙ sym (bit_of_shr n t k) ∙ bit_is (n / 2 ^ t) k 0 (z.2 k (omega (arith, f)))) (omega (arith, below));
    }
