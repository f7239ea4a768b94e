-- Whole numbers: order, sums, quotients.
use Rattle.std.proofs.Common.{◌≡◌, ℕ, zero, suc, ◌+◌, ◌<◌, ◌≤◌, Bool, true, ◌&&◌, subst, arith, inl, inr, ◌-◌, min, sym, ⊎_elim, not, eqb, ltb, ap, ◌∙◌, leb, false, refl, bit_and}
use Rattle.std.proofs.lemmas.Bool.{and_parts, cases_eq, cases_lt, eq-eqb, ne_eqb, lt-ltb, le-ltb, le-leb, lt-leb, eqb-true}
use Rattle.std.proofs.lemmas.Nat.{and_assoc}
use Rattle.std.specs.Int.Bits.{and_self}
use Rattle.dt_lemmas.proofs.Booleans.{same_test}

-- ---- tests of all numbers in a range

-- the test passes at start and the count - 1 numbers behind it
abbrev pub passes_from : (ℕ → Bool) → ℕ → ℕ → Bool
passes_from f start zero = true
passes_from f start (suc count) = f start && passes_from f (start + 1) count

pub passes_at : (f : ℕ → Bool) (start count n : ℕ) → passes_from f start count ≡ true → start ≤ n → n < start + count → f n ≡ true
passes_at f start zero n h low high = absurd (omega arith)
passes_at f start (suc count) n h low high =
    let p = and_parts (f start) (passes_from f (start + 1) count) h in
    elim (cases_eq n start) [
      | inl is ↦ let P : ℕ → Type 0 = λ k. f k ≡ true in subst P (let e : start ≡ n = omega arith in e) p.0
      | inr isnt ↦ passes_at f (start + 1) count n p.1 (omega arith) (omega arith)
    ]

pub low_or_top : (P : ℕ → Type 0) (w i : ℕ) → (i < w → P i) → (w ≤ i → P (w - 1)) → P (min i (w - 1))
low_or_top P w i h k = ⊎_elim
    (λ (l : i < w). let e : min i (w - 1) ≡ i = omega arith in subst P (sym e) (h l))
    (λ (l : w ≤ i). let e : min i (w - 1) ≡ w - 1 = omega arith in subst P (sym e) (k l))
    (cases_lt i w)

pub below_or_at : (i k : ℕ) → i ≤ k → ltb i k ≡ not (eqb i k)
below_or_at i k h = ⊎_elim
    (λ (e : i ≡ k). le-ltb i k (omega arith) ∙ ap not (sym (eq-eqb i k e)))
    (λ (e : i ≡ k → ⊥). lt-ltb i k (below_from_ne i k h e) ∙ ap not (sym (ne_eqb i k e)))
    (cases_eq i k)
  where
    below_from_ne : (i k : ℕ) → i ≤ k → (i ≡ k → ⊥) → i < k
    below_from_ne i k h e = omega arith

pub turn_le : (a b : ℕ) → leb a b ≡ not (ltb b a)
turn_le a b = ⊎_elim
    (λ (l : b < a). lt-leb a b l ∙ ap not (sym (lt-ltb b a l)))
    (λ (l : a ≤ b). le-leb a b l ∙ ap not (sym (le-ltb b a l)))
    (cases_lt b a)

pub eqb_turned : (x y : ℕ) → eqb x y ≡ eqb y x
eqb_turned x y = same_test (eqb x y) (eqb y x) (λ e. eq-eqb y x (sym (eqb-true x y e))) (λ e. eq-eqb x y (sym (eqb-true y x e)))

pub and_twice : (x m : ℕ) → bit_and (bit_and x m) m ≡ bit_and x m
and_twice x m = and_assoc m x m ∙ ap (bit_and x) (and_self m)
