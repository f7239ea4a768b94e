-- A number split at a bit, and where two numbers part.
use Rattle.std.proofs.Common.{◌≡◌, ℕ, zero, suc, ◌+◌, ◌*◌, ◌/◌, ◌%◌, ◌^◌, ◌<◌, ◌≤◌, Bool, true, false, cond, refl, sym, ◌∙◌, subst, ⊎_elim, arith}
use Rattle.std.proofs.lemmas.Bool.{cases_eq}
use Rattle.std.proofs.lemmas.Nat.{shr_split}
use Rattle.dt_lemmas.proofs.Powers.{quotient_le, pow_next, shr_all}
use Rattle.dt_bits.specs.Bits.{bit}
use Rattle.dt_bits.proofs.BitLemmas.{upper_bits}

parts : (x p q b h r : ℕ) → h * p + r ≡ x → h ≡ q * 2 + b → x ≡ q * (p * 2) + b * p + r
parts x p q b h r e f = subst (λ h. h * p + r ≡ x → x ≡ q * (p * 2) + b * p + r) (sym f) (λ e. grind arith) e

-- the bits above i, bit i, and the bits below it
pub split_at : (x i : ℕ) → x ≡ x / 2 ^ (i + 1) * 2 ^ (i + 1) + cond (bit x i) 1 0 * 2 ^ i + x % 2 ^ i
split_at x i =
    let q = x / 2 ^ (i + 1) in
    subst (λ p. x ≡ q * p + cond (bit x i) 1 0 * 2 ^ i + x % 2 ^ i) (sym (pow_next i))
    (parts x (2 ^ i) q (cond (bit x i) 1 0) (x / 2 ^ i) (x % 2 ^ i) (shr_split x i) (upper_bits x i))

pub split_low : (x i : ℕ) → bit x i ≡ false → x ≡ x / 2 ^ (i + 1) * 2 ^ (i + 1) + x % 2 ^ i
split_low x i h = subst (λ b. x ≡ x / 2 ^ (i + 1) * 2 ^ (i + 1) + cond b 1 0 * 2 ^ i + x % 2 ^ i) h (split_at x i) ∙ omega arith

pub split_high : (x i : ℕ) → bit x i ≡ true → x ≡ x / 2 ^ (i + 1) * 2 ^ (i + 1) + 2 ^ i + x % 2 ^ i
split_high x i h = subst (λ b. x ≡ x / 2 ^ (i + 1) * 2 ^ (i + 1) + cond b 1 0 * 2 ^ i + x % 2 ^ i) h (split_at x i) ∙ omega arith

-- bit `at` is the highest in which x and y differ, and 1 in y
pub record Parting (w x y : ℕ) : Type 0 where
  pub at : ℕ
  pub below : at < w
  pub same : x / 2 ^ (at + 1) ≡ y / 2 ^ (at + 1)
  pub low : bit x at ≡ false
  pub high : bit y at ≡ true

bits_order : (p q : Bool) → cond p 1 0 < cond q 1 0 → (p ≡ false) × (q ≡ true)
bits_order true true h = absurd (omega arith)
bits_order true false h = absurd (omega arith)
bits_order false true h = (refl, refl)
bits_order false false h = absurd (omega arith)

pub parting_from : (x y w : ℕ) → x < y → x / 2 ^ w ≡ y / 2 ^ w → Parting w x y
parting_from x y zero l e = absurd (omega arith)
parting_from x y (suc w) l e = ⊎_elim
    (λ (s : x / 2 ^ w ≡ y / 2 ^ w). let p = parting_from x y w l s in record { at = p.at; below = omega (arith, p.below); same = p.same; low = p.low; high = p.high })
    (λ (n : x / 2 ^ w ≡ y / 2 ^ w → ⊥).
    let c : suc w ≡ w + 1 = omega arith in
    let d : x / 2 ^ (w + 1) ≡ y / 2 ^ (w + 1) = subst (λ k. x / 2 ^ k ≡ y / 2 ^ k) c e in
    let o : x / 2 ^ w ≤ y / 2 ^ w = quotient_le x y w (omega arith) in
    let b = bits_order (bit x w) (bit y w) (omega (arith, upper_bits x w, upper_bits y w)) in
    record { at = w; below = omega arith; same = d; low = b.0; high = b.1 })
    (cases_eq (x / 2 ^ w) (y / 2 ^ w))

-- the highest bit in which two numbers differ
pub parting : (w x y : ℕ) → x < y → y < 2 ^ w → Parting w x y
parting w x y l h = parting_from x y w l (shr_all x w (omega arith) ∙ sym (shr_all y w h))
