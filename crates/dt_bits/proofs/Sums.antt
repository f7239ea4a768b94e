-- The bits of a sum: each is the two bits and the carry into it.
use Rattle.std.proofs.Common.{◌≡◌, ℕ, zero, suc, ◌+◌, ◌*◌, ◌/◌, ◌%◌, Bool, true, false, cond, eqb, refl, sym, ap, ◌∙◌, arith}
use Rattle.std.proofs.lemmas.Nat.Bits.{bit_at_lowest, bit_at-suc}
use Rattle.dt_lemmas.proofs.Booleans.{from_cond}
use Rattle.dt_bits.specs.Bits.{bit, differs, majority, carry_at}
use Rattle.dt_bits.proofs.BitLemmas.{at_bit, from_at, bit_is}

bit_suc : (x i : ℕ) → bit x (suc i) ≡ bit (x / 2) i
bit_suc x i = from_at x (x / 2) (suc i) i (bit_at-suc x i)

lowest : (x : ℕ) → x % 2 ≡ cond (bit x 0) 1 0
lowest x = sym (bit_at_lowest x) ∙ at_bit x 0

half_sum : (p q c : Bool) (a b x y : ℕ) → x ≡ 2 * a + cond p 1 0 → y ≡ 2 * b + cond q 1 0 → (x + y + cond c 1 0) / 2 ≡ a + b + cond (majority p q c) 1 0
half_sum true true true a b x y e f = omega arith
half_sum true true false a b x y e f = omega arith
half_sum true false true a b x y e f = omega arith
half_sum true false false a b x y e f = omega arith
half_sum false true true a b x y e f = omega arith
half_sum false true false a b x y e f = omega arith
half_sum false false true a b x y e f = omega arith
half_sum false false false a b x y e f = omega arith

low_sum : (p q c : Bool) (a b x y : ℕ) → x ≡ 2 * a + cond p 1 0 → y ≡ 2 * b + cond q 1 0 → (x + y + cond c 1 0) % 2 ≡ cond (differs (differs p q) c) 1 0
low_sum true true true a b x y e f = omega arith
low_sum true true false a b x y e f = omega arith
low_sum true false true a b x y e f = omega arith
low_sum true false false a b x y e f = omega arith
low_sum false true true a b x y e f = omega arith
low_sum false true false a b x y e f = omega arith
low_sum false false true a b x y e f = omega arith
low_sum false false false a b x y e f = omega arith

pub halves : (x : ℕ) → x ≡ 2 * (x / 2) + cond (bit x 0) 1 0
halves x = let e = lowest x in omega arith

carry_half : (c : Bool) (x y i : ℕ) → carry_at c x y (suc i) ≡ carry_at (majority (bit x 0) (bit y 0) c) (x / 2) (y / 2) i
unfolding carry_at
carry_half c x y zero = refl
carry_half c x y (suc i) =
    ap (λ b. majority b (bit y (suc i)) (carry_at c x y (suc i))) (bit_suc x i)
    ∙ ap (λ b. majority (bit (x / 2) i) b (carry_at c x y (suc i))) (bit_suc y i)
    ∙ ap (majority (bit (x / 2) i) (bit (y / 2) i)) (carry_half c x y i)

-- each bit of a sum
pub bit_of_sum : (c : Bool) (x y i : ℕ) → bit (x + y + cond c 1 0) i ≡ differs (differs (bit x i) (bit y i)) (carry_at c x y i)
unfolding carry_at
bit_of_sum c x y zero =
    bit_is _ 0 _ (bit_at_lowest (x + y + cond c 1 0)) ∙ from_cond _ _ (low_sum (bit x 0) (bit y 0) c (x / 2) (y / 2) x y (halves x) (halves y))
bit_of_sum c x y (suc i) =
    bit_suc (x + y + cond c 1 0) i
    ∙ ap (λ n. bit n i) (half_sum (bit x 0) (bit y 0) c (x / 2) (y / 2) x y (halves x) (halves y))
    ∙ bit_of_sum (majority (bit x 0) (bit y 0) c) (x / 2) (y / 2) i
    ∙ ap (λ b. differs (differs b (bit (y / 2) i)) (carry_at (majority (bit x 0) (bit y 0) c) (x / 2) (y / 2) i)) (sym (bit_suc x i))
    ∙ ap (λ b. differs (differs (bit x (suc i)) b) (carry_at (majority (bit x 0) (bit y 0) c) (x / 2) (y / 2) i)) (sym (bit_suc y i))
    ∙ ap (differs (differs (bit x (suc i)) (bit y (suc i)))) (sym (carry_half c x y i))
