-- Bits as truth values: a number by its bits, and the bits of each operator.
use Rattle.std.proofs.Common.{◌≡◌, ℕ, zero, suc, ◌+◌, ◌-◌, ◌*◌, ◌/◌, ◌%◌, ◌^◌, ◌<◌, ◌≤◌, Bool, true, false, not, ◌&&◌, ◌||◌, cond, eqb, ltb, leb, bit_and, bit_or, bit_xor, refl, sym, ap, ◌∙◌, subst, ⊎_elim, min, max, arith}
use Rattle.std.specs.Int.{bit_at, w128, trailing_zeros}
use Rattle.std.proofs.lemmas.Bool.{cases_lt, cases_eq, cases_Bool, cond-true, cond-false, eq-eqb, ne_eqb, eqb-true, eqb-false, le-leb, lt-leb, lt-ltb, le-ltb, true_from_ne_false}
use Rattle.std.proofs.lemmas.Bool.Decides.{nat_tests}
use Rattle.std.proofs.lemmas.Nat.{pow_pos, pow_below, shr-shr, and-not, shr_below}
use Rattle.std.proofs.lemmas.Nat.Bits.{bit_at_and, bit_at_or, bit_at_xor, bit_at-lt, same_from_bits_below, bit_at_above, bit_at_ones, bit_at_cat_low, bit_at_cat_high, bit_at-zero, bit_at_lowest, and_pow, bit_at-pow_same, bit_at-pow_other, bit_at-trailing_zeros}
use Rattle.std.proofs.Math.Nat.{pow-suc, mod-eq_of_lt}
use Rattle.dt_bits.specs.Bits.{bit, number_of, differs, some_below}
use Rattle.dt_bits.proofs.Below.{none_below, none_below_from}

-- the bit as a number
pub at_bit : (x i : ℕ) → bit_at x i ≡ cond (bit x i) 1 0
unfolding bit
at_bit x i = let l : bit_at x i < 2 = bit_at-lt x i in grind (arith, nat_tests)

pub from_at : (x y i j : ℕ) → bit_at x i ≡ bit_at y j → bit x i ≡ bit y j
unfolding bit
from_at x y i j e = ap (λ n. eqb n 1) e

to_at : (x y i j : ℕ) → bit x i ≡ bit y j → bit_at x i ≡ bit_at y j
to_at x y i j e = at_bit x i ∙ ap (λ b. cond b 1 0) e ∙ sym (at_bit y j)

pub bit_is : (x i n : ℕ) → bit_at x i ≡ n → bit x i ≡ eqb n 1
unfolding bit
bit_is x i n e = ap (λ m. eqb m 1) e

-- two numbers of w bits with the same bits are equal
pub same_bits : (w a b : ℕ) → a < 2 ^ w → b < 2 ^ w → ((i : ℕ) → i < w → bit a i ≡ bit b i) → a ≡ b
same_bits w a b ha hb h = same_from_bits_below w a b ha hb (λ i l. to_at a b i i (h i l))

min_bits : (p q : Bool) → eqb (min (cond p 1 0) (cond q 1 0)) 1 ≡ (p && q)
min_bits true true = refl
min_bits true false = refl
min_bits false true = refl
min_bits false false = refl

max_bits : (p q : Bool) → eqb (max (cond p 1 0) (cond q 1 0)) 1 ≡ (p || q)
max_bits true true = refl
max_bits true false = refl
max_bits false true = refl
max_bits false false = refl

xor_bits : (p q : Bool) → eqb ((cond p 1 0 + cond q 1 0) % 2) 1 ≡ differs p q
xor_bits true true = refl
xor_bits true false = refl
xor_bits false true = refl
xor_bits false false = refl

pub bit_of_and : (a b i : ℕ) → bit (bit_and a b) i ≡ (bit a i && bit b i)
bit_of_and a b i = bit_is _ _ _ (bit_at_and a b i) ∙ ap (λ n. eqb (min n (bit_at b i)) 1) (at_bit a i) ∙ ap (λ n. eqb (min (cond (bit a i) 1 0) n) 1) (at_bit b i) ∙ min_bits (bit a i) (bit b i)

pub bit_of_or : (a b i : ℕ) → bit (bit_or a b) i ≡ (bit a i || bit b i)
bit_of_or a b i = bit_is _ _ _ (bit_at_or a b i) ∙ ap (λ n. eqb (max n (bit_at b i)) 1) (at_bit a i) ∙ ap (λ n. eqb (max (cond (bit a i) 1 0) n) 1) (at_bit b i) ∙ max_bits (bit a i) (bit b i)

pub bit_of_xor : (a b i : ℕ) → bit (bit_xor a b) i ≡ differs (bit a i) (bit b i)
bit_of_xor a b i = bit_is _ _ _ (bit_at_xor a b i) ∙ ap (λ n. eqb ((n + bit_at b i) % 2) 1) (at_bit a i) ∙ ap (λ n. eqb ((cond (bit a i) 1 0 + n) % 2) 1) (at_bit b i) ∙ xor_bits (bit a i) (bit b i)

pub bit_of_zero : (i : ℕ) → bit 0 i ≡ false
bit_of_zero i = bit_is _ _ _ (bit_at-zero i)

pub bit_above : (n k i : ℕ) → n < 2 ^ k → k ≤ i → bit n i ≡ false
bit_above n k i h l = bit_is _ _ _ (bit_at_above n k i h l)

pub bit_of_ones : (w i : ℕ) → i < w → bit (2 ^ w - 1) i ≡ true
bit_of_ones w i h = bit_is _ _ _ (bit_at_ones w i h)

pub bit_of_small : (x : ℕ) → x < 2 → bit x 0 ≡ eqb x 1
bit_of_small x h = bit_is x 0 (x % 2) (bit_at_lowest x) ∙ ap (λ n. eqb n 1) (mod-eq_of_lt h)

-- shifted right
pub bit_of_shr : (x k i : ℕ) → bit (x / 2 ^ k) i ≡ bit x (k + i)
bit_of_shr x k i = from_at (x / 2 ^ k) x i (k + i) (ap (λ n. n % 2) (shr-shr x k i))

-- joined
pub bit_of_low : (a k b i : ℕ) → i < k → bit (a * 2 ^ k + b) i ≡ bit b i
bit_of_low a k b i h = from_at _ _ _ _ (bit_at_cat_low a k b i h)

pub bit_of_high : (a k b i : ℕ) → b < 2 ^ k → k ≤ i → bit (a * 2 ^ k + b) i ≡ bit a (i - k)
bit_of_high a k b i h l = from_at _ _ _ _ (bit_at_cat_high a k b i h l)

-- the low bits
pub bit_of_mod : (x w i : ℕ) → i < w → bit (x % 2 ^ w) i ≡ bit x i
bit_of_mod x w i h =
    let e : x / 2 ^ w * 2 ^ w + x % 2 ^ w ≡ x = grind arith in
    sym (bit_of_low (x / 2 ^ w) w (x % 2 ^ w) i h) ∙ ap (λ n. bit n i) e

-- shifted left
pub bit_of_shl_low : (x k i : ℕ) → i < k → bit (x * 2 ^ k) i ≡ false
bit_of_shl_low x k i h =
    let e : x * 2 ^ k + 0 ≡ x * 2 ^ k = omega arith in
    ap (λ n. bit n i) (sym e) ∙ bit_of_low x k 0 i h ∙ bit_of_zero i

pub bit_of_shl_high : (x k i : ℕ) → k ≤ i → bit (x * 2 ^ k) i ≡ bit x (i - k)
bit_of_shl_high x k i h =
    let e : x * 2 ^ k + 0 ≡ x * 2 ^ k = omega arith in
    ap (λ n. bit n i) (sym e) ∙ bit_of_high x k 0 i (pow_pos k) h

-- a number and a bit above it
top_low : (w n i : ℕ) (b : Bool) → i < w → bit (n + cond b (2 ^ w) 0) i ≡ bit n i
top_low w n i true h = let e : n + 2 ^ w ≡ 1 * 2 ^ w + n = omega arith in ap (λ m. bit m i) e ∙ bit_of_low 1 w n i h
top_low w n i false h = ap (λ m. bit m i) (omega arith)

top_here : (w n : ℕ) (b : Bool) → n < 2 ^ w → bit (n + cond b (2 ^ w) 0) w ≡ b
top_here w n true h =
    let e : n + 2 ^ w ≡ 1 * 2 ^ w + n = omega arith in
    let z : w - w ≡ 0 = omega arith in
    ap (λ m. bit m w) e ∙ bit_of_high 1 w n w h (omega arith) ∙ ap (bit 1) z ∙ bit_of_ones 1 0 (omega arith)
top_here w n false h = let e : n + 0 ≡ n = omega arith in ap (λ m. bit m w) e ∙ bit_above n w w h (omega arith)

top_below : (w n : ℕ) (b : Bool) → n < 2 ^ w → n + cond b (2 ^ w) 0 < 2 ^ suc w
top_below w n true h = omega (arith, pow-suc 2 w)
top_below w n false h = omega (arith, pow-suc 2 w)

-- the number with the given bits
pub number_of_below : (w : ℕ) (f : ℕ → Bool) → number_of w f < 2 ^ w
unfolding number_of
number_of_below zero f = omega arith
number_of_below (suc w) f = top_below w (number_of w f) (f w) (number_of_below w f)

pub bit_of_number : (w : ℕ) (f : ℕ → Bool) (i : ℕ) → i < w → bit (number_of w f) i ≡ f i
unfolding number_of
bit_of_number zero f i h = absurd (omega arith)
bit_of_number (suc w) f i h =
    ⊎_elim
    (λ (l : i < w). top_low w (number_of w f) i (f w) l ∙ bit_of_number w f i l)
    (λ (l : w ≤ i). let e : w ≡ i = omega arith in subst (λ k. bit (number_of w f + cond (f w) (2 ^ w) 0) k ≡ f k) e (top_here w (number_of w f) (f w) (number_of_below w f)))
    (cases_lt i w)

one_of : (p q : Bool) (t : ℕ) → 0 < t → cond p 1 0 * t + cond q 1 0 * t ≡ t → p ≡ not q
one_of true true t h e = absurd (omega arith)
one_of true false t h e = refl
one_of false true t h e = refl
one_of false false t h e = absurd (omega arith)

-- all bits but those of n
pub bit_of_complement : (w n i : ℕ) → n < 2 ^ w → i < w → bit (2 ^ w - 1 - n) i ≡ not (bit n i)
bit_of_complement w n i h l =
    let m = 2 ^ w - 1 - n in
    let e = and-not w n (2 ^ i) h (pow_below i w l) in
    let x : bit_and m (2 ^ i) ≡ cond (bit m i) 1 0 * 2 ^ i = and_pow m i ∙ ap (λ k. k * 2 ^ i) (at_bit m i) in
    let y : bit_and n (2 ^ i) ≡ cond (bit n i) 1 0 * 2 ^ i = and_pow n i ∙ ap (λ k. k * 2 ^ i) (at_bit n i) in
    one_of (bit m i) (bit n i) (2 ^ i) (pow_pos i) (cc)

-- a power of two has one bit
pub bit_of_pow : (k i : ℕ) → bit (2 ^ k) i ≡ eqb i k
bit_of_pow k i =
    ⊎_elim
    (λ (e : i ≡ k). subst (λ j. bit (2 ^ k) j ≡ eqb j k) (sym e) (bit_is (2 ^ k) k 1 (bit_at-pow_same k) ∙ sym (eq-eqb k k refl)))
    (λ (e : i ≡ k → ⊥). bit_is (2 ^ k) i 0 (bit_at-pow_other k i e) ∙ sym (ne_eqb i k e))
    (cases_eq i k)

-- the top bit of a number of w bits
pub top_bit_is : (w x : ℕ) → 1 ≤ w → x < 2 ^ w → bit x (w - 1) ≡ leb (2 ^ (w - 1)) x
top_bit_is w x l h =
    let k = w - 1 in
    let e : suc k ≡ w = omega arith in
    let d : 2 ^ w ≡ 2 ^ k + 2 ^ k = ap (λ n. 2 ^ n) (sym e) ∙ pow-suc 2 k ∙ omega arith in
    ⊎_elim
    (λ (s : x < 2 ^ k). bit_above x k k s (omega arith) ∙ sym (lt-leb (2 ^ k) x s))
    (λ (s : 2 ^ k ≤ x).
    let y = x - 2 ^ k in
    let q : x ≡ y + 2 ^ k = omega arith in
    ap (λ n. bit n k) q ∙ top_here k y true (omega arith) ∙ sym (le-leb (2 ^ k) x s))
    (cases_lt x (2 ^ k))

-- each bit of a word of ones
pub bit_of_ones_at : (k i : ℕ) → bit (2 ^ k - 1) i ≡ ltb i k
bit_of_ones_at k i = ⊎_elim
    (λ (l : i < k). bit_of_ones k i l ∙ sym (lt-ltb i k l))
    (λ (l : k ≤ i). bit_above (2 ^ k - 1) k i (omega (arith, pow_pos k)) l ∙ sym (le-ltb i k l))
    (cases_lt i k)

-- each bit of a word shifted left, within w bits
pub bit_of_shl : (x k w i : ℕ) → i < w → bit (x * 2 ^ k % 2 ^ w) i ≡ cond (ltb i k) false (bit x (i - k))
bit_of_shl x k w i h = bit_of_mod (x * 2 ^ k) w i h ∙ ⊎_elim
    (λ (l : i < k). bit_of_shl_low x k i l ∙ sym (cond-true (ltb i k) false (bit x (i - k)) (lt-ltb i k l)))
    (λ (l : k ≤ i). bit_of_shl_high x k i l ∙ sym (cond-false (ltb i k) false (bit x (i - k)) (le-ltb i k l)))
    (cases_lt i k)

-- each bit of two words joined
pub bit_of_joined : (x k y i : ℕ) → y < 2 ^ k → bit (x * 2 ^ k + y) i ≡ cond (ltb i k) (bit y i) (bit x (i - k))
bit_of_joined x k y i h = ⊎_elim
    (λ (l : i < k). bit_of_low x k y i l ∙ sym (cond-true (ltb i k) (bit y i) (bit x (i - k)) (lt-ltb i k l)))
    (λ (l : k ≤ i). bit_of_high x k y i h l ∙ sym (cond-false (ltb i k) (bit y i) (bit x (i - k)) (le-ltb i k l)))
    (cases_lt i k)

-- a word is 0 exactly where no bit passes
pub word_tells : (w n : ℕ) (f : ℕ → Bool) → n < 2 ^ w → ((i : ℕ) → i < w → bit n i ≡ f i) → not (eqb n 0) ≡ some_below w f
word_tells w n f h e = ⊎_elim
    (λ (t : eqb n 0 ≡ true). ap not t ∙ sym (none_below_from w f (λ i l. sym (e i l) ∙ ap (λ k. bit k i) (eqb-true n 0 t) ∙ bit_of_zero i)))
    (λ (t : eqb n 0 ≡ false). ap not t ∙ sym (true_from_ne_false (some_below w f) (λ s.
    eqb-false n 0 t (same_bits w n 0 h (pow_pos w) (λ i l. e i l ∙ none_below w f i s l ∙ sym (bit_of_zero i))))))
    (cases_Bool (eqb n 0))

-- bit i is the only bit of n below w
abbrev pub is_lone : ℕ → ℕ → ℕ → Bool
is_lone w n i = bit n i && not (some_below w (λ j. not (eqb j i) && bit n j))

other_bit : (s t : Bool) → s ≡ t → (not s && t) ≡ false
other_bit s t e = grind arith

lone_and : (p q : Bool) → (p ≡ true → q ≡ false) → p ≡ (p && not q)
lone_and true q h = ap not (sym (h refl))
lone_and false q h = refl

lone_parts : (p q : Bool) → (p && not q) ≡ true → (p ≡ true) × (q ≡ false)
lone_parts p q e = grind arith

other_none : (s t : Bool) → (not s && t) ≡ false → s ≡ false → t ≡ false
other_none s t e d = grind arith

pub lone_of_pow : (w k i : ℕ) → bit (2 ^ k) i ≡ is_lone w (2 ^ k) i
lone_of_pow w k i = lone_and (bit (2 ^ k) i) _ (λ e.
    let s : i ≡ k = eqb-true i k (sym (bit_of_pow k i) ∙ e) in
    none_below_from w (λ j. not (eqb j i) && bit (2 ^ k) j) (λ j l. other_bit (eqb j i) (bit (2 ^ k) j) (ap (eqb j) s ∙ sym (bit_of_pow k j))))

pub pow_of_lone : (w n i : ℕ) → n < 2 ^ w → i < w → is_lone w n i ≡ true → n ≡ 2 ^ i
pow_of_lone w n i h l e =
    let p = lone_parts (bit n i) (some_below w (λ j. not (eqb j i) && bit n j)) e in
    same_bits w n (2 ^ i) h (pow_below i w l) (λ j m. ⊎_elim
    (λ (s : eqb j i ≡ true). ap (bit n) (eqb-true j i s) ∙ p.0 ∙ sym (bit_of_pow i j ∙ s))
    (λ (s : eqb j i ≡ false). other_none (eqb j i) (bit n j) (none_below w (λ j. not (eqb j i) && bit n j) j p.1 m) s ∙ sym (bit_of_pow i j ∙ s))
    (cases_Bool (eqb j i)))

-- where a word has one bit, that is its lowest
pub lowest_of_pow : (k : ℕ) → k < 128 → trailing_zeros w128 (2 ^ k) ≡ k
lowest_of_pow k l =
    let t = bit_at-trailing_zeros w128 (2 ^ k) (pow_pos k) (pow_below k 128 l) in
    eqb-true (trailing_zeros w128 (2 ^ k)) k (sym (bit_of_pow k (trailing_zeros w128 (2 ^ k))) ∙ bit_is (2 ^ k) (trailing_zeros w128 (2 ^ k)) 1 t.1)

pub differs_false : (p q : Bool) → differs p q ≡ false → p ≡ q
differs_false p q e = grind arith

pub differs_turn : (p q : Bool) → differs p q ≡ differs q p
differs_turn p q = grind arith

pub bit_of_choice : (v : Bool) (i j : ℕ) → bit (cond v (2 ^ i) 0) j ≡ (v && eqb j i)
bit_of_choice true i j = bit_of_pow i j
bit_of_choice false i j = bit_of_zero j

pub bit_of_odd : (q k : ℕ) → bit (q * 2 ^ 1 + 1) k ≡ cond (ltb k 1) (bit 1 k) (bit q (k - 1))
bit_of_odd q k = bit_of_joined q 1 1 k (omega arith)

pub same_bit : (x y i : ℕ) → x / 2 ^ i ≡ y / 2 ^ i → bit x i ≡ bit y i
same_bit x y i e = from_at x y i i (ap (λ n. n % 2) e)

-- numbers that differ in no bit are equal
pub equal_from_xor : (w x y : ℕ) → x < 2 ^ w → y < 2 ^ w → bit_xor x y ≡ 0 → x ≡ y
equal_from_xor w x y h k e = same_bits w x y h k (λ i l. differs_false (bit x i) (bit y i) (sym (bit_of_xor x y i) ∙ ap (λ n. bit n i) e ∙ bit_of_zero i))

-- the bits from i on are the bits above i and bit i
pub upper_bits : (x i : ℕ) → x / 2 ^ i ≡ x / 2 ^ (i + 1) * 2 + cond (bit x i) 1 0
upper_bits x i =
    let h = x / 2 ^ i in
    let e : h % 2 ≡ cond (bit x i) 1 0 = at_bit x i in
    let s : h / 2 ^ 1 ≡ x / 2 ^ (i + 1) = shr-shr x i 1 in
    let t : h / 2 ≡ x / 2 ^ (i + 1) = s in
    omega (arith, e, t)

-- shifted right
pub shr_turned : (j k x : ℕ) → x < 2 ^ (j + k) → (2 ^ (j + k) - 1 - x) / 2 ^ k ≡ 2 ^ j - 1 - x / 2 ^ k
shr_turned j k x h =
    let q : x / 2 ^ k < 2 ^ j = shr_below x j k h in
    let l : 2 ^ (j + k) - 1 - x < 2 ^ (j + k) = omega (arith, pow_pos (j + k)) in
    same_bits j ((2 ^ (j + k) - 1 - x) / 2 ^ k) (2 ^ j - 1 - x / 2 ^ k) (shr_below (2 ^ (j + k) - 1 - x) j k l) (omega (arith, pow_pos j))
    (λ i s. bit_of_shr (2 ^ (j + k) - 1 - x) k i ∙ bit_of_complement (j + k) x (k + i) h (omega arith) ∙ ap not (sym (bit_of_shr x k i)) ∙ sym (bit_of_complement j (x / 2 ^ k) i q s))
