-- Powers of two: quotients and remainders by them, and numbers below them.
use Rattle.std.proofs.Common.{◌≡◌, ℕ, ◌/◌, ◌%◌, ◌<◌, ◌≤◌, ◌^◌, arith, ◌-◌, ◌+◌, sym, ◌∙◌, leb, ⊎_elim, ap, ◌*◌, subst, bit_or, lit≤, bit_and, bit_xor, false, eqb, Bool, true, cond, suc, lit<}
use Rattle.std.proofs.Math.Nat.{div-eq_of_lt, mod-eq_of_lt, div-mul-le_self, mul-le-mul_right, pow-le-pow_right, pow-suc}
use Rattle.std.proofs.Math.Pow.{pow_mono}
use Rattle.std.proofs.lemmas.Nat.{pow_pos, le-div, shr-shr, pow-add, mul-add-lt, or_shifted, shl_whole, and_le_r, or_lt, xor_lt, pow_below, shr_le, shr_split, mod_below, shr_below, and_comm}
use Rattle.dt_lemmas.proofs.Moduli.{remainder_le}
use Rattle.std.proofs.lemmas.Bool.{cases_lt, le-leb, lt-leb, eqb-false, ne_eqb, cond_both}
use Rattle.std.proofs.lemmas.Nat.Bits.{ones_shr}
use Rattle.std.specs.Int.Bits.{xor_add_and}

below_pow : (a e : ℕ) → a < 2 ^ 128 → 128 ≤ e → a < 2 ^ e
below_pow a e h l = let m : 2 ^ 128 ≤ 2 ^ e = pow_mono l in omega arith

pub quotient_zero : (a e : ℕ) → a < 2 ^ 128 → 128 ≤ e → a / 2 ^ e ≡ 0
quotient_zero a e h l = div-eq_of_lt (below_pow a e h l)

pub remainder_whole : (a e : ℕ) → a < 2 ^ 128 → 128 ≤ e → a % 2 ^ e ≡ a
remainder_whole a e h l = mod-eq_of_lt (below_pow a e h l)

-- shifted right, the order stays
pub quotient_le : (a b k : ℕ) → a ≤ b → a / 2 ^ k ≤ b / 2 ^ k
quotient_le a b k h = le-div (a / 2 ^ k) b (2 ^ k) (pow_pos k) (omega (arith, div-mul-le_self a (2 ^ k)))

-- a number between two with equal quotients has that quotient
pub quotient_between : (a x b k : ℕ) → a ≤ x → x ≤ b → a / 2 ^ k ≡ b / 2 ^ k → x / 2 ^ k ≡ a / 2 ^ k
quotient_between a x b k h l e = let p = quotient_le a x k h in let q = quotient_le x b k l in omega arith

-- the bits from k up to k + n are in order where those above are equal
pub part_le : (u v k n : ℕ) → u ≤ v → u / 2 ^ (k + n) ≡ v / 2 ^ (k + n) → u / 2 ^ k % 2 ^ n ≤ v / 2 ^ k % 2 ^ n
part_le u v k n h e = remainder_le (u / 2 ^ k) (v / 2 ^ k) (2 ^ n) (quotient_le u v k h) (shr-shr u k n ∙ e ∙ sym (shr-shr v k n))

-- a number reaches a power of two exactly where its quotient isn't 0
pub reaches_is : (x k : ℕ) → leb (2 ^ k) x ≡ leb 1 (x / 2 ^ k)
reaches_is x k = ⊎_elim
    (λ (l : x < 2 ^ k). let e : x / 2 ^ k ≡ 0 = div-eq_of_lt l in lt-leb (2 ^ k) x l ∙ sym (lt-leb 1 (x / 2 ^ k) (omega arith)))
    (λ (l : 2 ^ k ≤ x). let e : 1 ≤ x / 2 ^ k = le-div 1 x (2 ^ k) (pow_pos k) (omega arith) in le-leb (2 ^ k) x l ∙ sym (le-leb 1 (x / 2 ^ k) e))
    (cases_lt x (2 ^ k))

pub reaches_alike : (x y k : ℕ) → x / 2 ^ k ≡ y / 2 ^ k → leb (2 ^ k) x ≡ leb (2 ^ k) y
reaches_alike x y k e = reaches_is x k ∙ ap (leb 1) e ∙ sym (reaches_is y k)

-- two numbers joined
pub joined_le : (a x b y k : ℕ) → a ≤ x → b ≤ y → a * 2 ^ k + b ≤ x * 2 ^ k + y
joined_le a x b y k h l = let p = mul-le-mul_right (2 ^ k) h in omega arith

pub joined_fits : (x j y k : ℕ) → x < 2 ^ j → y < 2 ^ k → x * 2 ^ k + y < 2 ^ (j + k)
joined_fits x j y k h l =
    let e : 2 ^ k * 2 ^ j ≡ 2 ^ j * 2 ^ k = omega arith in
    subst (λ n. x * 2 ^ k + y < n) (e ∙ sym (pow-add 2 j k)) (mul-add-lt x (2 ^ k) y (2 ^ j) h l)

pub halved : (x i : ℕ) → x / 2 ^ i / 2 ≡ x / 2 ^ (i + 1)
halved x i = shr-shr x i 1

-- the quotients of the largest number
pub largest_shifted : (w k r : ℕ) → k ≤ w → r ≤ (2 ^ w - 1) / 2 ^ k → r < 2 ^ (w - k)
largest_shifted w k r l h = omega (arith, ones_shr w k l, pow_pos (w - k))

-- two numbers joined, as words of 128 bits
pub joined_words : (x v y w : ℕ) → x < 2 ^ v → y < 2 ^ w → v + w ≤ 128 → bit_or (x * 2 ^ w % 2 ^ 128) y ≡ x * 2 ^ w + y
joined_words x v y w h k l = ap (λ n. bit_or n y) (shl_whole x v w 128 h l) ∙ or_shifted x w y k

pub joined_words_fit : (x v y w : ℕ) → x < 2 ^ v → y < 2 ^ w → v + w ≤ 128 → bit_or (x * 2 ^ w % 2 ^ 128) y < 2 ^ (v + w)
joined_words_fit x v y w h k l = subst (λ n. n < 2 ^ (v + w)) (sym (joined_words x v y w h k l)) (omega (arith, mul-add-lt x (2 ^ w) y (2 ^ v) h k, pow-add 2 v w))

-- a number that fits a width fits a wider one
pub wider_fits : (n w to : ℕ) → n < 2 ^ w → w ≤ to → n < 2 ^ to
wider_fits n w to h l = let m : 2 ^ w ≤ 2 ^ to = pow-le-pow_right (lit≤ tt) l in omega arith

-- a word cut to the bits of a width
pub cut_fits : (n w : ℕ) → bit_and n (2 ^ w - 1) < 2 ^ w
cut_fits n w = omega (arith, and_le_r n (2 ^ w - 1), pow_pos w)

-- with ones above a width
pub extended_words_fit : (n w to : ℕ) → n < 2 ^ w → w ≤ to → bit_or n (bit_xor (2 ^ to - 1) (2 ^ w - 1)) < 2 ^ to
extended_words_fit n w to h l =
    let m : 2 ^ w ≤ 2 ^ to = pow-le-pow_right (lit≤ tt) l in
    or_lt to n _ (omega arith) (xor_lt to (2 ^ to - 1) (2 ^ w - 1) (omega (arith, pow_pos to)) (omega (arith, pow_pos to)))

-- a number of at most 128 bits
pub wide : (w n : ℕ) → w ≤ 128 → n < 2 ^ w → n < 2 ^ 128
wide w n l h = let m : 2 ^ w ≤ 2 ^ 128 = pow-le-pow_right (lit≤ tt) l in omega arith

pub wider : (w to : ℕ) → w ≤ to → 2 ^ w ≤ 2 ^ to
wider w to h = pow-le-pow_right (omega arith) h

pub spread_over : (w to x : ℕ) → w ≤ to → (2 ^ (to - w) - 1) * 2 ^ w + x ≡ x + (2 ^ to - 2 ^ w)
spread_over w to x le =
    let k = 2 ^ (to - w) - 1 in
    let d : (to - w) + w ≡ to = omega arith in
    let parts : 2 ^ to ≡ 2 ^ (to - w) * 2 ^ w = ap (λ n. 2 ^ n) (sym d) ∙ pow-add 2 (to - w) w in
    let e : 2 ^ (to - w) ≡ k + 1 = omega (arith, pow_pos (to - w)) in
    omega (arith, ap (λ n. n * 2 ^ w) e, parts)

pub one_below : (w : ℕ) → 1 ≤ w → 1 < 2 ^ w
one_below w h = pow_below 0 w (omega arith)

-- the numbers whose quotient is at most r, which is below 2 ^ n
pub spread_fits : (r n k w : ℕ) → r < 2 ^ n → n + k ≡ w → r * 2 ^ k + 2 ^ k - 1 < 2 ^ w
spread_fits r n k w h e =
    let p : (r + 1) * 2 ^ k ≤ 2 ^ n * 2 ^ k = mul-le-mul_right (2 ^ k) (let u : r + 1 ≤ 2 ^ n = omega arith in u) in
    let q : 2 ^ n * 2 ^ k ≡ 2 ^ w = sym (pow-add 2 n k) ∙ ap (λ m. 2 ^ m) e in
    omega (arith, pow_pos k)

pub quotient_fits : (w x i : ℕ) → x < 2 ^ w → x / 2 ^ i < 2 ^ w
quotient_fits w x i h = omega (arith, shr_le x i)

-- the half above begins above 0
pub middle_positive : (x y i : ℕ) → x ≤ y → y < 2 ^ 128 → eqb (x / 2 ^ i) (y / 2 ^ i) ≡ false → 1 ≤ y / 2 ^ i * 2 ^ i % 2 ^ 128
middle_positive x y i l h e =
    let s = eqb-false _ _ e in
    let p = quotient_le x y i l in
    let q : 1 ≤ y / 2 ^ i = some_quotient (x / 2 ^ i) (y / 2 ^ i) p s in
    let r : 1 * 2 ^ i ≤ y / 2 ^ i * 2 ^ i = mul-le-mul_right (2 ^ i) q in
    let t : y / 2 ^ i * 2 ^ i % 2 ^ 128 ≡ y / 2 ^ i * 2 ^ i = mod-eq_of_lt (let u : y / 2 ^ i * 2 ^ i < 2 ^ 128 = omega (arith, div-mul-le_self y (2 ^ i)) in u) in
    omega (arith, pow_pos i)
  where
    some_quotient : (m n : ℕ) → m ≤ n → (m ≡ n → ⊥) → 1 ≤ n
    some_quotient m n l s = grind arith

-- a number of n bits, moved up by k within 128 bits
pub moved_up : (x n k : ℕ) → x < 2 ^ (n - k) → k < n → n ≤ 128 → x * 2 ^ k % 2 ^ 128 ≡ x * 2 ^ k
moved_up x n k h l s = shl_whole x (n - k) k 128 h (omega arith)

pub moved_fits : (x n k : ℕ) → x < 2 ^ (n - k) → k < n → x * 2 ^ k + 2 ^ k ≤ 2 ^ n
moved_fits x n k h l =
    let e : n - k + k ≡ n = omega arith in
    let p : (x + 1) * 2 ^ k ≤ 2 ^ (n - k) * 2 ^ k = mul-le-mul_right (2 ^ k) (let u : x + 1 ≤ 2 ^ (n - k) = omega arith in u) in
    omega (arith, sym (pow-add 2 (n - k) k) ∙ ap (λ m. 2 ^ m) e)

-- where the top bits are equal, the extended numbers are in order
pub extended_le : (w to x y : ℕ) → x ≤ y → x / 2 ^ (w - 1) ≡ y / 2 ^ (w - 1)
    → cond (leb (2 ^ (w - 1)) x) (x + (2 ^ to - 2 ^ w)) x ≤ cond (leb (2 ^ (w - 1)) y) (y + (2 ^ to - 2 ^ w)) y
extended_le w to x y h e = subst (λ t. cond (leb (2 ^ (w - 1)) x) (x + (2 ^ to - 2 ^ w)) x ≤ cond t (y + (2 ^ to - 2 ^ w)) y) (reaches_alike x y (w - 1) e)
    (by_test (leb (2 ^ (w - 1)) x))
  where
    by_test : (t : Bool) → cond t (x + (2 ^ to - 2 ^ w)) x ≤ cond t (y + (2 ^ to - 2 ^ w)) y
    by_test true = omega arith
    by_test false = omega arith

pub pow_next : (i : ℕ) → 2 ^ (i + 1) ≡ 2 ^ i * 2
pow_next i = let e : suc i ≡ i + 1 = omega arith in ap (λ n. 2 ^ n) (sym e) ∙ pow-suc 2 i ∙ omega arith

pub shr_all : (x w : ℕ) → x < 2 ^ w → x / 2 ^ w ≡ 0
shr_all x w h = div-eq_of_lt h

-- a number of which the lowest bit from a place on is 1
pub odd_above : (q p r : ℕ) → q * (p * 2) + p + r ≡ (q * 2 ^ 1 + 1) * p + r
odd_above q p r = grind arith

pub step_between : (lo hi i : ℕ) → lo / 2 ^ i + 2 ≤ hi / 2 ^ i → lo + 2 ^ i ≤ hi
step_between lo hi i h =
    let p = 2 ^ i in
    let a : lo / p * p + lo % p ≡ lo = shr_split lo i in
    let b : hi / p * p + hi % p ≡ hi = shr_split hi i in
    let l : lo % p < p = mod_below lo p (pow_pos i) in
    let m : (lo / p + 2) * p ≤ hi / p * p = mul-le-mul_right p h in
    let d : (lo / p + 2) * p ≡ lo / p * p + p + p = grind arith in
    omega (arith, a, b, l, m, d)

-- the least and the largest number of a width share no bit
pub no_shared : (w i : ℕ) → i < w → eqb (0 / 2 ^ i) ((2 ^ w - 1) / 2 ^ i) ≡ false
no_shared w i l =
    let a : 2 ^ i < 2 ^ w = pow_below i w l in
    let b : 1 ≤ (2 ^ w - 1) / 2 ^ i = le-div 1 (2 ^ w - 1) (2 ^ i) (pow_pos i) (omega arith) in
    ne_eqb (0 / 2 ^ i) ((2 ^ w - 1) / 2 ^ i) (λ e. let z : 0 / 2 ^ i ≡ 0 = omega (arith, pow_pos i) in absurd (omega (arith, b, z, e)))

-- the bits of a word that aren't those of a part of it
pub xor_within : (m v : ℕ) → bit_and v m ≡ v → bit_xor m v + v ≡ m
xor_within m v e = omega (arith, xor_add_and m v, and_comm m v, e)

-- the highest bits of a word of 128
pub top_fits : (x w : ℕ) → x < 2 ^ 128 → w ≤ 128 → x / 2 ^ (128 - w) < 2 ^ w
top_fits x w h l =
    let e : 128 ≡ w + (128 - w) = omega arith in
    shr_below x w (128 - w) (subst (λ n. x < 2 ^ n) e h)

pub extended_fits : (w to x : ℕ) → w ≤ to → x < 2 ^ w → cond (leb (2 ^ (w - 1)) x) (x + (2 ^ to - 2 ^ w)) x < 2 ^ to
extended_fits w to x l h =
    let wider : 2 ^ w ≤ 2 ^ to = pow-le-pow_right (lit< tt) l in
    cond_both (leb (2 ^ (w - 1)) x) (x + (2 ^ to - 2 ^ w)) x (λ n. n < 2 ^ to) (λ _. omega arith) (λ _. omega arith)

pub flag_fits : (b : Bool) → cond b 1 0 < 2 ^ 1
flag_fits true = lit< tt
flag_fits false = lit< tt
