-- Words whose bits are what a table says of each bit: the tables that move bits.
use Rattle.std.proofs.Common.{◌≡◌, ℕ, ◌+◌, ◌-◌, ◌*◌, ◌/◌, ◌%◌, ◌^◌, ◌<◌, ◌≤◌, Bool, true, false, ◌&&◌, ◌||◌, cond, ltb, bit_and, bit_or, bit_xor, Some, is_some, min, refl, sym, ap, ◌∙◌, arith}
use Rattle.std.proofs.lemmas.Bool.{le-ltb, ltb-false}
use Rattle.std.proofs.lemmas.Nat.{pow_pos, or_lt, xor_lt, shr_le}
use Rattle.dt_lemmas.proofs.Powers.{joined_words, joined_words_fit, cut_fits}
use Rattle.dt_lemmas.proofs.Numbers.{low_or_top}
use Rattle.dt_bits.specs.Bits.{bit, width, differs}
use Rattle.dt_bits.proofs.BitLemmas.{bit_of_and, bit_of_or, bit_of_xor, bit_of_ones, bit_of_ones_at, bit_of_shr, bit_of_shl, bit_of_joined, bit_above}
use Rattle.dt_known.specs.declared.Known.{Known}
use Rattle.dt_known.specs.Known.{IsKnown, is_one, known_bit, from_bits}
use Rattle.dt_known.specs.Laws.Bits.{from_words, value_fits, mask_bit, value_bit}
use Rattle.dt_known.proofs.Words.{words, known_of, within_bit}

pub inside_mask : (m v t : Bool) → t ≡ true → (m && t) ≡ is_some (known_of m v)
inside_mask m v t e = grind arith

pub inside_value : (m v t : Bool) → (v && m) ≡ v → t ≡ true → (v && t) ≡ is_one (known_of m v)
inside_value m v t h e = grind arith

pub slice_words : (a : Known) (hi lo : ℕ) → IsKnown a
    → words (bit_and (a.mask / 2 ^ lo) (2 ^ (hi - lo + 1) - 1)) (bit_and (a.value / 2 ^ lo) (2 ^ (hi - lo + 1) - 1)) (width (hi - lo + 1))
    ≡ from_bits (width (hi - lo + 1)) (λ i. known_bit a (lo + i))
slice_words a hi lo p = from_words (width (hi - lo + 1)) _ _ (λ i. known_bit a (lo + i)) (cut_fits (a.mask / 2 ^ lo) (hi - lo + 1)) (cut_fits (a.value / 2 ^ lo) (hi - lo + 1))
    (λ i l. simp (bit_of_and, bit_of_shr) (inside_mask (bit a.mask (lo + i)) (bit a.value (lo + i)) _ (bit_of_ones (hi - lo + 1) i l)))
    (λ i l. simp (bit_of_and, bit_of_shr) (inside_value (bit a.mask (lo + i)) (bit a.value (lo + i)) _ (within_bit a (lo + i) p) (bit_of_ones (hi - lo + 1) i l)))

-- ---- joined_words

joined_bit : (x v y w i : ℕ) → x < 2 ^ v → y < 2 ^ w → v + w ≤ 128 → bit (bit_or (x * 2 ^ w % 2 ^ 128) y) i ≡ cond (ltb i w) (bit y i) (bit x (i - w))
joined_bit x v y w i h k l = ap (λ n. bit n i) (joined_words x v y w h k l) ∙ bit_of_joined x w y i k

choice_mask : (t m v n u : Bool) → cond t n m ≡ is_some (cond t (known_of n u) (known_of m v))
choice_mask t m v n u = grind arith

choice_value : (t m v n u : Bool) → (v && m) ≡ v → (u && n) ≡ u → cond t u v ≡ is_one (cond t (known_of n u) (known_of m v))
choice_value t m v n u h k = grind arith

pub concat_words : (a b : Known) → IsKnown a → IsKnown b → a.width.0 + b.width.0 ≤ 128
    → words (bit_or (a.mask * 2 ^ b.width.0 % 2 ^ 128) b.mask) (bit_or (a.value * 2 ^ b.width.0 % 2 ^ 128) b.value) (width (a.width.0 + b.width.0))
    ≡ from_bits (width (a.width.0 + b.width.0)) (λ i. cond (ltb i b.width.0) (known_bit b i) (known_bit a (i - b.width.0)))
concat_words a b p q l =
    let v = a.width.0 in
    let w = b.width.0 in
    from_words (width (v + w)) _ _ (λ i. cond (ltb i w) (known_bit b i) (known_bit a (i - w)))
    (joined_words_fit a.mask v b.mask w p.mask_fits q.mask_fits l) (joined_words_fit a.value v b.value w (value_fits a p) (value_fits b q) l)
    (λ i _. joined_bit a.mask v b.mask w i p.mask_fits q.mask_fits l ∙ choice_mask (ltb i w) (bit a.mask (i - w)) (bit a.value (i - w)) (bit b.mask i) (bit b.value i))
    (λ i _. joined_bit a.value v b.value w i (value_fits a p) (value_fits b q) l
    ∙ choice_value (ltb i w) (bit a.mask (i - w)) (bit a.value (i - w)) (bit b.mask i) (bit b.value i) (within_bit a (i - w) p) (within_bit b i q))

-- ---- shifted

shl_mask : (t m v s : Bool) → s ≡ true → ((cond t false m || t) && s) ≡ is_some (cond t (Some false) (known_of m v))
shl_mask t m v s e = grind arith

shl_value : (t m v s : Bool) → (v && m) ≡ v → s ≡ true → (cond t false v && s) ≡ is_one (cond t (Some false) (known_of m v))
shl_value t m v s h e = grind arith

pub shl_words : (a : Known) (k : ℕ) → IsKnown a
    → words (bit_and (bit_or (a.mask * 2 ^ k % 2 ^ 128) (2 ^ k - 1)) (2 ^ a.width.0 - 1)) (bit_and (a.value * 2 ^ k % 2 ^ 128) (2 ^ a.width.0 - 1)) a.width
    ≡ from_bits a.width (λ i. cond (ltb i k) (Some false) (known_bit a (i - k)))
shl_words a k p =
    let w = a.width.0 in
    let m = a.mask * 2 ^ k % 2 ^ 128 in
    let v = a.value * 2 ^ k % 2 ^ 128 in
    from_words a.width _ _ (λ i. cond (ltb i k) (Some false) (known_bit a (i - k))) (cut_fits (bit_or m (2 ^ k - 1)) w) (cut_fits v w)
    (λ i l. let s : bit m i ≡ cond (ltb i k) false (bit a.mask (i - k)) = bit_of_shl a.mask k 128 i (omega (arith, p.width.1)) in
    bit_of_and (bit_or m (2 ^ k - 1)) (2 ^ w - 1) i ∙ ap (λ b. b && bit (2 ^ w - 1) i) (bit_of_or m (2 ^ k - 1) i)
    ∙ ap (λ b. (b || bit (2 ^ k - 1) i) && bit (2 ^ w - 1) i) s ∙ ap (λ b. (cond (ltb i k) false (bit a.mask (i - k)) || b) && bit (2 ^ w - 1) i) (bit_of_ones_at k i)
    ∙ shl_mask (ltb i k) (bit a.mask (i - k)) (bit a.value (i - k)) (bit (2 ^ w - 1) i) (bit_of_ones w i l))
    (λ i l. let s : bit v i ≡ cond (ltb i k) false (bit a.value (i - k)) = bit_of_shl a.value k 128 i (omega (arith, p.width.1)) in
    bit_of_and v (2 ^ w - 1) i ∙ ap (λ b. b && bit (2 ^ w - 1) i) s
    ∙ shl_value (ltb i k) (bit a.mask (i - k)) (bit a.value (i - k)) (bit (2 ^ w - 1) i) (within_bit a (i - k) p) (bit_of_ones w i l))

shr_mask : (t m v s : Bool) → s ≡ true → (m || differs s t) ≡ is_some (cond t (known_of m v) (Some false))
shr_mask t m v s e = grind arith

shr_value : (t m v : Bool) → (v && m) ≡ v → (t ≡ false → v ≡ false) → v ≡ is_one (cond t (known_of m v) (Some false))
shr_value t m v h e = grind arith

pub shr_words : (a : Known) (k : ℕ) → IsKnown a
    → words (bit_or (a.mask / 2 ^ k) (bit_xor (2 ^ a.width.0 - 1) ((2 ^ a.width.0 - 1) / 2 ^ k))) (a.value / 2 ^ k) a.width
    ≡ from_bits a.width (λ i. cond (ltb (k + i) a.width.0) (known_bit a (k + i)) (Some false))
shr_words a k p =
    let w = a.width.0 in
    let ones = 2 ^ w - 1 in
    let o : ones < 2 ^ w = omega (arith, pow_pos w) in
    from_words a.width _ _ (λ i. cond (ltb (k + i) w) (known_bit a (k + i)) (Some false))
    (or_lt w _ _ (omega (arith, shr_le a.mask k, p.mask_fits)) (xor_lt w ones (ones / 2 ^ k) o (omega (arith, shr_le ones k))))
    (omega (arith, shr_le a.value k, value_fits a p))
    (λ i l. bit_of_or (a.mask / 2 ^ k) (bit_xor ones (ones / 2 ^ k)) i ∙ ap (λ b. b || bit (bit_xor ones (ones / 2 ^ k)) i) (bit_of_shr a.mask k i)
    ∙ ap (λ b. bit a.mask (k + i) || b) (bit_of_xor ones (ones / 2 ^ k) i ∙ ap (differs (bit ones i)) (bit_of_shr ones k i ∙ bit_of_ones_at w (k + i)))
    ∙ shr_mask (ltb (k + i) w) (bit a.mask (k + i)) (bit a.value (k + i)) (bit ones i) (bit_of_ones w i l))
    (λ i l. bit_of_shr a.value k i ∙ shr_value (ltb (k + i) w) (bit a.mask (k + i)) (bit a.value (k + i)) (within_bit a (k + i) p)
    (λ e. bit_above a.value w (k + i) (value_fits a p) (ltb-false (k + i) w e)))

-- ---- the sign

spread_low : (b s t : Bool) → s ≡ true → t ≡ true → (b || differs s t) ≡ b
spread_low b s t e d = grind arith

spread_high : (b c s t : Bool) → c ≡ true → s ≡ true → t ≡ false → (b || differs s t) ≡ c
spread_high b c s t g e d = grind arith

-- the bits up to the top bit, which is 1, and ones above
pub spread_bits : (n w to i : ℕ) → bit n (w - 1) ≡ true → i < to → bit (bit_or n (bit_xor (2 ^ to - 1) (2 ^ w - 1))) i ≡ bit n (min i (w - 1))
spread_bits n w to i e l =
    let ones = 2 ^ to - 1 in
    let low = 2 ^ w - 1 in
    simp (bit_of_or, bit_of_xor)
    (low_or_top (λ j. (bit n i || differs (bit ones i) (bit low i)) ≡ bit n j) w i
    (λ s. spread_low (bit n i) (bit ones i) (bit low i) (bit_of_ones to i l) (bit_of_ones w i s))
    (λ s. spread_high (bit n i) (bit n (w - 1)) (bit ones i) (bit low i) e (bit_of_ones to i l) (bit_of_ones_at w i ∙ le-ltb i w s)))

-- the top bit is 0
pub narrow_bits : (n w i : ℕ) → n < 2 ^ w → bit n (w - 1) ≡ false → bit n i ≡ bit n (min i (w - 1))
narrow_bits n w i h e = low_or_top (λ j. bit n i ≡ bit n j) w i (λ _. refl) (λ s. bit_above n w i h s ∙ sym e)

pub sign_words : (a : Known) (to m v : ℕ) → IsKnown a → m < 2 ^ to → v < 2 ^ to
    → ((i : ℕ) → i < to → bit m i ≡ bit a.mask (min i (a.width.0 - 1))) → ((i : ℕ) → i < to → bit v i ≡ bit a.value (min i (a.width.0 - 1)))
    → words m v (width to) ≡ from_bits (width to) (λ i. known_bit a (min i (a.width.0 - 1)))
sign_words a to m v p hm hv em ev = from_words (width to) m v (λ i. known_bit a (min i (a.width.0 - 1))) hm hv
    (λ i l. em i l ∙ mask_bit a (min i (a.width.0 - 1))) (λ i l. ev i l ∙ value_bit a (min i (a.width.0 - 1)) p)
