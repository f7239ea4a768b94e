-- Words whose bits are what a table says of each bit: the tables that go bit by bit, and tests of whole words.
use Rattle.std.proofs.Common.{◌≡◌, ℕ, ◌-◌, ◌*◌, ◌%◌, ◌^◌, ◌<◌, ◌≤◌, Bool, true, false, not, ◌&&◌, ◌||◌, cond, eqb, bit_and, bit_or, bit_xor, Option, Some, None, is_some, refl, sym, ap, ◌∙◌, subst, ⊎_elim, arith}
use Rattle.std.proofs.lemmas.Bool.{cond_both, cases_Bool, eqb-true, eq-eqb, not-true, not-false, false_from_ne_true, false≢true}
use Rattle.std.proofs.lemmas.Nat.{one_shl, pow_pos, pow_below, and_le_l, and_le_r, or_lt, xor_lt}
use Rattle.dt_lemmas.proofs.Powers.{wide}
use Rattle.dt_bits.specs.Bits.{IsWidth, IsValue, bit, differs}
use Rattle.dt_bits.specs.declared.value.Bv.{Bv}
use Rattle.dt_bits.specs.declared.value.Width.{Width}
use Rattle.dt_bits.proofs.BitLemmas.{same_bits, bit_of_and, bit_of_or, bit_of_xor, bit_of_ones, bit_of_pow, bit_of_complement, word_tells, bit_of_choice}
use Rattle.dt_bits.proofs.Below.{none_below, none_below_from}
use Rattle.dt_known.specs.declared.Known.{Known}
use Rattle.dt_known.specs.Known.{IsKnown, is_one, known_bit, from_bits, either, clash, are_apart, all_known, single_bit}
use Rattle.dt_known.specs.Forward.{not_bit, and_bit, or_bit, xor_bit, common}
use Rattle.dt_known.specs.Laws.Bits.{from_words, value_fits, mask_bit, value_bit, known_all}

-- the Known of these words
abbrev pub words : ℕ → ℕ → Width → Known
words m v w = record { mask = m; value = v; width = w; empty = false }

-- a bit that is 1 is known
pub within_bit : (a : Known) (i : ℕ) → IsKnown a → (bit a.value i && bit a.mask i) ≡ bit a.value i
within_bit a i p = sym (bit_of_and a.value a.mask i) ∙ ap (λ n. bit n i) p.within

-- b has the width of a
pub mask_below : (a b : Known) → IsKnown b → a.width ≡ b.width → b.mask < 2 ^ a.width.0
mask_below a b q e = subst (λ (w : Width). b.mask < 2 ^ w.0) (sym e) q.mask_fits

pub value_below : (a b : Known) → IsKnown b → a.width ≡ b.width → b.value < 2 ^ a.width.0
value_below a b q e = subst (λ (w : Width). b.value < 2 ^ w.0) (sym e) (value_fits b q)

pub zeros_below : (a b : Known) → IsKnown b → a.width ≡ b.width → bit_xor b.mask b.value < 2 ^ a.width.0
zeros_below a b q e = xor_lt a.width.0 b.mask b.value (mask_below a b q e) (value_below a b q e)

-- what is known, by the bit of the mask and of the value
abbrev pub known_of : Bool → Bool → Option Bool
known_of m v = cond m (Some v) None

not_mask : (m v : Bool) → m ≡ is_some (not_bit (known_of m v))
not_mask m v = grind arith

not_value : (m v : Bool) → (v && m) ≡ v → differs m v ≡ is_one (not_bit (known_of m v))
not_value m v h = grind arith

and_mask : (m v n u : Bool) → (v && m) ≡ v → (u && n) ≡ u → ((v && u || differs m v) || differs n u) ≡ is_some (and_bit (known_of m v) (known_of n u))
and_mask m v n u h k = grind arith

and_value : (m v n u : Bool) → (v && m) ≡ v → (u && n) ≡ u → (v && u) ≡ is_one (and_bit (known_of m v) (known_of n u))
and_value m v n u h k = grind arith

pub not_words : (a : Known) → IsKnown a → words a.mask (bit_xor a.mask a.value) a.width ≡ from_bits a.width (λ i. not_bit (known_bit a i))
not_words a p = from_words a.width _ _ _ p.mask_fits (zeros_below a a p refl)
    (λ i l. not_mask (bit a.mask i) (bit a.value i))
    (λ i l. simp bit_of_xor (not_value (bit a.mask i) (bit a.value i) (within_bit a i p)))

pub and_words : (a b : Known) → IsKnown a → IsKnown b → a.width ≡ b.width
    → words (bit_or (bit_or (bit_and a.value b.value) (bit_xor a.mask a.value)) (bit_xor b.mask b.value)) (bit_and a.value b.value) a.width
    ≡ from_bits a.width (λ i. and_bit (known_bit a i) (known_bit b i))
and_words a b p q e =
    let one : bit_and a.value b.value < 2 ^ a.width.0 = omega (arith, and_le_l a.value b.value, value_fits a p) in
    from_words a.width _ _ _
    (or_lt a.width.0 _ _ (or_lt a.width.0 _ _ one (zeros_below a a p refl)) (zeros_below a b q e)) one
    (λ i l. simp (bit_of_or, bit_of_and, bit_of_xor) (and_mask (bit a.mask i) (bit a.value i) (bit b.mask i) (bit b.value i) (within_bit a i p) (within_bit b i q)))
    (λ i l. simp (bit_of_or, bit_of_and, bit_of_xor) (and_value (bit a.mask i) (bit a.value i) (bit b.mask i) (bit b.value i) (within_bit a i p) (within_bit b i q)))

or_mask : (m v n u : Bool) → (v && m) ≡ v → (u && n) ≡ u → ((v || u) || (differs m v && differs n u)) ≡ is_some (or_bit (known_of m v) (known_of n u))
or_mask m v n u h k = grind arith

or_value : (m v n u : Bool) → (v && m) ≡ v → (u && n) ≡ u → (v || u) ≡ is_one (or_bit (known_of m v) (known_of n u))
or_value m v n u h k = grind arith

pub or_words : (a b : Known) → IsKnown a → IsKnown b → a.width ≡ b.width
    → words (bit_or (bit_or a.value b.value) (bit_and (bit_xor a.mask a.value) (bit_xor b.mask b.value))) (bit_or a.value b.value) a.width
    ≡ from_bits a.width (λ i. or_bit (known_bit a i) (known_bit b i))
or_words a b p q e =
    let one : bit_or a.value b.value < 2 ^ a.width.0 = or_lt a.width.0 a.value b.value (value_fits a p) (value_below a b q e) in
    let zero : bit_and (bit_xor a.mask a.value) (bit_xor b.mask b.value) < 2 ^ a.width.0 = omega (arith, and_le_l (bit_xor a.mask a.value) (bit_xor b.mask b.value), zeros_below a a p refl) in
    from_words a.width _ _ _ (or_lt a.width.0 _ _ one zero) one
    (λ i l. simp (bit_of_or, bit_of_and, bit_of_xor) (or_mask (bit a.mask i) (bit a.value i) (bit b.mask i) (bit b.value i) (within_bit a i p) (within_bit b i q)))
    (λ i l. simp (bit_of_or, bit_of_and, bit_of_xor) (or_value (bit a.mask i) (bit a.value i) (bit b.mask i) (bit b.value i) (within_bit a i p) (within_bit b i q)))

xor_mask : (m v n u : Bool) → (m && n) ≡ is_some (xor_bit (known_of m v) (known_of n u))
xor_mask m v n u = grind arith

xor_value : (m v n u : Bool) → (differs v u && (m && n)) ≡ is_one (xor_bit (known_of m v) (known_of n u))
xor_value m v n u = grind arith

-- a mask of bits that a knows
both_below : (a : Known) (n : ℕ) → IsKnown a → bit_and a.mask n < 2 ^ a.width.0
both_below a n p = omega (arith, and_le_l a.mask n, p.mask_fits)

pub xor_words : (a b : Known) → IsKnown a → IsKnown b → a.width ≡ b.width
    → words (bit_and a.mask b.mask) (bit_and (bit_xor a.value b.value) (bit_and a.mask b.mask)) a.width
    ≡ from_bits a.width (λ i. xor_bit (known_bit a i) (known_bit b i))
xor_words a b p q e = from_words a.width _ _ _ (both_below a b.mask p) (omega (arith, and_le_r (bit_xor a.value b.value) (bit_and a.mask b.mask), both_below a b.mask p))
    (λ i l. simp bit_of_and (xor_mask (bit a.mask i) (bit a.value i) (bit b.mask i) (bit b.value i)))
    (λ i l. simp (bit_of_and, bit_of_xor) (xor_value (bit a.mask i) (bit a.value i) (bit b.mask i) (bit b.value i)))

common_mask : (m v n u : Bool) → ((m && n) && not (differs v u)) ≡ is_some (common (known_of m v) (known_of n u))
common_mask m v n u = grind arith

common_value : (m v n u : Bool) → (v && ((m && n) && not (differs v u))) ≡ is_one (common (known_of m v) (known_of n u))
common_value m v n u = grind arith

-- its bits, turned in a word of 128
pub turned : (n i w : ℕ) → w ≤ 128 → n < 2 ^ w → i < w → bit (2 ^ 128 - 1 - n) i ≡ not (bit n i)
turned n i w k h l = bit_of_complement 128 n i (wide w n k h) (omega arith)

pub common_words : (a b : Known) → IsKnown a → IsKnown b → a.width ≡ b.width
    → (let mask = bit_and (bit_and a.mask b.mask) (2 ^ 128 - 1 - bit_xor a.value b.value) in words mask (bit_and a.value mask) a.width)
    ≡ from_bits a.width (λ i. common (known_bit a i) (known_bit b i))
common_words a b p q e =
    let h : bit_xor a.value b.value < 2 ^ a.width.0 = xor_lt a.width.0 _ _ (value_fits a p) (value_below a b q e) in
    let mask : bit_and (bit_and a.mask b.mask) (2 ^ 128 - 1 - bit_xor a.value b.value) < 2 ^ a.width.0 = omega (arith, and_le_l (bit_and a.mask b.mask) (2 ^ 128 - 1 - bit_xor a.value b.value), both_below a b.mask p) in
    from_words a.width _ _ _ mask (omega (arith, and_le_l a.value (bit_and (bit_and a.mask b.mask) (2 ^ 128 - 1 - bit_xor a.value b.value)), value_fits a p))
    (λ i l. let t = turned (bit_xor a.value b.value) i a.width.0 p.width.1 h l in simp (bit_of_and, t, bit_of_xor) (common_mask (bit a.mask i) (bit a.value i) (bit b.mask i) (bit b.value i)))
    (λ i l. let t = turned (bit_xor a.value b.value) i a.width.0 p.width.1 h l in simp (bit_of_and, t, bit_of_xor) (common_value (bit a.mask i) (bit a.value i) (bit b.mask i) (bit b.value i)))

pub const_words : (v : Bv) → IsValue v → words (2 ^ v.width.0 - 1) v.bits v.width ≡ from_bits v.width (λ i. Some (bit v.bits i))
const_words v h = from_words v.width _ _ (λ i. Some (bit v.bits i)) (omega (arith, pow_pos v.width.0)) h.1 (λ i l. bit_of_ones v.width.0 i l) (λ i l. refl)

-- ---- meets

either_mask : (m v n u : Bool) → (m || n) ≡ is_some (either (known_of m v) (known_of n u))
either_mask m v n u = grind arith

either_value : (m v n u : Bool) → (v && m) ≡ v → (u && n) ≡ u → clash (known_of m v) (known_of n u) ≡ false → (v || u) ≡ is_one (either (known_of m v) (known_of n u))
either_value m v n u h k e = grind arith

pub meet_words : (a b : Known) → IsKnown a → IsKnown b → a.width ≡ b.width → are_apart a b ≡ false
    → words (bit_or a.mask b.mask) (bit_or a.value b.value) a.width ≡ from_bits a.width (λ i. either (known_bit a i) (known_bit b i))
meet_words a b p q e h = from_words a.width _ _ _
    (or_lt a.width.0 a.mask b.mask p.mask_fits (mask_below a b q e)) (or_lt a.width.0 a.value b.value (value_fits a p) (value_below a b q e))
    (λ i l. simp bit_of_or (either_mask (bit a.mask i) (bit a.value i) (bit b.mask i) (bit b.value i)))
    (λ i l. simp bit_of_or (either_value (bit a.mask i) (bit a.value i) (bit b.mask i) (bit b.value i) (within_bit a i p) (within_bit b i q)
    (none_below a.width.0 (λ i. clash (known_bit a i) (known_bit b i)) i h l)))

-- ---- one bit

one_bit : (t v : Bool) → t ≡ is_some (known_of t v)
one_bit t v = grind arith

value_one_bit : (t v : Bool) → (v && t) ≡ is_one (known_of t v)
value_one_bit t v = grind arith

single_word : (w : Width) (i : ℕ) (v : Bool) → i < w.0 → words (2 ^ i) (cond v (2 ^ i) 0) w ≡ single_bit w i v
single_word w i v l = from_words w (2 ^ i) (cond v (2 ^ i) 0) (λ j. cond (eqb j i) (Some v) None) (pow_below i w.0 l)
    (cond_both v (2 ^ i) 0 (λ n. n < 2 ^ w.0) (λ _. pow_below i w.0 l) (λ _. pow_pos w.0))
    (λ j m. bit_of_pow i j ∙ one_bit (eqb j i) v)
    (λ j m. bit_of_choice v i j ∙ value_one_bit (eqb j i) v)

pub single_words : (w : Width) (i n : ℕ) (v : Bool) → IsWidth w.0 → i < w.0 → n ≡ 1 * 2 ^ i % 2 ^ 128 → words n (cond v n 0) w ≡ single_bit w i v
single_words w i n v h l e =
    let d : n ≡ 2 ^ i = e ∙ one_shl i 128 (omega (arith, h.1)) in
    subst (λ m. words m (cond v m 0) w ≡ single_bit w i v) (sym d) (single_word w i v l)

-- the bits of a Known are its words
pub own_words : (a : Known) → IsKnown a → words a.mask a.value a.width ≡ from_bits a.width (known_bit a)
own_words a p = from_words a.width a.mask a.value (known_bit a) p.mask_fits (value_fits a p) (λ i l. mask_bit a i) (λ i l. value_bit a i p)

-- ---- tests

clash_bit : (m v n u : Bool) → (v && m) ≡ v → (u && n) ≡ u → (differs v u && (m && n)) ≡ clash (known_of m v) (known_of n u)
clash_bit m v n u h k = grind arith

-- the word of the bits in which two Knowns clash
abbrev apart_word : Known → Known → ℕ
apart_word a b = bit_and (bit_xor a.value b.value) (bit_and a.mask b.mask)

apart_at : (a b : Known) (i : ℕ) → IsKnown a → IsKnown b → bit (apart_word a b) i ≡ clash (known_bit a i) (known_bit b i)
apart_at a b i p q = simp (bit_of_and, bit_of_xor) (clash_bit (bit a.mask i) (bit a.value i) (bit b.mask i) (bit b.value i) (within_bit a i p) (within_bit b i q))

pub apart_is : (a b : Known) → IsKnown a → IsKnown b → not (eqb (bit_and (bit_xor a.value b.value) (bit_and a.mask b.mask)) 0) ≡ are_apart a b
apart_is a b p q = word_tells a.width.0 (apart_word a b) (λ i. clash (known_bit a i) (known_bit b i))
    (omega (arith, and_le_r (bit_xor a.value b.value) (bit_and a.mask b.mask), both_below a b.mask p))
    (λ i l. apart_at a b i p q)

-- all bits are known exactly where the mask is the word of ones
pub all_known_is : (a : Known) → IsKnown a → eqb a.mask (2 ^ a.width.0 - 1) ≡ all_known a.width.0 (known_bit a)
all_known_is a p = ⊎_elim
    (λ (e : all_known a.width.0 (known_bit a) ≡ true).
    eq-eqb _ _ (same_bits a.width.0 a.mask (2 ^ a.width.0 - 1) p.mask_fits (omega (arith, pow_pos a.width.0)) (λ i l.
    mask_bit a i ∙ not-false _ (none_below a.width.0 (λ i. not (is_some (known_bit a i))) i (not-true _ e) l) ∙ sym (bit_of_ones a.width.0 i l))) ∙ sym e)
    (λ (e : all_known a.width.0 (known_bit a) ≡ false). false_from_ne_true _ (λ t.
    let m : a.mask ≡ 2 ^ a.width.0 - 1 = eqb-true _ _ t in
    false≢true (sym e ∙ ap not (none_below_from a.width.0 (λ i. not (is_some (known_bit a i))) (λ i l. ap not (known_all a i m l))))) ∙ sym e)
    (cases_Bool (all_known a.width.0 (known_bit a)))
