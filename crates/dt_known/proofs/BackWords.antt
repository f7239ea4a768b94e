-- Words whose bits are what a table of backward says of each bit.
use Rattle.std.proofs.Common.{◌≡◌, ℕ, ◌+◌, ◌-◌, ◌*◌, ◌/◌, ◌%◌, ◌^◌, ◌<◌, ◌≤◌, Bool, true, false, not, ◌&&◌, ◌||◌, cond, ltb, leb, bit_and, bit_or, bit_xor, None, is_some, refl, sym, ap, ◌∙◌, subst, lit≤, arith}
use Rattle.std.proofs.Math.Nat.{pow-le-pow_right}
use Rattle.std.proofs.lemmas.Bool.{ltb-true, ltb-false}
use Rattle.std.proofs.lemmas.Nat.{pow_pos, and_le_l, or_lt, shl_whole, shl_below, shr_below, shr_le}
use Rattle.dt_lemmas.proofs.Powers.{cut_fits}
use Rattle.dt_lemmas.proofs.Numbers.{turn_le}
use Rattle.dt_bits.specs.Bits.{bit, differs}
use Rattle.dt_bits.specs.declared.value.Width.{Width}
use Rattle.dt_bits.proofs.BitLemmas.{bit_of_and, bit_of_or, bit_of_xor, bit_of_ones, bit_of_shr, bit_of_shl, bit_of_zero, bit_above}
use Rattle.dt_known.specs.declared.Known.{Known}
use Rattle.dt_known.specs.Known.{IsKnown, is_one, known_bit, from_bits}
use Rattle.dt_known.specs.Backward.{and_back, or_back}
use Rattle.dt_known.specs.Laws.Bits.{from_words, value_fits, mask_bit, value_bit}
use Rattle.dt_known.proofs.Words.{words, known_of, within_bit, zeros_below}
use Rattle.dt_known.proofs.MovedWords.{inside_mask, inside_value}

and_back_mask : (m v n u : Bool) → (v && m) ≡ v → (u && n) ≡ u → (v || (differs m v && u)) ≡ is_some (and_back (known_of m v) (known_of n u))
and_back_mask m v n u h k = grind arith

and_back_value : (m v n u : Bool) → (v && m) ≡ v → v ≡ is_one (and_back (known_of m v) (known_of n u))
and_back_value m v n u h = grind arith

pub and_back_words : (r o : Known) → IsKnown r → IsKnown o → r.width ≡ o.width
    → words (bit_or r.value (bit_and (bit_xor r.mask r.value) o.value)) r.value r.width ≡ from_bits r.width (λ i. and_back (known_bit r i) (known_bit o i))
and_back_words r o p q e = from_words r.width _ _ (λ i. and_back (known_bit r i) (known_bit o i))
    (or_lt r.width.0 r.value _ (value_fits r p) (omega (arith, and_le_l (bit_xor r.mask r.value) o.value, zeros_below r r p refl))) (value_fits r p)
    (λ i l. simp (bit_of_or, bit_of_and, bit_of_xor) (and_back_mask (bit r.mask i) (bit r.value i) (bit o.mask i) (bit o.value i) (within_bit r i p) (within_bit o i q)))
    (λ i l. and_back_value (bit r.mask i) (bit r.value i) (bit o.mask i) (bit o.value i) (within_bit r i p))

or_back_mask : (m v n u : Bool) → (v && m) ≡ v → (u && n) ≡ u → ((v && differs n u) || differs m v) ≡ is_some (or_back (known_of m v) (known_of n u))
or_back_mask m v n u h k = grind arith

or_back_value : (m v n u : Bool) → (v && m) ≡ v → (u && n) ≡ u → (v && differs n u) ≡ is_one (or_back (known_of m v) (known_of n u))
or_back_value m v n u h k = grind arith

pub or_back_words : (r o : Known) → IsKnown r → IsKnown o → r.width ≡ o.width
    → words (bit_or (bit_and r.value (bit_xor o.mask o.value)) (bit_xor r.mask r.value)) (bit_and r.value (bit_xor o.mask o.value)) r.width
    ≡ from_bits r.width (λ i. or_back (known_bit r i) (known_bit o i))
or_back_words r o p q e =
    let one : bit_and r.value (bit_xor o.mask o.value) < 2 ^ r.width.0 = omega (arith, and_le_l r.value (bit_xor o.mask o.value), value_fits r p) in
    from_words r.width _ _ (λ i. or_back (known_bit r i) (known_bit o i))
    (or_lt r.width.0 _ _ one (zeros_below r r p refl)) one
    (λ i l. simp (bit_of_or, bit_of_and, bit_of_xor) (or_back_mask (bit r.mask i) (bit r.value i) (bit o.mask i) (bit o.value i) (within_bit r i p) (within_bit o i q)))
    (λ i l. simp (bit_of_and, bit_of_xor) (or_back_value (bit r.mask i) (bit r.value i) (bit o.mask i) (bit o.value i) (within_bit r i p) (within_bit o i q)))

-- ---- moved up

-- bits of a word that is moved up by k, where nothing is known from n on
moved_mask : (s t m v : Bool) → (s ≡ false → t ≡ true → m ≡ false) → cond s false m ≡ is_some (cond (not s && not t) (known_of m v) None)
moved_mask s t m v h = grind arith

moved_value : (s t m v : Bool) → (v && m) ≡ v → (s ≡ false → t ≡ true → m ≡ false) → cond s false v ≡ is_one (cond (not s && not t) (known_of m v) None)
moved_value s t m v h k = grind arith

pub slice_back_words : (r : Known) (hi lo : ℕ) (w : Width) → IsKnown r → lo ≤ hi → hi < w.0 → w.0 ≤ 128 → r.width.0 ≡ hi - lo + 1
    → words (r.mask * 2 ^ lo % 2 ^ 128) (r.value * 2 ^ lo % 2 ^ 128) w ≡ from_bits w (λ i. cond (leb lo i && leb i hi) (known_bit r (i - lo)) None)
slice_back_words r hi lo w p l h k e =
    let n : hi - lo + 1 + lo ≤ w.0 = omega arith in
    let below = λ (x : ℕ) (b : x < 2 ^ r.width.0). let s : x < 2 ^ (hi - lo + 1) = subst (λ j. x < 2 ^ j) e b in
    let m : 2 ^ (hi - lo + 1 + lo) ≤ 2 ^ w.0 = pow-le-pow_right (lit≤ tt) n in
    let d : x * 2 ^ lo % 2 ^ 128 ≡ x * 2 ^ lo = shl_whole x (hi - lo + 1) lo 128 s (omega arith) in
    let g : x * 2 ^ lo % 2 ^ 128 < 2 ^ w.0 = omega (arith, shl_below x (hi - lo + 1) lo s) in g in
    let test = λ (i : ℕ). ap (λ b. b && leb i hi) (turn_le lo i) ∙ ap (λ b. not (ltb i lo) && b) (turn_le i hi) in
    let none = λ (i : ℕ) (s : ltb i lo ≡ false) (t : ltb hi i ≡ true).
    let a = ltb-false i lo s in let b = ltb-true hi i t in
    bit_above r.mask r.width.0 (i - lo) p.mask_fits (omega (arith, e)) in
    from_words w _ _ (λ i. cond (leb lo i && leb i hi) (known_bit r (i - lo)) None) (below r.mask p.mask_fits) (below r.value (value_fits r p))
    (λ i j. bit_of_shl r.mask lo 128 i (omega arith)
    ∙ moved_mask (ltb i lo) (ltb hi i) (bit r.mask (i - lo)) (bit r.value (i - lo)) (none i)
    ∙ ap (λ t. is_some (cond t (known_bit r (i - lo)) None)) (sym (test i)))
    (λ i j. bit_of_shl r.value lo 128 i (omega arith)
    ∙ moved_value (ltb i lo) (ltb hi i) (bit r.mask (i - lo)) (bit r.value (i - lo)) (within_bit r (i - lo) p) (none i)
    ∙ ap (λ t. is_one (cond t (known_bit r (i - lo)) None)) (sym (test i)))

shifted_mask : (s t m v : Bool) → t ≡ true → (cond s false m && t) ≡ is_some (cond (not s) (known_of m v) None)
shifted_mask s t m v e = grind arith

shifted_value : (s t m v : Bool) → (v && m) ≡ v → t ≡ true → (cond s false v && t) ≡ is_one (cond (not s) (known_of m v) None)
shifted_value s t m v h e = grind arith

pub shr_back_words : (r : Known) (k : ℕ) → IsKnown r
    → words (bit_and (r.mask * 2 ^ k % 2 ^ 128) (2 ^ r.width.0 - 1)) (bit_and (r.value * 2 ^ k % 2 ^ 128) (2 ^ r.width.0 - 1)) r.width
    ≡ from_bits r.width (λ i. cond (leb k i) (known_bit r (i - k)) None)
shr_back_words r k p =
    let w = r.width.0 in
    let m = r.mask * 2 ^ k % 2 ^ 128 in
    let v = r.value * 2 ^ k % 2 ^ 128 in
    from_words r.width _ _ (λ i. cond (leb k i) (known_bit r (i - k)) None) (cut_fits m w) (cut_fits v w)
    (λ i l. bit_of_and m (2 ^ w - 1) i ∙ ap (λ b. b && bit (2 ^ w - 1) i) (bit_of_shl r.mask k 128 i (omega (arith, p.width.1)))
    ∙ shifted_mask (ltb i k) (bit (2 ^ w - 1) i) (bit r.mask (i - k)) (bit r.value (i - k)) (bit_of_ones w i l)
    ∙ ap (λ t. is_some (cond t (known_bit r (i - k)) None)) (sym (turn_le k i)))
    (λ i l. bit_of_and v (2 ^ w - 1) i ∙ ap (λ b. b && bit (2 ^ w - 1) i) (bit_of_shl r.value k 128 i (omega (arith, p.width.1)))
    ∙ shifted_value (ltb i k) (bit (2 ^ w - 1) i) (bit r.mask (i - k)) (bit r.value (i - k)) (within_bit r (i - k) p) (bit_of_ones w i l)
    ∙ ap (λ t. is_one (cond t (known_bit r (i - k)) None)) (sym (turn_le k i)))

-- ---- moved down

pub high_words : (r : Known) (k : ℕ) (w : Width) → IsKnown r → r.width.0 ≡ w.0 + k
    → words (r.mask / 2 ^ k) (r.value / 2 ^ k) w ≡ from_bits w (λ i. known_bit r (k + i))
high_words r k w p e = from_words w _ _ (λ i. known_bit r (k + i))
    (shr_below r.mask w.0 k (subst (λ n. r.mask < 2 ^ n) e p.mask_fits)) (shr_below r.value w.0 k (subst (λ n. r.value < 2 ^ n) e (value_fits r p)))
    (λ i l. bit_of_shr r.mask k i ∙ mask_bit r (k + i)) (λ i l. bit_of_shr r.value k i ∙ value_bit r (k + i) p)

pub low_words : (r : Known) (w : Width) → IsKnown r
    → words (bit_and r.mask (2 ^ w.0 - 1)) (bit_and r.value (2 ^ w.0 - 1)) w ≡ from_bits w (λ i. known_bit r i)
low_words r w p = from_words w _ _ (known_bit r) (cut_fits r.mask w.0) (cut_fits r.value w.0)
    (λ i l. bit_of_and r.mask (2 ^ w.0 - 1) i ∙ inside_mask (bit r.mask i) (bit r.value i) _ (bit_of_ones w.0 i l))
    (λ i l. bit_of_and r.value (2 ^ w.0 - 1) i ∙ inside_value (bit r.mask i) (bit r.value i) _ (within_bit r i p) (bit_of_ones w.0 i l))

within_mask : (t m v : Bool) → (t ≡ false → m ≡ false) → m ≡ is_some (cond t (known_of m v) None)
within_mask t m v h = grind arith

within_value : (t m v : Bool) → (v && m) ≡ v → (t ≡ false → m ≡ false) → v ≡ is_one (cond t (known_of m v) None)
within_value t m v h k = grind arith

pub shl_back_words : (r : Known) (k : ℕ) → IsKnown r
    → words (r.mask / 2 ^ k) (r.value / 2 ^ k) r.width ≡ from_bits r.width (λ i. cond (ltb (k + i) r.width.0) (known_bit r (k + i)) None)
shl_back_words r k p =
    let none = λ (i : ℕ) (s : ltb (k + i) r.width.0 ≡ false). bit_above r.mask r.width.0 (k + i) p.mask_fits (ltb-false (k + i) r.width.0 s) in
    from_words r.width _ _ (λ i. cond (ltb (k + i) r.width.0) (known_bit r (k + i)) None)
    (omega (arith, shr_le r.mask k, p.mask_fits)) (omega (arith, shr_le r.value k, value_fits r p))
    (λ i l. bit_of_shr r.mask k i ∙ within_mask (ltb (k + i) r.width.0) (bit r.mask (k + i)) (bit r.value (k + i)) (none i))
    (λ i l. bit_of_shr r.value k i ∙ within_value (ltb (k + i) r.width.0) (bit r.mask (k + i)) (bit r.value (k + i)) (within_bit r (k + i) p) (none i))

pub none_words : (w : Width) → words 0 0 w ≡ from_bits w (λ i. None)
none_words w = from_words w 0 0 (λ i. None) (pow_pos w.0) (pow_pos w.0) (λ i l. bit_of_zero i) (λ i l. bit_of_zero i)
