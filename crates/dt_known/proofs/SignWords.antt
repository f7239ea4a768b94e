-- Words whose bits are what the table of SignExt says of its operand.
use Rattle.std.proofs.Common.{◌≡◌, ℕ, ◌-◌, ◌*◌, ◌%◌, ◌^◌, ◌<◌, Bool, true, false, not, ◌&&◌, ◌||◌, cond, eqb, ltb, leb, bit_and, bit_or, bit_xor, Option, Some, None, is_some, refl, sym, ap, ◌∙◌, arith}
use Rattle.std.proofs.lemmas.Bool.{cond_both, cond-false, eqb-true}
use Rattle.std.proofs.lemmas.Nat.{pow_pos, pow_below, and_le_l, and_le_r, or_lt, one_shl}
use Rattle.dt_lemmas.proofs.Numbers.{below_or_at, turn_le}
use Rattle.dt_bits.specs.Bits.{IsWidth, bit, differs}
use Rattle.dt_bits.specs.declared.value.Width.{Width}
use Rattle.dt_bits.proofs.BitLemmas.{bit_of_and, bit_of_or, bit_of_xor, bit_of_ones, bit_of_ones_at, word_tells, bit_of_choice}
use Rattle.dt_known.specs.declared.Known.{Known}
use Rattle.dt_known.specs.Known.{IsKnown, is_one, is_zero, known_bit, from_bits, nothing}
use Rattle.dt_known.specs.Backward.{some_one_from, some_zero_from, top_bit}
use Rattle.dt_known.specs.Laws.Bits.{from_words, value_fits}
use Rattle.dt_known.proofs.Words.{words, known_of, within_bit, zeros_below}

-- ---- some bit from k on

above_one : (s t m v : Bool) → (v && m) ≡ v → s ≡ true → (v && differs s t) ≡ (not t && is_one (known_of m v))
above_one s t m v h e = grind arith

above_zero : (s t m v : Bool) → (v && m) ≡ v → s ≡ true → (differs m v && differs s t) ≡ (not t && is_zero (known_of m v))
above_zero s t m v h e = grind arith

above_bit : (w k i : ℕ) → bit (bit_xor (2 ^ w - 1) (2 ^ k - 1)) i ≡ differs (bit (2 ^ w - 1) i) (ltb i k)
above_bit w k i = bit_of_xor (2 ^ w - 1) (2 ^ k - 1) i ∙ ap (differs (bit (2 ^ w - 1) i)) (bit_of_ones_at k i)

pub one_from : (r : Known) (k : ℕ) → IsKnown r → not (eqb (bit_and r.value (bit_xor (2 ^ r.width.0 - 1) (2 ^ k - 1))) 0) ≡ some_one_from k r
one_from r k p =
    let w = r.width.0 in
    let above = bit_xor (2 ^ w - 1) (2 ^ k - 1) in
    word_tells w (bit_and r.value above) (λ i. leb k i && is_one (known_bit r i)) (omega (arith, and_le_l r.value above, value_fits r p))
    (λ i l. bit_of_and r.value above i ∙ ap (λ b. bit r.value i && b) (above_bit w k i)
    ∙ above_one (bit (2 ^ w - 1) i) (ltb i k) (bit r.mask i) (bit r.value i) (within_bit r i p) (bit_of_ones w i l)
    ∙ ap (λ b. b && is_one (known_bit r i)) (sym (turn_le k i)))

pub zero_from : (r : Known) (k : ℕ) → IsKnown r → not (eqb (bit_and (bit_xor r.mask r.value) (bit_xor (2 ^ r.width.0 - 1) (2 ^ k - 1))) 0) ≡ some_zero_from k r
zero_from r k p =
    let w = r.width.0 in
    let zeros = bit_xor r.mask r.value in
    let above = bit_xor (2 ^ w - 1) (2 ^ k - 1) in
    word_tells w (bit_and zeros above) (λ i. leb k i && is_zero (known_bit r i)) (omega (arith, and_le_l zeros above, zeros_below r r p refl))
    (λ i l. bit_of_and zeros above i ∙ ap (λ b. b && bit above i) (bit_of_xor r.mask r.value i) ∙ ap (λ b. differs (bit r.mask i) (bit r.value i) && b) (above_bit w k i)
    ∙ above_zero (bit (2 ^ w - 1) i) (ltb i k) (bit r.mask i) (bit r.value i) (within_bit r i p) (bit_of_ones w i l)
    ∙ ap (λ b. b && is_zero (known_bit r i)) (sym (turn_le k i)))

-- ---- the operand

sign_mask : (e l m v t : Bool) (o : Option Bool) → l ≡ not e → (e ≡ true → t ≡ is_some o) → ((m && l) || (t && e)) ≡ is_some (cond e o (known_of m v))
sign_mask e l m v t o h k = grind arith

sign_value : (e l m v t : Bool) (o : Option Bool) → (v && m) ≡ v → l ≡ not e → (e ≡ true → t ≡ is_one o) → ((v && l) || (t && e)) ≡ is_one (cond e o (known_of m v))
sign_value e l m v t o g h k = grind arith

some_top : (o z : Bool) → (o || z) ≡ is_some (cond o (Some true) (cond z (Some false) None))
some_top o z = grind arith

one_top : (o z : Bool) → o ≡ is_one (cond o (Some true) (cond z (Some false) None))
one_top o z = grind arith

-- a word below k and one bit there
abbrev topped : ℕ → ℕ → Bool → ℕ → ℕ
topped n k t b = bit_or (bit_and n (2 ^ k - 1)) (cond t b 0)

topped_fits : (n k w : ℕ) (t : Bool) → k < w → topped n k t (2 ^ k) < 2 ^ w
topped_fits n k w t h = or_lt w _ _ (omega (arith, and_le_r n (2 ^ k - 1), pow_below k w h))
    (cond_both t (2 ^ k) 0 (λ m. m < 2 ^ w) (λ _. pow_below k w h) (λ _. pow_pos w))

topped_bit : (n k i : ℕ) (t : Bool) → bit (topped n k t (2 ^ k)) i ≡ ((bit n i && ltb i k) || (t && eqb i k))
topped_bit n k i t = bit_of_or (bit_and n (2 ^ k - 1)) (cond t (2 ^ k) 0) i
    ∙ ap (λ b. b || bit (cond t (2 ^ k) 0) i) (bit_of_and n (2 ^ k - 1) i ∙ ap (λ b. bit n i && b) (bit_of_ones_at k i))
    ∙ ap (λ b. (bit n i && ltb i k) || b) (bit_of_choice t k i)

sign_word : (r : Known) (w : Width) → IsKnown r → IsWidth w.0
    → (let k = w.0 - 1 in words (topped r.mask k (some_one_from k r || some_zero_from k r) (2 ^ k)) (topped r.value k (some_one_from k r) (2 ^ k)) w)
    ≡ from_bits w (λ i. cond (eqb i (w.0 - 1)) (top_bit i r) (known_bit r i))
sign_word r w p h =
    let k = w.0 - 1 in
    let b : k < w.0 = omega (arith, h.0) in
    let one = some_one_from k r in
    let zero = some_zero_from k r in
    from_words w _ _ (λ i. cond (eqb i k) (top_bit i r) (known_bit r i)) (topped_fits r.mask k w.0 (one || zero) b) (topped_fits r.value k w.0 one b)
    (λ i l. topped_bit r.mask k i (one || zero)
    ∙ sign_mask (eqb i k) (ltb i k) (bit r.mask i) (bit r.value i) (one || zero) (top_bit i r) (below_or_at i k (omega arith))
    (λ e. some_top one zero ∙ ap (λ j. is_some (top_bit j r)) (sym (eqb-true i k e))))
    (λ i l. topped_bit r.value k i one
    ∙ sign_value (eqb i k) (ltb i k) (bit r.mask i) (bit r.value i) one (top_bit i r) (within_bit r i p) (below_or_at i k (omega arith))
    (λ e. one_top one zero ∙ ap (λ j. is_one (top_bit j r)) (sym (eqb-true i k e))))

-- in the code's words, where the known bits from the top on don't differ
pub sign_back_words : (r : Known) (w : Width) (b : ℕ) (one zero : Bool) → IsKnown r → IsWidth w.0 → b ≡ 1 * 2 ^ (w.0 - 1) % 2 ^ 128
    → one ≡ some_one_from (w.0 - 1) r → zero ≡ some_zero_from (w.0 - 1) r → (one && zero) ≡ false
    → words (bit_or (bit_and r.mask (2 ^ (w.0 - 1) - 1)) (cond (one || zero) b 0)) (bit_or (bit_and r.value (2 ^ (w.0 - 1) - 1)) (cond one b 0)) w
    ≡ cond (some_one_from (w.0 - 1) r && some_zero_from (w.0 - 1) r) (nothing w) (from_bits w (λ i. cond (eqb i (w.0 - 1)) (top_bit i r) (known_bit r i)))
sign_back_words r w b one zero p h d e f g =
    let k = w.0 - 1 in
    let c : b ≡ 2 ^ k = d ∙ one_shl k 128 (omega (arith, h.0, h.1)) in
    ap (λ n. words (topped r.mask k (one || zero) n) (topped r.value k one n) w) c
    ∙ ap (λ t. words (topped r.mask k (t || zero) (2 ^ k)) (topped r.value k t (2 ^ k)) w) e
    ∙ ap (λ t. words (topped r.mask k (some_one_from k r || t) (2 ^ k)) (topped r.value k (some_one_from k r) (2 ^ k)) w) f
    ∙ sign_word r w p h
    ∙ sym (cond-false (some_one_from k r && some_zero_from k r) (nothing w) _ (ap (λ t. t && some_zero_from k r) (sym e) ∙ ap (λ t. one && t) (sym f) ∙ g))
