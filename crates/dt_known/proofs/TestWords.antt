-- Words whose bits are what the tables of Eq and Ite say of an operand.
use Rattle.std.proofs.Common.{◌≡◌, ℕ, ◌-◌, ◌*◌, ◌%◌, ◌^◌, ◌<◌, Bool, true, false, not, ◌&&◌, cond, eqb, bit_and, bit_xor, Option, Some, None, is_some, sym, ap, ◌∙◌, subst, arith}
use Rattle.std.specs.Int.{w128, trailing_zeros}
use Rattle.std.proofs.lemmas.Bool.{false_from_ne_true, not-true, not-false}
use Rattle.std.proofs.lemmas.Nat.{pow_pos, and_le_l, xor_lt, one_shl}
use Rattle.std.proofs.lemmas.Nat.Bits.{bit_at-trailing_zeros}
use Rattle.dt_bits.specs.Bits.{bit, differs, some_below}
use Rattle.dt_bits.specs.declared.value.Width.{Width}
use Rattle.dt_bits.proofs.BitLemmas.{bit_of_and, bit_of_xor, bit_of_ones, bit_of_zero, is_lone, lone_of_pow, pow_of_lone, lowest_of_pow}
use Rattle.dt_bits.proofs.Below.{none_below, some_below_same}
use Rattle.dt_known.specs.declared.Known.{Known}
use Rattle.dt_known.specs.Known.{IsKnown, is_one, known_bit, from_bits, nothing, all_known, are_apart}
use Rattle.dt_known.specs.Forward.{not_bit}
use Rattle.dt_known.specs.Backward.{is_only_unknown, apart_bit, are_same, eq_back, eq_conflict}
use Rattle.dt_known.specs.Laws.Bits.{from_words, value_fits, mask_bit, value_bit}
use Rattle.dt_known.proofs.Words.{words, own_words, turned}

-- ---- the chosen branch

pub chosen_words : (t : Bool) (r : Known) → IsKnown r → t ≡ true → words r.mask r.value r.width ≡ from_bits r.width (λ i. cond t (known_bit r i) None)
chosen_words t r p e = subst (λ b. words r.mask r.value r.width ≡ from_bits r.width (λ i. cond b (known_bit r i) None)) (sym e) (own_words r p)

-- ---- the only unknown bit

pub lowest_below : (n : ℕ) → 0 < n → n < 2 ^ 128 → trailing_zeros w128 n < 128
lowest_below n l h = (bit_at-trailing_zeros w128 n l h).0

-- the word of the bits that aren't known
abbrev unknown_word : Known → ℕ
unknown_word a = bit_xor (2 ^ a.width.0 - 1) a.mask

unknown_fits : (a : Known) → IsKnown a → unknown_word a < 2 ^ a.width.0
unknown_fits a p = xor_lt a.width.0 (2 ^ a.width.0 - 1) a.mask (omega (arith, pow_pos a.width.0)) p.mask_fits

unknown_bit : (a : Known) (i : ℕ) → i < a.width.0 → bit (unknown_word a) i ≡ not (is_some (known_bit a i))
unknown_bit a i l = bit_of_xor (2 ^ a.width.0 - 1) a.mask i ∙ ap (λ b. differs b (bit a.mask i)) (bit_of_ones a.width.0 i l) ∙ ap not (mask_bit a i)

only_is_lone : (a : Known) (i : ℕ) → i < a.width.0 → is_only_unknown a i ≡ is_lone a.width.0 (unknown_word a) i
only_is_lone a i l =
    ap (λ b. b && not (some_below a.width.0 (λ j. not (eqb j i) && not (is_some (known_bit a j))))) (sym (unknown_bit a i l))
    ∙ ap (λ b. bit (unknown_word a) i && not b) (some_below_same a.width.0 _ _ (λ j m. ap (λ b. not (eqb j i) && b) (sym (unknown_bit a j m))))

-- where no bit is unknown
pub only_none : (a : Known) (i n : ℕ) → i < a.width.0 → n ≡ bit_xor (2 ^ a.width.0 - 1) a.mask → n ≡ 0 → bit 0 i ≡ is_only_unknown a i
only_none a i n l e z =
    let d : unknown_word a ≡ 0 = sym e ∙ z in
    bit_of_zero i ∙ sym (only_is_lone a i l ∙ ap (λ m. is_lone a.width.0 m i) d ∙ ap (λ b. b && not (some_below a.width.0 (λ j. not (eqb j i) && bit 0 j))) (bit_of_zero i))

-- where the lowest unknown bit is the only one
pub only_lowest : (a : Known) (i k n : ℕ) → i < a.width.0 → k < 128 → n ≡ bit_xor (2 ^ a.width.0 - 1) a.mask → n ≡ 1 * 2 ^ k % 2 ^ 128 → bit n i ≡ is_only_unknown a i
only_lowest a i k n l h e f =
    let d : n ≡ 2 ^ k = f ∙ one_shl k 128 h in
    ap (λ m. bit m i) d ∙ lone_of_pow a.width.0 k i ∙ ap (λ m. is_lone a.width.0 m i) (sym d ∙ e) ∙ sym (only_is_lone a i l)

-- where it isn't
pub only_more : (a : Known) (i n : ℕ) → IsKnown a → i < a.width.0 → n ≡ bit_xor (2 ^ a.width.0 - 1) a.mask → (n ≡ 1 * 2 ^ trailing_zeros w128 n % 2 ^ 128 → ⊥) → bit 0 i ≡ is_only_unknown a i
only_more a i n p l e ne = bit_of_zero i ∙ sym (only_is_lone a i l ∙ false_from_ne_true _ (λ t.
    let d : n ≡ 2 ^ i = e ∙ pow_of_lone a.width.0 (unknown_word a) i (unknown_fits a p) l t in
    let b : i < 128 = omega (arith, p.width.1) in
    let z : trailing_zeros w128 n ≡ i = ap (trailing_zeros w128) d ∙ lowest_of_pow i b in
    ne (d ∙ sym (one_shl i 128 b) ∙ ap (λ k. 1 * 2 ^ k % 2 ^ 128) (sym z))))

pub only_fits : (a : Known) (n : ℕ) → IsKnown a → n ≡ bit_xor (2 ^ a.width.0 - 1) a.mask → n < 2 ^ a.width.0
only_fits a n p e = subst (λ m. m < 2 ^ a.width.0) (sym e) (unknown_fits a p)

-- ---- the operand of Eq that differs from the other

apart_mask : (p q r : Bool) (o : Option Bool) → p ≡ true → q ≡ false → is_some o ≡ true → r ≡ is_some (cond (p && (not q && r)) (not_bit o) None)
apart_mask p q r o e f g = grind arith

apart_value : (p q r : Bool) (o : Option Bool) → p ≡ true → q ≡ false → is_some o ≡ true → (r && not (is_one o)) ≡ is_one (cond (p && (not q && r)) (not_bit o) None)
apart_value p q r o e f g = grind arith

pub apart_words : (a d : Known) (n : ℕ) → IsKnown a → IsKnown d → a.width ≡ d.width → all_known d.width.0 (known_bit d) ≡ true → are_apart a d ≡ false
    → n < 2 ^ a.width.0 → ((i : ℕ) → i < a.width.0 → bit n i ≡ is_only_unknown a i)
    → words n (bit_and n (2 ^ 128 - 1 - d.value)) a.width ≡ from_bits a.width (apart_bit a d)
apart_words a d n p q e s t h bits =
    let at_d = λ (i : ℕ) (l : i < a.width.0). let m : i < d.width.0 = subst (λ (w : Width). i < w.0) e l in m in
    let known = λ (i : ℕ) (l : i < a.width.0). not-false _ (none_below d.width.0 (λ j. not (is_some (known_bit d j))) i (not-true _ s) (at_d i l)) in
    from_words a.width n _ (apart_bit a d) h (omega (arith, and_le_l n (2 ^ 128 - 1 - d.value)))
    (λ i l. bits i l ∙ apart_mask (all_known d.width.0 (known_bit d)) (are_apart a d) (is_only_unknown a i) (known_bit d i) s t (known i l))
    (λ i l. bit_of_and n (2 ^ 128 - 1 - d.value) i ∙ ap (λ b. b && bit (2 ^ 128 - 1 - d.value) i) (bits i l)
    ∙ ap (λ b. is_only_unknown a i && b) (turned d.value i d.width.0 q.width.1 (value_fits d q) (at_d i l) ∙ ap not (value_bit d i q))
    ∙ apart_value (all_known d.width.0 (known_bit d)) (are_apart a d) (is_only_unknown a i) (known_bit d i) s t (known i l))

-- ---- the operand of Eq

abbrev Answer : Option Bool → Known → Known → Known
Answer o a d = cond (eq_conflict o a d) (nothing a.width) (from_bits a.width (eq_back o a d))

pub eq_one : (o : Option Bool) (a d : Known) → IsKnown d → a.width ≡ d.width → o ≡ Some true
    → words d.mask d.value a.width ≡ cond (eq_conflict o a d) (nothing a.width) (from_bits a.width (eq_back o a d))
eq_one o a d q w e = subst (λ o. words d.mask d.value a.width ≡ Answer o a d) (sym e)
    (subst (λ (v : Width). words d.mask d.value v ≡ from_bits v (known_bit d)) (sym w) (own_words d q))

pub eq_zero : (o : Option Bool) (a d : Known) → o ≡ Some false → are_same a d ≡ false
    → from_bits a.width (apart_bit a d) ≡ cond (eq_conflict o a d) (nothing a.width) (from_bits a.width (eq_back o a d))
eq_zero o a d e s = subst (λ o. from_bits a.width (apart_bit a d) ≡ Answer o a d) (sym e)
    (sym (ap (λ b. cond b (nothing a.width) (from_bits a.width (apart_bit a d))) s))
