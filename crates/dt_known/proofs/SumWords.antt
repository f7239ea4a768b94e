-- A sum of whole words: the least and the greatest sum tell which carries are known.
use Rattle.std.proofs.Common.{◌≡◌, ℕ, zero, suc, ◌+◌, ◌-◌, ◌%◌, ◌^◌, ◌<◌, ◌≤◌, Bool, true, false, not, ◌&&◌, ◌||◌, cond, bit_and, bit_or, bit_xor, Option, is_some, refl, sym, ap, ◌∙◌, subst, arith}
use Rattle.std.proofs.lemmas.Nat.{and_le_l, and_le_r, xor_lt, mod_below, pow_pos}
use Rattle.dt_lemmas.proofs.Moduli.{add_thrice}
use Rattle.dt_bits.specs.Bits.{bit, number_of, differs, majority, carry_at}
use Rattle.dt_bits.specs.declared.value.Width.{Width}
use Rattle.dt_bits.proofs.BitLemmas.{bit_of_and, bit_of_or, bit_of_xor, bit_of_mod, bit_of_complement, bit_of_number, number_of_below}
use Rattle.dt_bits.proofs.Sums.{bit_of_sum}
use Rattle.dt_known.specs.declared.Known.{Known}
use Rattle.dt_known.specs.Known.{IsKnown, is_one, is_zero, known_bit, from_bits}
use Rattle.dt_known.specs.Forward.{not_bit, sum_bit, carry_bit, carry_into, sum_at, difference_at}
use Rattle.dt_known.specs.Laws.Bits.{from_words, mask_bit, value_bit, bit_from_bits, known_is_from_bits}
use Rattle.dt_known.proofs.Words.{words, known_of, within_bit, turned}

-- ---- the carries

carry_one : (o u r : Option Bool) → majority (is_one o) (is_one u) (is_one r) ≡ is_one (carry_bit o u r)
carry_one o u r = grind arith

carry_not_zero : (o u r : Option Bool) → majority (not (is_zero o)) (not (is_zero u)) (not (is_zero r)) ≡ not (is_zero (carry_bit o u r))
carry_not_zero o u r = grind arith

-- the least sum carries exactly where the carry is known to be 1
low_carry : (c : Bool) (f g : ℕ → Option Bool) (x y w i : ℕ) → ((j : ℕ) → j < w → bit x j ≡ is_one (f j)) → ((j : ℕ) → j < w → bit y j ≡ is_one (g j)) → i ≤ w
    → carry_at c x y i ≡ is_one (carry_into c f g i)
unfolding carry_at carry_into
low_carry c f g x y w zero s t l = refl
low_carry c f g x y w (suc i) s t l =
    ap (λ b. majority b (bit y i) (carry_at c x y i)) (s i (omega arith)) ∙ ap (λ b. majority (is_one (f i)) b (carry_at c x y i)) (t i (omega arith))
    ∙ ap (majority (is_one (f i)) (is_one (g i))) (low_carry c f g x y w i s t (omega arith)) ∙ carry_one (f i) (g i) (carry_into c f g i)

-- the greatest sum carries exactly where the carry isn't known to be 0
high_carry : (c : Bool) (f g : ℕ → Option Bool) (x y w i : ℕ) → ((j : ℕ) → j < w → bit x j ≡ not (is_zero (f j))) → ((j : ℕ) → j < w → bit y j ≡ not (is_zero (g j))) → i ≤ w
    → carry_at c x y i ≡ not (is_zero (carry_into c f g i))
unfolding carry_at carry_into
high_carry c f g x y w zero s t l = twice c
  where
    twice : (b : Bool) → b ≡ not (not b)
    twice true = refl
    twice false = refl
high_carry c f g x y w (suc i) s t l =
    ap (λ b. majority b (bit y i) (carry_at c x y i)) (s i (omega arith)) ∙ ap (λ b. majority (not (is_zero (f i))) b (carry_at c x y i)) (t i (omega arith))
    ∙ ap (majority (not (is_zero (f i))) (not (is_zero (g i)))) (high_carry c f g x y w i s t (omega arith)) ∙ carry_not_zero (f i) (g i) (carry_into c f g i)

-- ---- the sums

sum_word : (c : Bool) (x y w i : ℕ) → i < w → w ≤ 128
    → bit (((x + y) % 2 ^ 128 + cond c 1 0) % 2 ^ 128) i ≡ differs (differs (bit x i) (bit y i)) (carry_at c x y i)
sum_word c x y w i l h = ap (λ n. bit n i) (add_thrice x y (cond c 1 0)) ∙ bit_of_mod (x + y + cond c 1 0) 128 i (omega arith) ∙ bit_of_sum c x y i

-- the word of a with its unknown bits 1
high_bit : (m v : Bool) → (v && m) ≡ v → (v || not m) ≡ not (is_zero (known_of m v))
high_bit m v h = grind arith

high_word : (a : Known) (i : ℕ) → IsKnown a → i < a.width.0 → bit (bit_or a.value (2 ^ 128 - 1 - a.mask)) i ≡ not (is_zero (known_bit a i))
high_word a i p l = bit_of_or a.value (2 ^ 128 - 1 - a.mask) i ∙ ap (λ b. bit a.value i || b) (turned a.mask i a.width.0 p.width.1 p.mask_fits l)
    ∙ high_bit (bit a.mask i) (bit a.value i) (within_bit a i p)

abbrev low_at : Option Bool → Option Bool → Option Bool → Bool
low_at o u r = differs (differs (is_one o) (is_one u)) (is_one r)

abbrev high_at : Option Bool → Option Bool → Option Bool → Bool
high_at o u r = differs (differs (not (is_zero o)) (not (is_zero u))) (not (is_zero r))

sum_known : (o u r : Option Bool) → ((is_some o && is_some u) && not (differs (low_at o u r) (high_at o u r))) ≡ is_some (sum_bit o u r)
sum_known o u r = grind arith

sum_one : (o u r : Option Bool) → (low_at o u r && is_some (sum_bit o u r)) ≡ is_one (sum_bit o u r)
sum_one o u r = grind arith

abbrev low_sum : ℕ → Known → Known → ℕ
low_sum k a b = ((a.value + b.value) % 2 ^ 128 + k) % 2 ^ 128

abbrev high_sum : ℕ → Known → Known → ℕ
high_sum k a b = ((bit_or a.value (2 ^ 128 - 1 - a.mask) + bit_or b.value (2 ^ 128 - 1 - b.mask)) % 2 ^ 128 + k) % 2 ^ 128

abbrev sum_mask : ℕ → Known → Known → ℕ
sum_mask k a b = bit_and (bit_and a.mask b.mask) (2 ^ 128 - 1 - bit_xor (low_sum k a b) (high_sum k a b))

module _ (c : Bool) (k : ℕ) (d : k ≡ cond c 1 0) (a b : Known) (p : IsKnown a) (q : IsKnown b) (e : a.width ≡ b.width) where
  at_b : (i : ℕ) → i < a.width.0 → i < b.width.0
  at_b i l = subst (λ (w : Width). i < w.0) e l

  low_is : (i : ℕ) → i < a.width.0 → bit (low_sum k a b) i ≡ low_at (known_bit a i) (known_bit b i) (carry_into c (known_bit a) (known_bit b) i)
  low_is i l = ap (λ n. bit (((a.value + b.value) % 2 ^ 128 + n) % 2 ^ 128) i) d ∙ sum_word c a.value b.value a.width.0 i l p.width.1
      ∙ ap (λ t. differs (differs t (bit b.value i)) (carry_at c a.value b.value i)) (value_bit a i p)
      ∙ ap (λ t. differs (differs (is_one (known_bit a i)) t) (carry_at c a.value b.value i)) (value_bit b i q)
      ∙ ap (differs (differs (is_one (known_bit a i)) (is_one (known_bit b i)))) (low_carry c (known_bit a) (known_bit b) a.value b.value a.width.0 i (λ j _. value_bit a j p) (λ j _. value_bit b j q) (omega arith))

  high_is : (i : ℕ) → i < a.width.0 → bit (high_sum k a b) i ≡ high_at (known_bit a i) (known_bit b i) (carry_into c (known_bit a) (known_bit b) i)
  high_is i l =
      let x = bit_or a.value (2 ^ 128 - 1 - a.mask) in
      let y = bit_or b.value (2 ^ 128 - 1 - b.mask) in
      ap (λ n. bit (((x + y) % 2 ^ 128 + n) % 2 ^ 128) i) d ∙ sum_word c x y a.width.0 i l p.width.1
      ∙ ap (λ t. differs (differs t (bit y i)) (carry_at c x y i)) (high_word a i p l)
      ∙ ap (λ t. differs (differs (not (is_zero (known_bit a i))) t) (carry_at c x y i)) (high_word b i q (at_b i l))
      ∙ ap (differs (differs (not (is_zero (known_bit a i))) (not (is_zero (known_bit b i)))))
      (high_carry c (known_bit a) (known_bit b) x y a.width.0 i (λ j m. high_word a j p m) (λ j m. high_word b j q (at_b j m)) (omega arith))

  apart_fits : bit_xor (low_sum k a b) (high_sum k a b) < 2 ^ 128
  apart_fits = xor_lt 128 (low_sum k a b) (high_sum k a b) (mod_below _ (2 ^ 128) (pow_pos 128)) (mod_below _ (2 ^ 128) (pow_pos 128))

  mask_is : (i : ℕ) → i < a.width.0 → bit (sum_mask k a b) i ≡ is_some (sum_at c (known_bit a) (known_bit b) i)
  mask_is i l =
      let n = bit_xor (low_sum k a b) (high_sum k a b) in
      bit_of_and (bit_and a.mask b.mask) (2 ^ 128 - 1 - n) i
      ∙ ap (λ t. t && bit (2 ^ 128 - 1 - n) i) (bit_of_and a.mask b.mask i ∙ ap (λ t. t && bit b.mask i) (mask_bit a i) ∙ ap (λ t. is_some (known_bit a i) && t) (mask_bit b i))
      ∙ ap (λ t. (is_some (known_bit a i) && is_some (known_bit b i)) && t)
      (bit_of_complement 128 n i apart_fits (omega (arith, p.width.1)) ∙ ap not (bit_of_xor (low_sum k a b) (high_sum k a b) i ∙ ap (λ t. differs t (bit (high_sum k a b) i)) (low_is i l)
      ∙ ap (differs (low_at (known_bit a i) (known_bit b i) (carry_into c (known_bit a) (known_bit b) i))) (high_is i l)))
      ∙ sum_known (known_bit a i) (known_bit b i) (carry_into c (known_bit a) (known_bit b) i)

  mask_below : sum_mask k a b < 2 ^ a.width.0
  mask_below = omega (arith, and_le_l (bit_and a.mask b.mask) (2 ^ 128 - 1 - bit_xor (low_sum k a b) (high_sum k a b)), and_le_l a.mask b.mask, p.mask_fits)

  pub sum_words : words (sum_mask k a b) (bit_and (low_sum k a b) (sum_mask k a b)) a.width ≡ from_bits a.width (sum_at c (known_bit a) (known_bit b))
  sum_words = from_words a.width (sum_mask k a b) (bit_and (low_sum k a b) (sum_mask k a b)) (sum_at c (known_bit a) (known_bit b)) mask_below
      (omega (arith, and_le_r (low_sum k a b) (sum_mask k a b), mask_below)) mask_is
      (λ i l. bit_of_and (low_sum k a b) (sum_mask k a b) i ∙ ap (λ t. t && bit (sum_mask k a b) i) (low_is i l)
      ∙ ap (λ t. low_at (known_bit a i) (known_bit b i) (carry_into c (known_bit a) (known_bit b) i) && t) (mask_is i l)
      ∙ sum_one (known_bit a i) (known_bit b i) (carry_into c (known_bit a) (known_bit b) i))

-- ---- the difference

carry_same : (c : Bool) (f g h : ℕ → Option Bool) (w i : ℕ) → ((j : ℕ) → j < w → g j ≡ h j) → i ≤ w → carry_into c f g i ≡ carry_into c f h i
unfolding carry_into
carry_same c f g h w zero e l = refl
carry_same c f g h w (suc i) e l = ap (λ o. carry_bit (f i) o (carry_into c f g i)) (e i (omega arith)) ∙ ap (carry_bit (f i) (h i)) (carry_same c f g h w i e (omega arith))

-- the Known of given bits depends on the bits below the width alone
pub from_bits_same : (w : Width) (f g : ℕ → Option Bool) → ((i : ℕ) → i < w.0 → f i ≡ g i) → from_bits w f ≡ from_bits w g
from_bits_same w f g h = from_words w (number_of w.0 (λ i. is_some (f i))) (number_of w.0 (λ i. is_one (f i))) g
    (number_of_below w.0 (λ i. is_some (f i))) (number_of_below w.0 (λ i. is_one (f i)))
    (λ i l. bit_of_number w.0 (λ i. is_some (f i)) i l ∙ ap is_some (h i l)) (λ i l. bit_of_number w.0 (λ i. is_one (f i)) i l ∙ ap is_one (h i l))

pub not_is_known : (b n : Known) → IsKnown b → n ≡ from_bits b.width (λ i. not_bit (known_bit b i)) → IsKnown n × (n.width ≡ b.width)
not_is_known b n p e = (subst IsKnown (sym e) (known_is_from_bits b.width _ p.width), ap (λ (k : Known). k.width) e)

pub difference_words : (a b n : Known) → n ≡ from_bits b.width (λ i. not_bit (known_bit b i)) → a.width ≡ b.width
    → from_bits a.width (sum_at true (known_bit a) (known_bit n)) ≡ from_bits a.width (difference_at (known_bit a) (known_bit b))
difference_words a b n e w = from_bits_same a.width _ _ (λ i l.
    ap (λ o. sum_bit (known_bit a i) o (carry_into true (known_bit a) (known_bit n) i)) (told_not i l)
    ∙ ap (sum_bit (known_bit a i) (not_bit (known_bit b i))) (carry_same true (known_bit a) (known_bit n) (λ j. not_bit (known_bit b j)) a.width.0 i told_not (omega arith)))
  where
    told_not : (j : ℕ) → j < a.width.0 → known_bit n j ≡ not_bit (known_bit b j)
    told_not j l = ap (λ k. known_bit k j) e ∙ bit_from_bits b.width (λ i. not_bit (known_bit b i)) j (subst (λ (v : Width). j < v.0) w l)
