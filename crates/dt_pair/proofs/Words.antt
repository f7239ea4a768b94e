-- The candidate as words, and what is found downward from what is found upward.
use Rattle.std.proofs.Common.{◌≡◌, ℕ, ◌+◌, ◌-◌, ◌*◌, ◌/◌, ◌%◌, ◌^◌, ◌<◌, ◌≤◌, Bool, true, false, cond, bit_and, bit_or, bit_xor, Option, Some, sym, ap, ◌∙◌, subst, arith}
use Rattle.std.specs.Option.{option_map}
use Rattle.std.specs.Int.Bits.{or_zero_r}
use Rattle.std.proofs.lemmas.Bool.{false≢true}
use Rattle.std.proofs.lemmas.Nat.{pow_pos, and_mask, or_shifted, or_block, mod_below}
use Rattle.std.proofs.Math.Nat.{mod-eq_of_lt, pow-le-pow_right}
use Rattle.dt_bits.proofs.BitLemmas.{upper_bits}
use Rattle.dt_bits.specs.Bits.{bit}
use Rattle.dt_known.specs.declared.Known.{Known}
use Rattle.dt_known.specs.Known.{IsKnown}
use Rattle.dt_pair.specs.Ends.{has_bits, candidate, least_from, greatest_from, IsLeastFound, IsGreatestFound}
use Rattle.dt_pair.specs.Places.{IsLowestPlace}
use Rattle.dt_pair.specs.Laws.Candidates.{candidate_form, candidate_fits}
use Rattle.dt_pair.specs.Laws.Least.{least_is, lowest_is, same_least}
use Rattle.dt_pair.specs.Laws.Greatest.{turned_words, greatest_turned, greatest_is}
use Rattle.dt_pair.specs.Laws.Normal.{words_of}

-- ---- a candidate

odd_word : (q : ℕ) (b : Bool) → bit_or (q * 2 ^ 1 + cond b 1 0) 1 ≡ q * 2 ^ 1 + 1
odd_word q true = or_block 1 q 0 1 1 (omega arith) (omega arith) ∙ ap (λ n. n * 2 ^ 1 + 1) (or_zero_r q)
odd_word q false = or_block 1 q 0 0 1 (omega arith) (omega arith) ∙ ap (λ n. n * 2 ^ 1 + 1) (or_zero_r q)

pub candidate_words : (v lo i : ℕ) → candidate v lo i < 2 ^ 128 → bit_or (bit_or (lo / 2 ^ i) 1 * 2 ^ i % 2 ^ 128) (bit_and v (2 ^ i - 1)) ≡ candidate v lo i
candidate_words v lo i h =
    let n = lo / 2 ^ (i + 1) * 2 ^ 1 + 1 in
    let f = candidate_form v lo i in
    let e : bit_or (lo / 2 ^ i) 1 ≡ n = ap (λ n. bit_or n 1) (upper_bits lo i) ∙ odd_word (lo / 2 ^ (i + 1)) (bit lo i) in
    let l : n * 2 ^ i < 2 ^ 128 = omega (arith, f) in
    ap (λ k. bit_or (k * 2 ^ i % 2 ^ 128) (bit_and v (2 ^ i - 1))) e
    ∙ ap (λ k. bit_or k (bit_and v (2 ^ i - 1))) (mod-eq_of_lt l)
    ∙ ap (bit_or (n * 2 ^ i)) (and_mask v i)
    ∙ or_shifted n i (v % 2 ^ i) (mod_below v (2 ^ i) (pow_pos i))
    ∙ sym f

pub candidate_wide : (k : Known) (lo i : ℕ) → IsKnown k → lo < 2 ^ k.width.0 → i < k.width.0 → candidate k.value lo i < 2 ^ 128
candidate_wide k lo i p h l =
    let u : 2 ^ k.width.0 ≤ 2 ^ 128 = pow-le-pow_right (omega arith) p.width.1 in
    omega (arith, candidate_fits k.width.0 k.value lo i l h)

-- ---- upward

pub least_some : (k : Known) (lo i : ℕ) → IsKnown k → lo < 2 ^ k.width.0 → has_bits k.mask k.value lo ≡ false → IsLowestPlace k.width.0 k.mask k.value lo i
    → IsLeastFound k.width.0 k.mask k.value lo (Some (candidate k.value lo i))
least_some k lo i p h n s = lowest_is k.width.0 k.mask k.value lo i (words_of k p) h n s.below s.here s.none_lower

pub least_same : (k : Known) (lo : ℕ) (o : Option ℕ) → IsKnown k → lo < 2 ^ k.width.0 → IsLeastFound k.width.0 k.mask k.value lo o → o ≡ least_from k.width.0 k.mask k.value lo
least_same k lo o p h f = same_least k.width.0 k.mask k.value lo o (least_from k.width.0 k.mask k.value lo) f (least_is k.width.0 k.mask k.value lo (words_of k p) h)

-- ---- downward

-- the known bits turned
abbrev pub turned_known : Known → Known
turned_known k = record { mask = k.mask; value = bit_xor k.mask k.value; width = k.width; empty = false }

pub turned_is : (k : Known) → IsKnown k → IsKnown (turned_known k)
turned_is k p = record {
  width = p.width;
  mask_fits = p.mask_fits;
  within = (turned_words k.width.0 k.mask k.value (words_of k p)).within;
  empty = λ e. absurd (false≢true e);
}

pub greatest_same : (k : Known) (hi n : ℕ) (o : Option ℕ) → IsKnown k → hi < 2 ^ k.width.0 → n ≡ 2 ^ k.width.0 - 1
    → o ≡ least_from k.width.0 k.mask (bit_xor k.mask k.value) (n - hi) → option_map (λ x. n - x) o ≡ greatest_from k.width.0 k.mask k.value hi
greatest_same k hi n o p h e f =
    ap (option_map (λ x. n - x)) f
    ∙ ap (λ n. option_map (λ x. n - x) (least_from k.width.0 k.mask (bit_xor k.mask k.value) (n - hi))) e
    ∙ sym (greatest_turned k.width.0 k.mask k.value hi (words_of k p) h)

pub greatest_found : (k : Known) (hi : ℕ) (o : Option ℕ) → IsKnown k → hi < 2 ^ k.width.0 → o ≡ greatest_from k.width.0 k.mask k.value hi → IsGreatestFound k.mask k.value hi o
greatest_found k hi o p h e = subst (IsGreatestFound k.mask k.value hi) (sym e) (greatest_is k.width.0 k.mask k.value hi (words_of k p) h)
