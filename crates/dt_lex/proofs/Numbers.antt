-- Digits read one by one, and printed one by one.
use Rattle.std.proofs.Common.{◌≡◌, ℕ, zero, suc, ◌+◌, ◌*◌, ◌/◌, ◌%◌, ◌^◌, ◌<◌, ◌≤◌, cond, ◌&&◌, eqb, ltb, List, [], ◌∷◌, ◌++◌, length, drop, get_or, Option, Some, None, refl, sym, ap, ◌∙◌, arith}
use Rattle.std.specs.Prelude.{map}
use Rattle.std.specs.Char.{digit_value, digit_char}
use Rattle.std.specs.Str.Parse.{digits_value_after}
use Rattle.std.specs.Int.Digits.{digits_of}
use Rattle.std.proofs.lemmas.Bool.{and_left, and_right, cond-true, cond-false, lt-ltb, le-ltb, ne_eqb}
use Rattle.std.proofs.lemmas.List.{at_drop_more, at_drop_all, map-append}
use Rattle.std.proofs.Math.Nat.{mul-le-mul_left, div-eq_of_lt, mod-eq_of_lt}
use Rattle.std.proofs.lemmas.Nat.{le-div}
use Rattle.std.proofs.lemmas.Int.Digits.{digits_of_step}
use Rattle.dt_lex.specs.Numeral.{all_digits, digits_read, numeral}

-- what the digits ds give after acc
unfoldable pub reads : ℕ → ℕ → List ℕ → Option ℕ
reads base acc ds = cond (all_digits base ds && ltb (digits_value_after base acc ds) (2 ^ 128)) (Some (digits_value_after base acc ds)) None

pub digits_none : (base : ℕ) (ds : List ℕ) → length ds ≡ 0 → digits_read base ds ≡ None
unfolding digits_read
digits_none base [] h = refl
digits_none base (c ∷ cs) h = absurd (omega arith)

pub digits_start : (base : ℕ) (ds : List ℕ) → 0 < length ds → digits_read base ds ≡ reads base 0 ds
unfolding digits_read reads
digits_start base ds h = rw (lt-ltb 0 (length ds) h) refl

value_ge : (base acc : ℕ) (ds : List ℕ) → 1 ≤ base → acc ≤ digits_value_after base acc ds
value_ge base acc [] h = omega arith
value_ge base acc (c ∷ cs) h =
    let more = value_ge base (acc * base + digit_value c) cs h in
    let grows : acc ≤ acc * base = omega (arith, mul-le-mul_left acc h) in
    omega arith

bad_first : (base acc c : ℕ) (cs : List ℕ) → base ≤ digit_value c → reads base acc (c ∷ cs) ≡ None
unfolding reads
bad_first base acc c cs h =
    cond-false _ _ _ (and_left (all_digits base (c ∷ cs)) _ (and_left (ltb (digit_value c) base) (all_digits base cs) (le-ltb (digit_value c) base h)))

over_first : (base acc c : ℕ) (cs : List ℕ) → 1 ≤ base → 2 ^ 128 ≤ acc * base + digit_value c → reads base acc (c ∷ cs) ≡ None
unfolding reads
over_first base acc c cs h large =
    let ge = value_ge base (acc * base + digit_value c) cs h in
    cond-false _ _ _ (and_right (all_digits base (c ∷ cs)) _ (le-ltb (digits_value_after base (acc * base + digit_value c) cs) (2 ^ 128) (omega arith)))

more_first : (base acc c : ℕ) (cs : List ℕ) → digit_value c < base → reads base acc (c ∷ cs) ≡ reads base (acc * base + digit_value c) cs
unfolding reads
more_first base acc c cs h = rw (lt-ltb (digit_value c) base h) refl

pub reads_bad : (base acc : ℕ) (ds : List ℕ) (i : ℕ) → i < length ds → base ≤ digit_value (get_or ds i 0) → reads base acc (drop i ds) ≡ None
reads_bad base acc ds i lt h = at_drop_more (reads base acc) ds i 0 lt ∙ bad_first base acc _ _ h

pub reads_over : (base acc : ℕ) (ds : List ℕ) (i : ℕ) → i < length ds → 1 ≤ base → 2 ^ 128 ≤ acc * base + digit_value (get_or ds i 0) → reads base acc (drop i ds) ≡ None
reads_over base acc ds i lt h large = at_drop_more (reads base acc) ds i 0 lt ∙ over_first base acc _ _ h large

pub reads_more : (base acc : ℕ) (ds : List ℕ) (i : ℕ) → i < length ds → digit_value (get_or ds i 0) < base → reads base acc (drop i ds) ≡ reads base (acc * base + digit_value (get_or ds i 0)) (drop (i + 1) ds)
reads_more base acc ds i lt h = at_drop_more (reads base acc) ds i 0 lt ∙ more_first base acc _ _ h

pub reads_end : (base acc : ℕ) (ds : List ℕ) (i : ℕ) → length ds ≤ i → acc < 2 ^ 128 → reads base acc (drop i ds) ≡ Some acc
unfolding reads
reads_end base acc ds i past lt = at_drop_all (reads base acc) ds i past ∙ cond-true _ _ _ (lt-ltb acc (2 ^ 128) lt)

-- ---- printing

pub numeral_small : (base n : ℕ) → 2 ≤ base → n < base → numeral base n ≡ digit_char n ∷ []
unfolding numeral
numeral_small base zero low lt = refl
numeral_small base (suc n) low lt =
    let quotient : suc n / base ≡ 0 = div-eq_of_lt lt in
    let rest : suc n % base ≡ suc n = mod-eq_of_lt lt in
    cond-false (eqb (suc n) 0) _ _ (ne_eqb (suc n) 0 (omega arith)) ∙ ap (map digit_char) (digits_of_step base (suc n) low (omega arith)) ∙ rw (quotient, rest) refl

pub numeral_step : (base n : ℕ) → 2 ≤ base → base ≤ n → numeral base n ≡ numeral base (n / base) ++ (digit_char (n % base) ∷ [])
unfolding numeral
numeral_step base n low le =
    let some : 0 < n / base = le-div 1 n base (omega arith) (omega arith) in
    cond-false (eqb n 0) _ _ (ne_eqb n 0 (omega arith)) ∙ ap (map digit_char) (digits_of_step base n low (omega arith)) ∙ map-append digit_char (digits_of base (n / base)) (n % base ∷ []) ∙ sym (ap (λ (xs : List ℕ). xs ++ (digit_char (n % base) ∷ [])) (cond-false (eqb (n / base) 0) _ _ (ne_eqb (n / base) 0 (omega arith))))
