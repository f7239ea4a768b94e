-- Numbers and constants, as they are printed, are tokens that read as themselves.
use Rattle.std.proofs.Common.{◌≡◌, ℕ, ◌+◌, ◌^◌, ◌<◌, ◌≤◌, Bool, true, false, ◌&&◌, ltb, List, [], ◌∷◌, ◌++◌, length, take, drop, get_or, Option, Some, None, refl, ap, ◌∙◌, arith, lit≤, length-append}
use Rattle.std.specs.List.{list_all, AllByRecursion, position_or_len, before_first, after_first}
use Rattle.std.specs.Char.{digit_value}
use Rattle.std.proofs.lemmas.Bool.{and_from, and_parts, and_right, cond-true, cond-false, lt-ltb, ltb-true, ne_eqb}
use Rattle.std.proofs.Math.Seq.{take-append_seam, drop-append-add}
use Rattle.dt_lemmas.proofs.Positions.{goes_by}
use Rattle.dt_lex.specs.Names.{is_lower, goes_on, spells_name, padded_name, name_of}
use Rattle.dt_lex.specs.Numeral.{is_hex, all_digits, number_of, decimal, hex}
use Rattle.dt_lex.specs.Printing.{is_plain, all_plain, IsWord}
use Rattle.dt_lex.proofs.NameWords.{plain_append}
use Rattle.dt_lex.proofs.Printed.{no_x, numeral_is, number_of-decimal, number_of-hex, IsWord-decimal, IsWord-hex}
use Rattle.dt_model.specs.ModelData.{value}
use Rattle.dt_modeltext.specs.Expr.{below_32, small_of, decimal_of, is_colon, constant_of}
use Rattle.dt_lex.specs.Frame.{◌>>=◌}

-- ---- numbers

pub small_decimal : (n : ℕ) → n < 2 ^ 32 → small_of (decimal n) ≡ Some n
unfolding small_of
small_decimal n lt =
    let wide : n < 2 ^ 128 = (let most : 2 ^ 32 ≤ 2 ^ 128 = lit≤ tt in omega arith) in
    ap (λ (o : Option ℕ). o >>= below_32) (number_of-decimal n wide) ∙ cond-true (ltb n (2 ^ 32)) (Some n) None (lt-ltb n (2 ^ 32) lt)

decimal_again : (n : ℕ) → n < 2 ^ 32 → decimal_of (decimal n) ≡ Some n
unfolding decimal_of
decimal_again n lt =
    let digits = (numeral_is 10 n (omega arith) (omega arith)).digits in
    cond-false (is_hex (decimal n)) None (small_of (decimal n)) (no_x (decimal n) digits) ∙ small_decimal n lt

-- ---- constants

-- no byte of these is a colon
abbrev HasNoColon : List ℕ → Type 0
HasNoColon bs = AllByRecursion (λ b. is_colon b ≡ false) bs

colon_at : (xs ys : List ℕ) → HasNoColon xs → position_or_len is_colon (xs ++ 58 ∷ ys) ≡ length xs
colon_at [] ys h = refl
colon_at (x ∷ xs) ys h =
    goes_by is_colon x (xs ++ 58 ∷ ys) h.0 ∙ (let e = colon_at xs ys h.1 in omega (arith, e))

no_colon : (ds : List ℕ) → all_digits 10 ds ≡ true → HasNoColon ds
no_colon [] h = tt
no_colon (d ∷ ds) h =
    let p = and_parts (ltb (digit_value d) 10) (all_digits 10 ds) h in
    (ne_eqb d 58 (λ e. let lt : digit_value d < 10 = ltb-true (digit_value d) 10 p.0 in let is : digit_value d ≡ 36 = ap digit_value e in omega arith), no_colon ds p.1)

before_colon : (xs ys : List ℕ) → HasNoColon xs → before_first is_colon (xs ++ 58 ∷ ys) ≡ xs
before_colon xs ys h = ap (λ (k : ℕ). take k (xs ++ 58 ∷ ys)) (colon_at xs ys h) ∙ take-append_seam xs (58 ∷ ys)

after_colon : (xs ys : List ℕ) → HasNoColon xs → after_first is_colon (xs ++ 58 ∷ ys) ≡ ys
after_colon xs ys h = ap (λ (k : ℕ). drop (k + 1) (xs ++ 58 ∷ ys)) (colon_at xs ys h) ∙ drop-append-add xs (58 ∷ ys) 1

abbrev pub constant_text : ℕ → ℕ → List ℕ
constant_text w n = decimal w ++ 58 ∷ hex n

pub constant_again : (w n : ℕ) → w < 2 ^ 32 → n < 2 ^ 128 → constant_of (constant_text w n) ≡ Some (value w n)
unfolding constant_of
constant_again w n small lt =
    let plain = no_colon (decimal w) (numeral_is 10 w (omega arith) (omega arith)).digits in
    let width : decimal_of (before_first is_colon (constant_text w n)) ≡ Some w = ap decimal_of (before_colon (decimal w) (hex n) plain) ∙ decimal_again w small in
    let bits : number_of (after_first is_colon (constant_text w n)) ≡ Some n = ap number_of (after_colon (decimal w) (hex n) plain) ∙ number_of-hex n lt in
    rw (width, bits) refl

-- a colon stands in no name
colon_ends : (xs ys : List ℕ) → list_all goes_on (xs ++ 58 ∷ ys) ≡ false
colon_ends [] ys = refl
colon_ends (x ∷ xs) ys = and_right (goes_on x) (list_all goes_on (xs ++ 58 ∷ ys)) (colon_ends xs ys)

pub constant_no_name : (w n : ℕ) → name_of (constant_text w n) ≡ None
unfolding name_of
constant_no_name w n =
    let t = constant_text w n in
    cond-false (spells_name t) (Some (padded_name t)) None (rw (colon_ends (decimal w) (hex n)) (shut (is_lower (get_or t 0 0)) (ltb (length t) 32)))
  where
    shut : (p q : Bool) → (p && false && q) ≡ false
    shut true q = refl
    shut false q = refl

pub IsWord-constant : (w n : ℕ) → IsWord (constant_text w n)
IsWord-constant w n =
    let a = IsWord-decimal w in
    let b = IsWord-hex n in
    record {
      some = omega (arith, length-append (decimal w) (58 ∷ hex n));
      plain = plain_append (decimal w) (58 ∷ hex n) a.plain (and_from (is_plain 58) (all_plain (hex n)) refl b.plain);
    }
