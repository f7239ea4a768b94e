-- What is printed is cut into the same rows again, and reads as its rows do: `reading_printed`.
use Rattle.std.proofs.Common.{◌≡◌, ℕ, ◌+◌, ◌*◌, ◌/◌, ◌%◌, ◌^◌, ◌<◌, ◌≤◌, Bool, true, false, ◌&&◌, ◌||◌, eqb, ltb, List, [], ◌∷◌, ◌++◌, length, drop, Option, Some, None, Result, Ok, refl, sym, ap, subst, ◌∙◌, append_assoc, arith, lit≤, inl, inr}
use Rattle.std.specs.Prelude.{map}
use Rattle.std.specs.List.{AllByRecursion}
use Rattle.std.specs.Char.{digit_value, digit_char}
use Rattle.std.specs.Str.Parse.{digits_value}
use Rattle.std.specs.Int.Digits.{digits_of, number_from_digits, AllBelowBase}
use Rattle.std.proofs.lemmas.Bool.{cases_lt, and_from, and_parts, and_right, lt-ltb, ltb-true, le-ltb, eq-eqb, ne_eqb, cond-true, cond-false}
use Rattle.std.proofs.lemmas.Str.{digit_value-digit_char}
use Rattle.std.proofs.lemmas.Int.Digits.{digits_value_is, number_digits_of, all_below_base_digits_of, digits_of_step, length-digits_of-le}
use Rattle.std.proofs.lemmas.List.{length-append, length-map}
use Rattle.dt_lex.specs.declared.fault.LexFault.{LexFault}
use Rattle.dt_lex.specs.Text.{put_front, lines_of, tokens_of, has_bad_byte, is_word, is_bad, begins_word, fault_of}
use Rattle.dt_lex.specs.Numeral.{all_digits, digits_read, number_of, is_hex, numeral, decimal, hex}
use Rattle.dt_lex.specs.Printing.{is_plain, all_plain, IsWord, spaced, body_of, text_of, IsRow}
use Rattle.dt_lex.specs.Reading.{Grammar, AddsUp, ◌>>=◌, row_entry, unless_faulty, line_entry, grow, reading_of}
use Rattle.dt_lex.proofs.Cuts.{word_alone, word_joined, blank_skipped, tokens_nil}
use Rattle.dt_lex.proofs.Loop.{run_from, bind_same, reading_run}

pub record IsPlain (b : ℕ) : Type 0 where
  pub word : is_word b ≡ true
  pub no_feed : eqb b 10 ≡ false
  pub no_comment : eqb b 35 ≡ false
  pub good : is_bad b ≡ false

plain_is : (b : ℕ) → is_plain b ≡ true → IsPlain b
plain_is b h = record { word = grind arith; no_feed = grind arith; no_comment = grind arith; good = grind arith }

-- ---- tokens

pub word_then : (t rest : List ℕ) → 0 < length t → all_plain t ≡ true → begins_word rest ≡ false → tokens_of (t ++ rest) ≡ t ∷ tokens_of rest
word_then [] rest some plain stops = absurd (omega arith)
word_then (b ∷ []) rest some plain stops = word_alone b rest (plain_is b (and_parts _ _ plain).0).word stops
word_then (b ∷ c ∷ cs) rest some plain stops =
    let p = and_parts (is_plain b) (all_plain (c ∷ cs)) plain in
    let q = and_parts (is_plain c) (all_plain cs) p.1 in
    word_joined b (c ∷ cs ++ rest) (plain_is b p.0).word (plain_is c q.0).word ∙ ap (put_front b) (word_then (c ∷ cs) rest (omega arith) p.1 stops)

begins_spaced : (ts : List (List ℕ)) → begins_word (spaced ts) ≡ false
begins_spaced [] = refl
begins_spaced (t ∷ ts) = refl

tokens_spaced : (ts : List (List ℕ)) → AllByRecursion IsWord ts → tokens_of (spaced ts) ≡ ts
tokens_spaced [] h = tokens_nil
tokens_spaced (t ∷ ts) h =
    blank_skipped 32 (t ++ spaced ts) refl ∙ word_then t (spaced ts) h.0.some h.0.plain (begins_spaced ts) ∙ ap (λ (us : List (List ℕ)). t ∷ us) (tokens_spaced ts h.1)

tokens_body : (row : List (List ℕ)) → AllByRecursion IsWord row → tokens_of (body_of row) ≡ row
tokens_body [] h = tokens_nil
tokens_body (t ∷ ts) h =
    word_then t (spaced ts) h.0.some h.0.plain (begins_spaced ts) ∙ ap (λ (us : List (List ℕ)). t ∷ us) (tokens_spaced ts h.1)

-- ---- bytes

pub good_then : (t rest : List ℕ) → all_plain t ≡ true → has_bad_byte (t ++ rest) ≡ has_bad_byte rest
unfolding has_bad_byte
good_then [] rest plain = refl
good_then (b ∷ bs) rest plain =
    let p = and_parts (is_plain b) (all_plain bs) plain in
    let q = plain_is b p.0 in
    cond-false (eqb b 35) false (is_bad b || has_bad_byte (bs ++ rest)) q.no_comment ∙ ap (λ (x : Bool). x || has_bad_byte (bs ++ rest)) q.good ∙ good_then bs rest p.1

good_spaced : (ts : List (List ℕ)) → AllByRecursion IsWord ts → has_bad_byte (spaced ts) ≡ false
unfolding has_bad_byte
good_spaced [] h = refl
good_spaced (t ∷ ts) h = good_then t (spaced ts) h.0.plain ∙ good_spaced ts h.1

good_body : (row : List (List ℕ)) → AllByRecursion IsWord row → has_bad_byte (body_of row) ≡ false
unfolding has_bad_byte
good_body [] h = refl
good_body (t ∷ ts) h = good_then t (spaced ts) h.0.plain ∙ good_spaced ts h.1

-- ---- lines

abbrev pub HasNoFeed : List ℕ → Type 0
HasNoFeed bs = AllByRecursion (λ b. eqb b 10 ≡ false) bs

pub no_feed_append : (xs bs : List ℕ) → HasNoFeed xs → HasNoFeed bs → HasNoFeed (xs ++ bs)
no_feed_append [] bs p q = q
no_feed_append (x ∷ xs) bs p q = (p.0, no_feed_append xs bs p.1 q)

pub no_feed_plain : (t : List ℕ) → all_plain t ≡ true → HasNoFeed t
no_feed_plain [] h = tt
no_feed_plain (b ∷ bs) h =
    let p = and_parts (is_plain b) (all_plain bs) h in
    ((plain_is b p.0).no_feed, no_feed_plain bs p.1)

no_feed_spaced : (ts : List (List ℕ)) → AllByRecursion IsWord ts → HasNoFeed (spaced ts)
no_feed_spaced [] h = tt
no_feed_spaced (t ∷ ts) h = (refl, no_feed_append t (spaced ts) (no_feed_plain t h.0.plain) (no_feed_spaced ts h.1))

no_feed_body : (row : List (List ℕ)) → AllByRecursion IsWord row → HasNoFeed (body_of row)
no_feed_body [] h = tt
no_feed_body (t ∷ ts) h = no_feed_append t (spaced ts) (no_feed_plain t h.0.plain) (no_feed_spaced ts h.1)

line_then : (bs rest : List ℕ) → HasNoFeed bs → lines_of (bs ++ 10 ∷ rest) ≡ bs ∷ lines_of rest
unfolding lines_of
line_then [] rest h = refl
line_then (b ∷ bs) rest h =
    cond-false (eqb b 10) ([] ∷ lines_of (bs ++ 10 ∷ rest)) (put_front b (lines_of (bs ++ 10 ∷ rest))) h.0 ∙ ap (put_front b) (line_then bs rest h.1)

-- no body of these rows has a line feed
abbrev pub HaveNoFeed : List (List (List ℕ)) → Type 0
HaveNoFeed rows = AllByRecursion (λ row. HasNoFeed (body_of row)) rows

pub lines_text : (rows : List (List (List ℕ))) → HaveNoFeed rows → lines_of (text_of rows) ≡ map body_of rows
unfolding lines_of
lines_text [] h = refl
lines_text (row ∷ rows) h =
    ap lines_of (append_assoc (body_of row) (10 ∷ []) (text_of rows)) ∙ line_then (body_of row) (text_of rows) h.0 ∙ ap (λ (ls : List (List ℕ)). body_of row ∷ ls) (lines_text rows h.1)

-- ---- reading lines by their tokens

-- the bytes are a line of these tokens
pub record IsLine (body : List ℕ) (row : List (List ℕ)) : Type 0 where
  pub tokens : tokens_of body ≡ row
  pub good : has_bad_byte body ≡ false
  pub no_feed : HasNoFeed body
  pub short : length body ≤ 16384

faultless : (n : ℕ) (body : List ℕ) (row : List (List ℕ)) → IsLine body row → fault_of n body ≡ None
faultless n body row h =
    cond-false (ltb 16384 (length body)) _ _ (le-ltb 16384 (length body) h.short) ∙ cond-false (has_bad_byte body) _ _ h.good

-- such a line is read as its tokens are
pub line_is_row : {E D C F : Type 0} (g : Grammar E D C F) (n : ℕ) (d : D) (body : List ℕ) (row : List (List ℕ)) → IsLine body row → line_entry g n d body ≡ row_entry g n d row
unfolding line_entry
line_is_row g n d body row h =
    ap (λ (o : Option LexFault). unless_faulty g.lexical o (row_entry g n d (tokens_of body))) (faultless n body row h) ∙ ap (row_entry g n d) h.tokens

length_bodies : (rows : List (List (List ℕ))) → length (map body_of rows) ≡ length rows
length_bodies rows = length-map rows body_of

-- a printed text is read line by line
pub reading_lines : {E D C V F : Type 0} (g : Grammar E D C F) (add : D → E → D) (finish : ℕ → D → Result V F) (rows : List (List (List ℕ))) (d : D) → AddsUp g add → HaveNoFeed rows → run_from g add 1 (g.declared []) (map body_of rows) ≡ Ok d → reading_of g finish (text_of rows) ≡ finish (length rows + 1) d
reading_lines {D = D} {F = F} g add finish rows d law are h =
    let lines = lines_text rows are in
    let count : length (lines_of (text_of rows)) ≡ length rows = ap length lines ∙ length_bodies rows in
    let run : run_from g add 1 (g.declared []) (lines_of (text_of rows)) ≡ Ok d = ap (run_from g add 1 (g.declared [])) lines ∙ h in
    reading_run g add finish (text_of rows) law ∙ ap (λ (r : Result D F). r >>= finish (length (lines_of (text_of rows)) + 1)) run ∙ ap (λ (k : ℕ). finish (k + 1) d) count

-- ---- reading rows in the place of lines

unfoldable pub run_rows : {E D C F : Type 0} → Grammar E D C F → (D → E → D) → ℕ → D → List (List (List ℕ)) → Result D F
run_rows g add n d [] = Ok d
run_rows g add n d (row ∷ rows) = row_entry g n d row >>= λ e. run_rows g add (n + 1) (grow add d e) rows

row_line : (row : List (List ℕ)) → IsRow row → IsLine (body_of row) row
row_line row h = record { tokens = tokens_body row h.words; good = good_body row h.words; no_feed = no_feed_body row h.words; short = h.short }

row_feeds : (rows : List (List (List ℕ))) → AllByRecursion IsRow rows → HaveNoFeed rows
row_feeds [] h = tt
row_feeds (row ∷ rows) h = (no_feed_body row h.0.words, row_feeds rows h.1)

pub run_printed : {E D C F : Type 0} (g : Grammar E D C F) (add : D → E → D) (n : ℕ) (d : D) (rows : List (List (List ℕ))) → AllByRecursion IsRow rows → run_from g add n d (map body_of rows) ≡ run_rows g add n d rows
unfolding run_from run_rows
run_printed g add n d [] h = refl
run_printed {E = E} {F = F} g add n d (row ∷ rows) h =
    ap (λ (r : Result (Option E) F). r >>= λ e. run_from g add (n + 1) (grow add d e) (map body_of rows)) (line_is_row g n d (body_of row) row (row_line row h.0)) ∙ bind_same (row_entry g n d row) (λ o. run_from g add (n + 1) (grow add d o) (map body_of rows)) (λ o. run_rows g add (n + 1) (grow add d o) rows) (λ o. run_printed g add (n + 1) (grow add d o) rows h.1)

-- a printed text reads as its rows do
pub reading_printed : {E D C V F : Type 0} (g : Grammar E D C F) (add : D → E → D) (finish : ℕ → D → Result V F) (rows : List (List (List ℕ))) (d : D) → AddsUp g add → AllByRecursion IsRow rows → run_rows g add 1 (g.declared []) rows ≡ Ok d → reading_of g finish (text_of rows) ≡ finish (length rows + 1) d
reading_printed g add finish rows d law are h =
    reading_lines g add finish rows d law (row_feeds rows are) (run_printed g add 1 (g.declared []) rows are ∙ h)

-- ---- numbers

digits_back : (ds : List ℕ) (base : ℕ) → base ≤ 16 → AllBelowBase base ds → map digit_value (map digit_char ds) ≡ ds
digits_back [] base high h = refl
digits_back (d ∷ ds) base high h = (λ i. digit_value-digit_char d (omega (arith, h.0)) i ∷ digits_back ds base high h.1 i)

digits_all : (ds : List ℕ) (base : ℕ) → base ≤ 16 → AllBelowBase base ds → all_digits base (map digit_char ds) ≡ true
digits_all [] base high h = refl
digits_all (d ∷ ds) base high h =
    and_from (ltb (digit_value (digit_char d)) base) (all_digits base (map digit_char ds)) (ap (λ (x : ℕ). ltb x base) (digit_value-digit_char d (omega (arith, h.0))) ∙ lt-ltb d base h.0) (digits_all ds base high h.1)

char_plain : (d : ℕ) → d < 16 → is_plain (digit_char d) ≡ true
char_plain d lt = grind arith

chars_plain : (ds : List ℕ) (base : ℕ) → base ≤ 16 → AllBelowBase base ds → all_plain (map digit_char ds) ≡ true
chars_plain [] base high h = refl
chars_plain (d ∷ ds) base high h = and_from (is_plain (digit_char d)) (all_plain (map digit_char ds)) (char_plain d (omega (arith, h.0))) (chars_plain ds base high h.1)

some_digits : (base n : ℕ) → 2 ≤ base → 0 < n → 0 < length (digits_of base n)
some_digits base n low some = omega (arith, ap length (digits_of_step base n low some), length-append (digits_of base (n / base)) (n % base ∷ []))

pub record IsNumeralOf (base n : ℕ) (text : List ℕ) : Type 0 where
  pub some : 0 < length text
  pub digits : all_digits base text ≡ true
  pub value : digits_value base text ≡ n
  pub plain : all_plain text ≡ true

pub numeral_is : (base n : ℕ) → 2 ≤ base → base ≤ 16 → IsNumeralOf base n (numeral base n)
unfolding numeral
numeral_is base n low high =
    elim (cases_lt 0 n) [
      | inl some ↦
          let ds = digits_of base n in
          let below = all_below_base_digits_of base n low in
          subst (IsNumeralOf base n) (sym (cond-false (eqb n 0) (48 ∷ []) (map digit_char ds) (ne_eqb n 0 (omega arith)))) (record {
            some = omega (arith, length-map ds digit_char, some_digits base n low some);
            digits = digits_all ds base high below;
            value = digits_value_is base (map digit_char ds) ∙ ap (number_from_digits base) (digits_back ds base high below) ∙ number_digits_of base n low;
            plain = chars_plain ds base high below;
          })
      | inr none ↦
          subst (IsNumeralOf base n) (sym (cond-true (eqb n 0) (48 ∷ []) (map digit_char (digits_of base n)) (eq-eqb n 0 (omega arith)))) (record {
            some = omega arith;
            digits = and_from (ltb 0 base) true (lt-ltb 0 base (omega arith)) refl;
            value = omega arith;
            plain = refl;
          })
    ]

read_is : (base n : ℕ) (text : List ℕ) → IsNumeralOf base n text → n < 2 ^ 128 → digits_read base text ≡ Some n
unfolding digits_read
read_is base n text h lt =
    cond-true (ltb 0 (length text) && all_digits base text && ltb (digits_value base text) (2 ^ 128)) (Some (digits_value base text)) None
    (and_from (ltb 0 (length text) && all_digits base text) (ltb (digits_value base text) (2 ^ 128)) (and_from (ltb 0 (length text)) (all_digits base text) (lt-ltb 0 (length text) h.some) h.digits) (lt-ltb (digits_value base text) (2 ^ 128) (omega (arith, h.value))))
    ∙ ap (λ (x : ℕ). Some x) h.value

-- no decimal digit is an x
pub no_x : (text : List ℕ) → all_digits 10 text ≡ true → is_hex text ≡ false
no_x [] h = refl
no_x (b ∷ []) h = and_right (eqb b 48) false refl
no_x (b ∷ c ∷ cs) h =
    let p = and_parts (ltb (digit_value b) 10) (all_digits 10 (c ∷ cs)) h in
    let q = and_parts (ltb (digit_value c) 10) (all_digits 10 cs) p.1 in
    and_right (eqb b 48) (eqb c 120) (ne_eqb c 120 (λ e. let lt : digit_value c < 10 = ltb-true (digit_value c) 10 q.0 in let is : digit_value c ≡ 33 = ap digit_value e in omega arith))

pub number_of-decimal : (n : ℕ) → n < 2 ^ 128 → number_of (decimal n) ≡ Some n
unfolding number_of
number_of-decimal n lt =
    let h = numeral_is 10 n (omega arith) (omega arith) in
    cond-false (is_hex (decimal n)) (digits_read 16 (drop 2 (decimal n))) (digits_read 10 (decimal n)) (no_x (decimal n) h.digits) ∙ read_is 10 n (decimal n) h lt

pub number_of-hex : (n : ℕ) → n < 2 ^ 128 → number_of (hex n) ≡ Some n
unfolding number_of
number_of-hex n lt = read_is 16 n (numeral 16 n) (numeral_is 16 n (omega arith) (omega arith)) lt

pub IsWord-decimal : (n : ℕ) → IsWord (decimal n)
IsWord-decimal n = let h = numeral_is 10 n (omega arith) (omega arith) in record { some = h.some; plain = h.plain }

pub IsWord-hex : (n : ℕ) → IsWord (hex n)
IsWord-hex n = let h = numeral_is 16 n (omega arith) (omega arith) in record { some = omega arith; plain = h.plain }

-- ---- lengths

pub numeral_le : (base k n : ℕ) → 2 ≤ base → 1 ≤ k → n < base ^ k → length (numeral base n) ≤ k
unfolding numeral
numeral_le base k n low some lt =
    elim (cases_lt 0 n) [
      | inl positive ↦ subst (λ (t : List ℕ). length t ≤ k) (sym (cond-false (eqb n 0) (48 ∷ []) (map digit_char (digits_of base n)) (ne_eqb n 0 (omega arith)))) (omega (arith, length-map (digits_of base n) digit_char, length-digits_of-le base k n low lt))
      | inr none ↦ subst (λ (t : List ℕ). length t ≤ k) (sym (cond-true (eqb n 0) (48 ∷ []) (map digit_char (digits_of base n)) (eq-eqb n 0 (omega arith)))) some
    ]

pub length-decimal-le : (n : ℕ) → n < 2 ^ 128 → length (decimal n) ≤ 39
length-decimal-le n lt = numeral_le 10 39 n (omega arith) (omega arith) (let wide : 2 ^ 128 ≤ 10 ^ 39 = lit≤ tt in omega arith)

pub length-hex-le : (n : ℕ) → n < 2 ^ 128 → length (hex n) ≤ 34
length-hex-le n lt = let h = numeral_le 16 32 n (omega arith) (omega arith) lt in omega arith

-- a row of so many words of so many bytes, behind a first word
pub spaced_le : (k : ℕ) (ts : List (List ℕ)) → AllByRecursion (λ t. length t ≤ k) ts → length (spaced ts) ≤ length ts * (k + 1)
spaced_le k [] h = omega arith
spaced_le k (t ∷ ts) h = omega (arith, h.0, length-append t (spaced ts), spaced_le k ts h.1)
