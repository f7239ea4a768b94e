-- Where the tokens of a line, and of lines, stand.
use Rattle.std.proofs.Common.{◌≡◌, ℕ, suc, ◌+◌, ◌-◌, ◌<◌, ◌≤◌, true, false, ◌&&◌, eqb, List, [], ◌∷◌, ◌++◌, length, take, drop, get_or, refl, sym, ap, subst, ◌∙◌, append_assoc, append-nil, arith, inl, inr}
use Rattle.std.specs.Prelude.{slice_range}
use Rattle.std.specs.List.{prefix_len}
use Rattle.std.proofs.lemmas.List.{drop-drop, drop_all, take_rest}
use Rattle.std.proofs.lemmas.Bool.{cases_Bool, and_from, and_left, and_right, cond-true, cond-false, eq-eqb}
use Rattle.dt_lex.specs.declared.spans.Token.{Token}
use Rattle.dt_lex.specs.Text.{is_blank, is_paren, is_word, begins_word}
use Rattle.dt_lex.specs.Spans.{begin_at, spans_of, on_line, tokens_from}
use Rattle.dt_lemmas.proofs.Booleans.{third, fourth}
use Rattle.dt_lemmas.proofs.Lists.{get_or_drop, some_left}
use Rattle.dt_lex.proofs.Cuts.{word_parts, more_at, none_at, word_at}
use Rattle.dt_lex.proofs.Places.{word_is}
use Rattle.dt_lex.proofs.Spanned.{rest_of}

-- ---- the first byte of what stands at a place

comment_span : (at b : ℕ) (bs : List ℕ) → b ≡ 35 → spans_of at (b ∷ bs) ≡ []
unfolding spans_of
comment_span at b bs h = cond-true (eqb b 35) [] _ (eq-eqb b 35 h)

blank_span : (at b : ℕ) (bs : List ℕ) → is_blank b ≡ true → spans_of at (b ∷ bs) ≡ spans_of (at + 1) bs
unfolding spans_of
blank_span at b bs h =
    let not_comment : eqb b 35 ≡ false = grind arith in
    cond-false (eqb b 35) [] _ not_comment ∙ cond-true (is_blank b) (spans_of (at + 1) bs) _ h

paren_span : (at b : ℕ) (bs : List ℕ) → is_paren b ≡ true → spans_of at (b ∷ bs) ≡ (at, at + 1) ∷ spans_of (at + 1) bs
unfolding spans_of
paren_span at b bs h =
    let not_comment : eqb b 35 ≡ false = grind arith in
    let not_blank : is_blank b ≡ false = grind arith in
    let not_word : is_word b ≡ false = grind arith in
    fourth (eqb b 35) (is_blank b) (is_word b && begins_word bs) [] (spans_of (at + 1) bs) (begin_at at (spans_of (at + 1) bs)) ((at, at + 1) ∷ spans_of (at + 1) bs) not_comment not_blank (and_left (is_word b) (begins_word bs) not_word)

alone_span : (at b : ℕ) (bs : List ℕ) → is_word b ≡ true → begins_word bs ≡ false → spans_of at (b ∷ bs) ≡ (at, at + 1) ∷ spans_of (at + 1) bs
unfolding spans_of
alone_span at b bs h last =
    let w = word_parts b h in
    fourth (eqb b 35) (is_blank b) (is_word b && begins_word bs) [] (spans_of (at + 1) bs) (begin_at at (spans_of (at + 1) bs)) ((at, at + 1) ∷ spans_of (at + 1) bs) w.0 w.1 (and_right (is_word b) (begins_word bs) last)

joined_span : (at b : ℕ) (bs : List ℕ) → is_word b ≡ true → begins_word bs ≡ true → spans_of at (b ∷ bs) ≡ begin_at at (spans_of (at + 1) bs)
unfolding spans_of
joined_span at b bs h more =
    let w = word_parts b h in
    third (eqb b 35) (is_blank b) (is_word b && begins_word bs) [] (spans_of (at + 1) bs) (begin_at at (spans_of (at + 1) bs)) ((at, at + 1) ∷ spans_of (at + 1) bs) w.0 w.1 (and_from (is_word b) (begins_word bs) h more)

spans-nil : (at : ℕ) → spans_of at [] ≡ []
unfolding spans_of
spans-nil at = refl

-- a token of so many bytes stands first
abbrev First : ℕ → List ℕ → ℕ → Type 0
First at bs n = spans_of at bs ≡ (at, at + n) ∷ spans_of (at + n) (drop n bs)

further : (at n : ℕ) (bs : List ℕ) → (at, at + 1 + n) ∷ spans_of (at + 1 + n) bs ≡ (at, at + suc n) ∷ spans_of (at + suc n) bs
further at n bs =
    let same : at + 1 + n ≡ at + suc n = omega arith in
    ap (λ (k : ℕ). (at, k) ∷ spans_of k bs) same

word_span : (at b : ℕ) (bs : List ℕ) → is_word b ≡ true → First at (b ∷ bs) (word_at (b ∷ bs))
word_span at b [] h = subst (First at (b ∷ [])) (sym (more_at b [] h)) (alone_span at b [] h refl)
word_span at b (c ∷ cs) h =
    elim (cases_Bool (is_word c)) [
      | inl is ↦
          let again = word_span (at + 1) c cs is in
          subst (First at (b ∷ c ∷ cs)) (sym (more_at b (c ∷ cs) h)) (joined_span at b (c ∷ cs) h is ∙ ap (begin_at at) again ∙ further at (word_at (c ∷ cs)) (drop (word_at (c ∷ cs)) (c ∷ cs)))
      | inr isnt ↦
          subst (First at (b ∷ c ∷ cs)) (sym (more_at b (c ∷ cs) h ∙ ap suc (none_at c cs isnt))) (alone_span at b (c ∷ cs) h isnt)
    ]

-- ---- the same at a list of which only the first byte is known

at_comment : (at : ℕ) (bs : List ℕ) → get_or bs 0 0 ≡ 35 → spans_of at bs ≡ []
at_comment at [] h = spans-nil at
at_comment at (b ∷ bs) h = comment_span at b bs h

at_blank : (at : ℕ) (bs : List ℕ) → 0 < length bs → is_blank (get_or bs 0 0) ≡ true → spans_of at bs ≡ spans_of (at + 1) (drop 1 bs)
at_blank at [] some h = absurd (omega arith)
at_blank at (b ∷ bs) some h = blank_span at b bs h

at_paren : (at : ℕ) (bs : List ℕ) → is_paren (get_or bs 0 0) ≡ true → First at bs 1
at_paren at [] h = absurd cc
at_paren at (b ∷ bs) h = paren_span at b bs h

at_word : (at : ℕ) (bs : List ℕ) → 0 < length bs → is_word (get_or bs 0 0) ≡ true → First at bs (word_at bs)
at_word at [] some h = absurd (omega arith)
at_word at (b ∷ bs) some h = word_span at b bs h

-- ---- what stands from a place of a line on

pub located_comment : (line : List ℕ) (i at : ℕ) → get_or line i 0 ≡ 35 → spans_of (at + i) (drop i line) ≡ []
located_comment line i at h = at_comment (at + i) (drop i line) (get_or_drop line i 0 ∙ h)

pub located_blank : (line : List ℕ) (i at : ℕ) → i < length line → is_blank (get_or line i 0) ≡ true → spans_of (at + i) (drop i line) ≡ spans_of (at + (i + 1)) (drop (i + 1) line)
located_blank line i at lt h =
    let next : at + i + 1 ≡ at + (i + 1) = omega arith in
    at_blank (at + i) (drop i line) (some_left line i lt) (ap is_blank (get_or_drop line i 0) ∙ h) ∙ (λ j. spans_of (next j) (drop-drop 1 i line j))

-- from the front of what is left to the whole line
placed : (line : List ℕ) (i n at : ℕ) → First (at + i) (drop i line) n → spans_of (at + i) (drop i line) ≡ (at + i, at + (i + n)) ∷ spans_of (at + (i + n)) (drop (i + n) line)
placed line i n at h =
    let end : at + i + n ≡ at + (i + n) = omega arith in
    h ∙ (λ j. (at + i, end j) ∷ spans_of (end j) (drop-drop n i line j))

pub located_paren : (line : List ℕ) (i at : ℕ) → is_paren (get_or line i 0) ≡ true → spans_of (at + i) (drop i line) ≡ (at + i, at + (i + 1)) ∷ spans_of (at + (i + 1)) (drop (i + 1) line)
located_paren line i at h = placed line i 1 at (at_paren (at + i) (drop i line) (ap is_paren (get_or_drop line i 0) ∙ h))

pub located_word : (line : List ℕ) (i n at : ℕ) → i < length line → (get_or line i 0 ≡ 35 → ⊥) → is_paren (get_or line i 0) ≡ false → is_blank (get_or line i 0) ≡ false → n ≡ prefix_len is_word (take (length line - i) (drop i line)) → spans_of (at + i) (drop i line) ≡ (at + i, at + (i + n)) ∷ spans_of (at + (i + n)) (drop (i + n) line)
located_word line i n at lt h1 h2 h3 is =
    let rest = drop i line in
    let same : n ≡ word_at rest = is ∙ ap (prefix_len is_word) (take_rest line i) in
    placed line i n at (subst (First (at + i) rest) (sym same) (at_word (at + i) rest (some_left line i lt) (ap is_word (get_or_drop line i 0) ∙ word_is (get_or line i 0) h1 h2 h3)))

pub located_end : (line : List ℕ) (i at : ℕ) → length line ≤ i → spans_of (at + i) (drop i line) ≡ []
located_end line i at past = ap (spans_of (at + i)) (drop_all i line past) ∙ spans-nil (at + i)

-- ---- a line of a text

pub span_more : (text : List ℕ) (ts : List Token) (n at to s e : ℕ) (total : List Token) → at + e ≤ to → spans_of at (slice_range text at to) ≡ (at + s, at + e) ∷ spans_of (at + e) (drop e (slice_range text at to)) → ts ++ on_line n (spans_of at (slice_range text at to)) ≡ total → (ts ++ record { line = n; start = at + s; end = at + e } ∷ []) ++ on_line n (spans_of (at + e) (slice_range text (at + e) to)) ≡ total
span_more text ts n at to s e total within cut so_far =
    let t : Token = record { line = n; start = at + s; end = at + e } in
    append_assoc ts (t ∷ []) (on_line n (spans_of (at + e) (slice_range text (at + e) to)))
    ∙ sym (ap (λ (us : List (ℕ × ℕ)). ts ++ on_line n us) (cut ∙ ap (λ (line : List ℕ). (at + s, at + e) ∷ spans_of (at + e) line) (rest_of text at to e within)))
    ∙ so_far

pub span_end : (text : List ℕ) (ts : List Token) (n at to : ℕ) → spans_of at (slice_range text at to) ≡ [] → ts ++ on_line n (spans_of at (slice_range text at to)) ≡ ts
span_end text ts n at to none = ap (λ (us : List (ℕ × ℕ)). ts ++ on_line n us) none ∙ append-nil ts

-- ---- lines

-- the tokens of a line are pushed, and those of the lines behind it are left
pub lines_more : (old new : List Token) (n from to : ℕ) (line : List ℕ) (lines more : List (List ℕ)) (total : List Token) → lines ≡ line ∷ more → from + length line ≡ to → new ≡ old ++ on_line n (spans_of from line) → old ++ tokens_from from n lines ≡ total → new ++ tokens_from (to + 1) (n + 1) more ≡ total
unfolding tokens_from
lines_more old new n from to line lines more total cut width pushed so_far =
    ap (λ (ts : List Token). ts ++ tokens_from (to + 1) (n + 1) more) pushed
    ∙ append_assoc old (on_line n (spans_of from line)) (tokens_from (to + 1) (n + 1) more)
    ∙ sym (ap (λ (k : ℕ). old ++ (on_line n (spans_of from line) ++ tokens_from (k + 1) (n + 1) more)) width)
    ∙ sym (ap (λ (ls : List (List ℕ)). old ++ tokens_from from n ls) cut)
    ∙ so_far

pub lines_end : (ts : List Token) (n from : ℕ) (lines : List (List ℕ)) (total : List Token) → lines ≡ [] → ts ++ tokens_from from n lines ≡ total → ts ≡ total
unfolding tokens_from
lines_end ts n from lines total none so_far =
    sym (append-nil ts) ∙ sym (ap (λ (ls : List (List ℕ)). ts ++ tokens_from from n ls) none) ∙ so_far
