-- The first line of a text, and the first token of a line.
use Rattle.std.proofs.Common.{◌≡◌, ℕ, zero, suc, ◌+◌, ◌<◌, ◌≤◌, Bool, true, false, not, ◌&&◌, eqb, List, [], ◌∷◌, length, take, drop, get_or, refl, sym, ap, subst, ◌∙◌, arith, inl, inr}
use Rattle.std.specs.List.{prefix_len, position_or_len}
use Rattle.std.proofs.lemmas.Bool.{cases_Bool, and_from, and_left, and_right, cond-true, cond-false, eq-eqb, ne_eqb, not_from_false}
use Rattle.dt_lemmas.proofs.Booleans.{third, fourth}
use Rattle.dt_lex.specs.Text.{put_front, lines_of, is_blank, is_paren, is_word, begins_word, tokens_of}

one_more : (n : ℕ) → 1 + n ≡ suc n
one_more n = omega arith

pub is_feed : ℕ → Bool
is_feed b = eqb b 10

abbrev pub feed_at : List ℕ → ℕ
feed_at bs = position_or_len (λ b. eqb b 10) bs

pub lines_cut : (bs : List ℕ) → 0 < length bs → lines_of bs ≡ take (feed_at bs) bs ∷ lines_of (drop (feed_at bs + 1) bs)
unfolding lines_of
lines_cut [] h = absurd (omega arith)
lines_cut (b ∷ []) h =
    elim (cases_Bool (eqb b 10)) [ inl is ↦ rw is refl | inr isnt ↦ rw isnt refl ]
lines_cut (b ∷ c ∷ bs) h =
    let again = lines_cut (c ∷ bs) (omega arith) in
    elim (cases_Bool (eqb b 10)) [
      | inl is ↦ rw is refl
      | inr isnt ↦
          let p = feed_at (c ∷ bs) in
          let e : 1 + p + 1 ≡ suc (p + 1) = omega arith in
          rw (isnt, e, one_more p, again) refl
    ]

pub lines_nil : (bs : List ℕ) → length bs ≡ 0 → lines_of bs ≡ []
unfolding lines_of
lines_nil [] h = refl
lines_nil (b ∷ bs) h = absurd (omega arith)

-- a text's last line may have no line feed, and then nothing follows
pub lines_past : (n : ℕ) (bs : List ℕ) → length bs ≤ n → lines_of (drop n bs) ≡ []
unfolding lines_of
lines_past zero [] h = refl
lines_past zero (b ∷ bs) h = absurd (omega arith)
lines_past (suc n) [] h = refl
lines_past (suc n) (b ∷ bs) h = lines_past n bs (omega arith)

pub word_parts : (b : ℕ) → is_word b ≡ true → (eqb b 35 ≡ false) × (is_blank b ≡ false)
word_parts b h = grind arith

pub word_alone : (b : ℕ) (bs : List ℕ) → is_word b ≡ true → begins_word bs ≡ false → tokens_of (b ∷ bs) ≡ (b ∷ []) ∷ tokens_of bs
unfolding tokens_of
word_alone b bs h last =
    let w = word_parts b h in
    fourth (eqb b 35) (is_blank b) (is_word b && begins_word bs) [] (tokens_of bs) (put_front b (tokens_of bs)) ((b ∷ []) ∷ tokens_of bs) w.0 w.1 (and_right (is_word b) (begins_word bs) last)

pub word_joined : (b : ℕ) (bs : List ℕ) → is_word b ≡ true → begins_word bs ≡ true → tokens_of (b ∷ bs) ≡ put_front b (tokens_of bs)
unfolding tokens_of
word_joined b bs h more =
    let w = word_parts b h in
    third (eqb b 35) (is_blank b) (is_word b && begins_word bs) [] (tokens_of bs) (put_front b (tokens_of bs)) ((b ∷ []) ∷ tokens_of bs) w.0 w.1 (and_from (is_word b) (begins_word bs) h more)

abbrev pub word_at : List ℕ → ℕ
word_at bs = prefix_len is_word bs

pub more_at : (b : ℕ) (bs : List ℕ) → is_word b ≡ true → word_at (b ∷ bs) ≡ suc (word_at bs)
more_at b bs h = cond-true (is_word b) (1 + word_at bs) 0 h ∙ one_more (word_at bs)

pub none_at : (b : ℕ) (bs : List ℕ) → is_word b ≡ false → word_at (b ∷ bs) ≡ zero
none_at b bs h = cond-false (is_word b) (1 + word_at bs) 0 h

abbrev Cut : ℕ → List ℕ → ℕ → Type 0
Cut b bs n = tokens_of (b ∷ bs) ≡ take n (b ∷ bs) ∷ tokens_of (drop n (b ∷ bs))

pub word_cut : (b : ℕ) (bs : List ℕ) → is_word b ≡ true → Cut b bs (word_at (b ∷ bs))
word_cut b [] h = subst (Cut b []) (sym (more_at b [] h)) (word_alone b [] h refl)
word_cut b (c ∷ cs) h =
    elim (cases_Bool (is_word c)) [
      | inl is ↦
          let again = word_cut c cs is in
          subst (Cut b (c ∷ cs)) (sym (more_at b (c ∷ cs) h)) (word_joined b (c ∷ cs) h is ∙ ap (put_front b) again)
      | inr isnt ↦
          subst (Cut b (c ∷ cs)) (sym (more_at b (c ∷ cs) h ∙ ap suc (none_at c cs isnt))) (word_alone b (c ∷ cs) h isnt)
    ]

pub paren_alone : (b : ℕ) (bs : List ℕ) → is_paren b ≡ true → tokens_of (b ∷ bs) ≡ (b ∷ []) ∷ tokens_of bs
unfolding tokens_of
paren_alone b bs h =
    let not_comment : eqb b 35 ≡ false = grind arith in
    let not_blank : is_blank b ≡ false = grind arith in
    let not_word : is_word b ≡ false = grind arith in
    fourth (eqb b 35) (is_blank b) (is_word b && begins_word bs) [] (tokens_of bs) (put_front b (tokens_of bs)) ((b ∷ []) ∷ tokens_of bs) not_comment not_blank (and_left (is_word b) (begins_word bs) not_word)

pub blank_skipped : (b : ℕ) (bs : List ℕ) → is_blank b ≡ true → tokens_of (b ∷ bs) ≡ tokens_of bs
unfolding tokens_of
blank_skipped b bs h =
    let not_comment : eqb b 35 ≡ false = grind arith in
    cond-false (eqb b 35) [] _ not_comment ∙ cond-true (is_blank b) (tokens_of bs) _ h

pub comment_ends : (b : ℕ) (bs : List ℕ) → b ≡ 35 → tokens_of (b ∷ bs) ≡ []
unfolding tokens_of
comment_ends b bs h = cond-true (eqb b 35) [] _ (eq-eqb b 35 h)

pub tokens_nil : tokens_of [] ≡ []
unfolding tokens_of
tokens_nil = refl

-- the same at a list of which only the first byte is known

pub at_comment : (bs : List ℕ) → get_or bs 0 0 ≡ 35 → tokens_of bs ≡ []
at_comment [] h = tokens_nil
at_comment (b ∷ bs) h = comment_ends b bs h

pub at_blank : (bs : List ℕ) → is_blank (get_or bs 0 0) ≡ true → tokens_of bs ≡ tokens_of (drop 1 bs)
at_blank [] h = refl
at_blank (b ∷ bs) h = blank_skipped b bs h

pub at_paren : (bs : List ℕ) → is_paren (get_or bs 0 0) ≡ true → tokens_of bs ≡ take 1 bs ∷ tokens_of (drop 1 bs)
at_paren [] h = absurd cc
at_paren (b ∷ bs) h = paren_alone b bs h

pub at_word : (bs : List ℕ) → 0 < length bs → (get_or bs 0 0 ≡ 35 → ⊥) → is_paren (get_or bs 0 0) ≡ false → is_blank (get_or bs 0 0) ≡ false → tokens_of bs ≡ take (word_at bs) bs ∷ tokens_of (drop (word_at bs) bs)
at_word [] some h1 h2 h3 = absurd (omega arith)
at_word (b ∷ bs) some h1 h2 h3 =
    word_cut b bs (and_from (not (is_blank b) && not (is_paren b)) (not (eqb b 35)) (and_from (not (is_blank b)) (not (is_paren b)) (not_from_false _ h3) (not_from_false _ h2)) (not_from_false _ (ne_eqb b 35 h1)))

pub at_end : (bs : List ℕ) → length bs ≡ 0 → tokens_of bs ≡ []
at_end [] h = tokens_nil
at_end (b ∷ bs) h = absurd (omega arith)

pub at_line_end : (bs : List ℕ) (n : ℕ) → n ≡ feed_at bs → 0 < length bs → lines_of bs ≡ take n bs ∷ lines_of (drop (n + 1) bs)
at_line_end bs n e some = rw e (lines_cut bs some)

pub lines_last : (bs : List ℕ) (n : ℕ) → n ≡ feed_at bs → 0 < length bs → length bs ≤ n → lines_of bs ≡ take n bs ∷ lines_of (drop n bs)
lines_last bs n e some past =
    at_line_end bs n e some ∙ ap (λ (ls : List (List ℕ)). take n bs ∷ ls) (lines_past (n + 1) bs (omega arith) ∙ sym (lines_past n bs past))

length_put : (b : ℕ) (xss : List (List ℕ)) → length (put_front b xss) ≤ length xss + 1
length_put b [] = omega arith
length_put b (xs ∷ xss) = omega arith

-- no more lines than bytes
pub length-lines_of-le : (bs : List ℕ) → length (lines_of bs) ≤ length bs
unfolding lines_of
length-lines_of-le [] = omega arith
length-lines_of-le (b ∷ bs) =
    let more = length-lines_of-le bs in
    elim (cases_Bool (eqb b 10)) [
      | inl is ↦ rw is (omega arith)
      | inr isnt ↦ rw isnt (omega (arith, length_put b (lines_of bs)))
    ]
