-- The first token of what stands from a place on.
use Rattle.std.proofs.Common.{◌≡◌, ℕ, ◌+◌, ◌-◌, ◌<◌, ◌≤◌, true, false, not, ◌&&◌, eqb, List, [], ◌∷◌, length, take, drop, get_or, refl, sym, ap, ◌∙◌, subst, arith, length-drop}
use Rattle.std.specs.Prelude.{slice_range}
use Rattle.std.specs.List.{prefix_len}
use Rattle.std.proofs.lemmas.List.{drop-drop, drop_all, take_rest}
use Rattle.std.proofs.lemmas.Bool.{and_from, not_from_false, ne_eqb, cond-true}
use Rattle.dt_lemmas.proofs.Lists.{get_or_drop}
use Rattle.dt_lex.specs.Text.{tokens_of, is_blank, is_paren, is_word}
use Rattle.dt_lex.proofs.Cuts.{at_comment, at_blank, at_paren, at_word, tokens_nil}

pub comment_at : (line : List ℕ) (i : ℕ) → i < length line → get_or line i 0 ≡ 35 → tokens_of (drop i line) ≡ []
comment_at line i lt h = at_comment (drop i line) (get_or_drop line i 0 ∙ h)

pub blank_at : (line : List ℕ) (i : ℕ) → i < length line → is_blank (get_or line i 0) ≡ true → tokens_of (drop i line) ≡ tokens_of (drop (i + 1) line)
blank_at line i lt h = at_blank (drop i line) (ap is_blank (get_or_drop line i 0) ∙ h) ∙ ap tokens_of (drop-drop 1 i line)

pub cut_at : (line : List ℕ) (i n e : ℕ) → e ≡ i + n → tokens_of (drop i line) ≡ take n (drop i line) ∷ tokens_of (drop n (drop i line)) → tokens_of (drop i line) ≡ slice_range line i e ∷ tokens_of (drop e line)
cut_at line i n e is h =
    let width : n ≡ e - i = omega arith in
    h ∙ (λ j. take (width j) (drop i line) ∷ tokens_of ((drop-drop n i line ∙ ap (λ (k : ℕ). drop k line) (sym is)) j))

pub paren_at : (line : List ℕ) (i : ℕ) → i < length line → is_paren (get_or line i 0) ≡ true → tokens_of (drop i line) ≡ slice_range line i (i + 1) ∷ tokens_of (drop (i + 1) line)
paren_at line i lt h = cut_at line i 1 (i + 1) refl (at_paren (drop i line) (ap is_paren (get_or_drop line i 0) ∙ h))

pub word_is : (b : ℕ) → (b ≡ 35 → ⊥) → is_paren b ≡ false → is_blank b ≡ false → is_word b ≡ true
word_is b h1 h2 h3 = and_from (not (is_blank b) && not (is_paren b)) (not (eqb b 35)) (and_from (not (is_blank b)) (not (is_paren b)) (not_from_false _ h3) (not_from_false _ h2)) (not_from_false _ (ne_eqb b 35 h1))

positive : (bs : List ℕ) → 0 < length bs → is_word (get_or bs 0 0) ≡ true → 0 < prefix_len is_word bs
positive [] some h = absurd (omega arith)
positive (b ∷ bs) some h = omega (arith, cond-true (is_word b) (1 + prefix_len is_word bs) 0 h)

pub word_from : (line : List ℕ) (i n : ℕ) → i < length line → (get_or line i 0 ≡ 35 → ⊥) → is_paren (get_or line i 0) ≡ false → is_blank (get_or line i 0) ≡ false → n ≡ prefix_len is_word (take (length line - i) (drop i line)) → (tokens_of (drop i line) ≡ slice_range line i (i + n) ∷ tokens_of (drop (i + n) line)) × (0 < n)
word_from line i n lt h1 h2 h3 is =
    let rest = drop i line in
    let first = get_or_drop line i 0 in
    let long : 0 < length rest = omega (arith, length-drop i line) in
    let same : n ≡ prefix_len is_word rest = is ∙ ap (prefix_len is_word) (take_rest line i) in
    let P : ℕ → Type 0 = λ m. (tokens_of rest ≡ take m rest ∷ tokens_of (drop m rest)) × (0 < m) in
    let at : P (prefix_len is_word rest) = (at_word rest long (λ e. h1 (sym first ∙ e)) (ap is_paren first ∙ h2) (ap is_blank first ∙ h3), positive rest long (ap is_word first ∙ word_is (get_or line i 0) h1 h2 h3)) in
    let both : P n = subst P (sym same) at in
    (cut_at line i n (i + n) refl both.0, both.1)

pub end_at : (line : List ℕ) (i : ℕ) → length line ≤ i → tokens_of (drop i line) ≡ []
end_at line i past = ap tokens_of (drop_all i line past) ∙ tokens_nil
