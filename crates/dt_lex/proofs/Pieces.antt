-- Printed lines of which a piece may have blanks and parentheses: a piece is cut into its own tokens wherever it stands.
use Rattle.std.proofs.Common.{◌≡◌, ℕ, ◌≤◌, false, List, [], ◌∷◌, ◌++◌, length, refl, sym, ap, ◌∙◌, append_assoc}
use Rattle.std.proofs.lemmas.List.{append-nil}
use Rattle.dt_lex.specs.Text.{tokens_of, has_bad_byte, begins_word}
use Rattle.dt_lex.specs.Printing.{IsWord, spaced, body_of}
use Rattle.dt_lex.proofs.Cuts.{blank_skipped, paren_alone, tokens_nil}
use Rattle.dt_lex.proofs.Printed.{word_then, good_then, HasNoFeed, no_feed_append, no_feed_plain, IsLine}

abbrev Tokens : Type 0
Tokens = List (List ℕ)

-- ---- pieces

-- the bytes are these tokens, wherever no further word follows them directly
pub record IsPiece (p : List ℕ) (ts : Tokens) : Type 0 where
  pub cut : (rest : List ℕ) → begins_word rest ≡ false → tokens_of (p ++ rest) ≡ ts ++ tokens_of rest
  pub good : (rest : List ℕ) → has_bad_byte (p ++ rest) ≡ has_bad_byte rest
  pub no_feed : HasNoFeed p

pub word_piece : (t : List ℕ) → IsWord t → IsPiece t (t ∷ [])
word_piece t h = record {
  cut = λ rest stops. word_then t rest h.some h.plain stops;
  good = λ rest. good_then t rest h.plain;
  no_feed = no_feed_plain t h.plain;
}

-- pieces with a blank before each
pub record AreNext (ps : List (List ℕ)) (ts : Tokens) : Type 0 where
  pub cut : (rest : List ℕ) → begins_word rest ≡ false → tokens_of (spaced ps ++ rest) ≡ ts ++ tokens_of rest
  pub stops : (rest : List ℕ) → begins_word rest ≡ false → begins_word (spaced ps ++ rest) ≡ false
  pub good : (rest : List ℕ) → has_bad_byte (spaced ps ++ rest) ≡ has_bad_byte rest
  pub no_feed : HasNoFeed (spaced ps)

pub no_piece : AreNext [] []
no_piece = record { cut = λ rest stops. refl; stops = λ rest stops. stops; good = λ rest. refl; no_feed = tt }

good_blank : (xs : List ℕ) → has_bad_byte (32 ∷ xs) ≡ has_bad_byte xs
unfolding has_bad_byte
good_blank xs = refl

pub one_piece : (p : List ℕ) (ts : Tokens) (ps : List (List ℕ)) (us : Tokens) → IsPiece p ts → AreNext ps us → AreNext (p ∷ ps) (ts ++ us)
one_piece p ts ps us h k = record {
  cut = λ rest stops. ap (λ (xs : List ℕ). tokens_of (32 ∷ xs)) (append_assoc p (spaced ps) rest) ∙ blank_skipped 32 (p ++ (spaced ps ++ rest)) refl ∙ h.cut (spaced ps ++ rest) (k.stops rest stops) ∙ ap (λ (xs : Tokens). ts ++ xs) (k.cut rest stops) ∙ sym (append_assoc ts us (tokens_of rest));
  stops = λ rest stops. refl;
  good = λ rest. ap (λ (xs : List ℕ). has_bad_byte (32 ∷ xs)) (append_assoc p (spaced ps) rest) ∙ good_blank (p ++ (spaced ps ++ rest)) ∙ h.good (spaced ps ++ rest) ∙ k.good rest;
  no_feed = (refl, no_feed_append p (spaced ps) h.no_feed k.no_feed);
}

-- a piece, and further ones with a blank before each, are a piece
pub body_piece : (p : List ℕ) (ts : Tokens) (ps : List (List ℕ)) (us : Tokens) → IsPiece p ts → AreNext ps us → IsPiece (body_of (p ∷ ps)) (ts ++ us)
body_piece p ts ps us h k = record {
  cut = λ rest stops. ap tokens_of (append_assoc p (spaced ps) rest) ∙ h.cut (spaced ps ++ rest) (k.stops rest stops) ∙ ap (λ (xs : Tokens). ts ++ xs) (k.cut rest stops) ∙ sym (append_assoc ts us (tokens_of rest));
  good = λ rest. ap has_bad_byte (append_assoc p (spaced ps) rest) ∙ h.good (spaced ps ++ rest) ∙ k.good rest;
  no_feed = no_feed_append p (spaced ps) h.no_feed k.no_feed;
}

good_open : (xs : List ℕ) → has_bad_byte (40 ∷ xs) ≡ has_bad_byte xs
unfolding has_bad_byte
good_open xs = refl

good_close : (xs : List ℕ) → has_bad_byte (41 ∷ xs) ≡ has_bad_byte xs
unfolding has_bad_byte
good_close xs = refl

-- a piece in parentheses
pub paren_piece : (p : List ℕ) (ts : Tokens) → IsPiece p ts → IsPiece (40 ∷ (p ++ 41 ∷ [])) ((40 ∷ []) ∷ (ts ++ (41 ∷ []) ∷ []))
paren_piece p ts h = record {
  cut = λ rest stops. ap (λ (xs : List ℕ). tokens_of (40 ∷ xs)) (append_assoc p (41 ∷ []) rest) ∙ paren_alone 40 (p ++ 41 ∷ rest) refl ∙ ap (λ (us : Tokens). (40 ∷ []) ∷ us) (h.cut (41 ∷ rest) refl ∙ ap (λ (us : Tokens). ts ++ us) (paren_alone 41 rest refl) ∙ sym (append_assoc ts ((41 ∷ []) ∷ []) (tokens_of rest)));
  good = λ rest. ap (λ (xs : List ℕ). has_bad_byte (40 ∷ xs)) (append_assoc p (41 ∷ []) rest) ∙ good_open (p ++ 41 ∷ rest) ∙ h.good (41 ∷ rest) ∙ good_close rest;
  no_feed = (refl, no_feed_append p (41 ∷ []) h.no_feed (refl, tt));
}

-- ---- lines

good_nil : has_bad_byte [] ≡ false
unfolding has_bad_byte
good_nil = refl

pub line_piece : (p : List ℕ) (ts : Tokens) → IsPiece p ts → length p ≤ 16384 → IsLine p ts
line_piece p ts h short = record {
  tokens = ap tokens_of (sym (append-nil p)) ∙ h.cut [] refl ∙ ap (λ (us : Tokens). ts ++ us) tokens_nil ∙ append-nil ts;
  good = ap has_bad_byte (sym (append-nil p)) ∙ h.good [] ∙ good_nil;
  no_feed = h.no_feed;
  short = short;
}
