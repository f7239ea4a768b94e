-- Rows of tokens as text, with one blank between tokens.
use Rattle.std.specs.Prelude.{◌≡◌, ◌<◌, ◌≤◌, ◌==◌, ℕ, nat_lt, Bool, true, not, ◌&&◌, List, [], ◌∷◌, ◌++◌, length, map}
use Rattle.std.specs.List.{flat_map, list_all, AllByRecursion}
use Rattle.dt_lex.specs.declared.row.Piece.{Piece}
use Rattle.dt_lex.specs.declared.row.Piece.TheVariants.{Word, Decimal, Hex, Hexes}
use Rattle.dt_lex.specs.Text.{is_paren}
use Rattle.dt_lex.specs.Numeral.{decimal, hex}

-- printable, and no parenthesis and no comment's sign
abbrev pub is_plain : ℕ → Bool
is_plain b = nat_lt 32 b && nat_lt b 127 && not (is_paren b) && not (b == 35)

abbrev pub all_plain : List ℕ → Bool
all_plain bs = list_all is_plain bs

-- a token that is no parenthesis
pub record IsWord (t : List ℕ) : Type 0 where
  pub some : 0 < length t
  pub plain : all_plain t ≡ true

abbrev pub spaced : List (List ℕ) → List ℕ
spaced ts = flat_map (λ u. 32 ∷ u) ts

-- a line's bytes, without its line feed
abbrev pub body_of : List (List ℕ) → List ℕ
body_of [] = []
body_of (t ∷ ts) = t ++ spaced ts

abbrev pub row_text : List (List ℕ) → List ℕ
row_text row = body_of row ++ 10 ∷ []

abbrev pub text_of : List (List (List ℕ)) → List ℕ
text_of rows = flat_map row_text rows

-- a row of words that a line has room for
pub record IsRow (row : List (List ℕ)) : Type 0 where
  pub words : AllByRecursion IsWord row
  pub short : length (body_of row) ≤ 16384

-- the tokens of a piece of a row
abbrev pub piece_tokens : Piece → List (List ℕ)
piece_tokens (Word w) = w.now ∷ []
piece_tokens (Decimal n) = decimal n ∷ []
piece_tokens (Hex n) = hex n ∷ []
piece_tokens (Hexes ns) = map hex ns.now
