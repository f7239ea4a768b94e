-- Lines, their tokens, and what is wrong with a line's bytes.
use Rattle.std.specs.Prelude.{ℕ, ◌==◌, Bool, false, not, ◌&&◌, ◌||◌, nat_lt, nat_le, List, [], ◌∷◌, length, Option, Some, None, if◌then◌else◌}
use Rattle.dt_lex.specs.declared.fault.LexFault.{LexFault}
use Rattle.dt_lex.specs.declared.fault.LexFault.TheVariants.{LineTooLong, BadByte}

-- b in front of the first of the lists
abbrev pub put_front : ℕ → List (List ℕ) → List (List ℕ)
put_front b [] = (b ∷ []) ∷ []
put_front b (xs ∷ xss) = (b ∷ xs) ∷ xss

-- the bytes up to each line feed; a last piece without one is a line where it isn't empty
unfoldable pub lines_of : List ℕ → List (List ℕ)
lines_of [] = []
lines_of (b ∷ bs) = if b == 10 then [] ∷ lines_of bs else put_front b (lines_of bs)

abbrev pub is_blank : ℕ → Bool
is_blank b = (b == 32) || (b == 9) || (b == 13)

abbrev pub is_paren : ℕ → Bool
is_paren b = (b == 40) || (b == 41)

abbrev pub is_word : ℕ → Bool
is_word b = not (is_blank b) && not (is_paren b) && not (b == 35)

abbrev pub begins_word : List ℕ → Bool
begins_word [] = false
begins_word (b ∷ bs) = is_word b

-- the tokens before a comment: parentheses by themselves, and the longest runs of other bytes that aren't blank
unfoldable pub tokens_of : List ℕ → List (List ℕ)
tokens_of [] = []
tokens_of (b ∷ bs) =
    if b == 35 then []
    else (if is_blank b then tokens_of bs
    else (if is_word b && begins_word bs then put_front b (tokens_of bs)
    else (b ∷ []) ∷ tokens_of bs))

-- neither printable ASCII nor a blank
abbrev pub is_bad : ℕ → Bool
is_bad b = not ((b == 9) || (b == 13) || (nat_le 32 b && nat_lt b 127))

-- a bad byte stands before a comment
unfoldable pub has_bad_byte : List ℕ → Bool
has_bad_byte [] = false
has_bad_byte (b ∷ bs) = if b == 35 then false else (is_bad b || has_bad_byte bs)

-- what is wrong with the bytes of the n-th line
abbrev pub fault_of : ℕ → List ℕ → Option LexFault
fault_of n line = if nat_lt 16384 (length line) then Some (LineTooLong n) else (if has_bad_byte line then Some (BadByte n) else None)
