-- What a word of a command may be: a file's name, or a number.
use Rattle.std.specs.Prelude.{ℕ, ◌^◌, List, [], ◌∷◌, Option, Some, None, Bool, false, not, ◌==◌, nat_lt, if◌then◌else◌}
use Rattle.std.specs.Option.{option_and_then}
use Rattle.dt_lex.specs.Numeral.{number_of}

-- a file's name isn't empty, and doesn't begin with @
abbrev pub is_file_name : List ℕ → Bool
is_file_name [] = false
is_file_name (b ∷ bytes) = not (b == 64)

-- a number below 2^64
abbrev pub word_number : List ℕ → Option ℕ
word_number word = option_and_then (λ n. if nat_lt n (2 ^ 64) then Some n else None) (number_of word)
