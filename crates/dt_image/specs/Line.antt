-- The lines of an image text, each by itself: what its tokens spell.
use Rattle.std.specs.Prelude.{ℕ, List, [], ◌∷◌, Option, Some, None, codes, if◌then◌else◌}
use Rattle.std.specs.Option.{option_map, option_and_then}
use Rattle.std.specs.Str.{bytes_eq}
use Rattle.dt_lex.specs.Numeral.{number_of}
use Rattle.dt_lex.specs.Frame.{is_alone, is_nothing, given}
use Rattle.dt_image.specs.declared.line.Line.{Line}
use Rattle.dt_image.specs.declared.line.Line.TheVariants.{Header, Tables, Context, Access, Word, End}

-- each token is a number
unfoldable pub numbers_of : List (List ℕ) → Option (List ℕ)
numbers_of [] = Some []
numbers_of (t ∷ ts) = option_and_then (λ n. option_map (λ ns. n ∷ ns) (numbers_of ts)) (number_of t)

abbrev pub two_of : List ℕ → Option (ℕ × ℕ)
two_of (a ∷ b ∷ []) = Some (a, b)
two_of _ = None

-- the tokens are two numbers
unfoldable pub pair_of : List (List ℕ) → Option (ℕ × ℕ)
pair_of ts = option_and_then two_of (numbers_of ts)

-- the first number is the position of a context
abbrev pub access_of : List ℕ → Option Line
access_of [] = None
access_of (k ∷ ns) = Some (Access k ns)

abbrev pub word_of : ℕ × ℕ → Line
word_of p = Word (record { address = p.0; value = p.1 })

-- the line that a first token and those after it spell
unfoldable pub spelled : List ℕ → List (List ℕ) → Option Line
spelled t ts =
    if bytes_eq t (codes "image") then given (is_alone (codes "1") ts) Header
    else (if bytes_eq t (codes "tables") then option_map (λ p. Tables p.0 p.1) (pair_of ts)
    else (if bytes_eq t (codes "context") then option_map (λ ns. Context ns) (numbers_of ts)
    else (if bytes_eq t (codes "access") then option_and_then access_of (numbers_of ts)
    else (if bytes_eq t (codes "word") then option_map word_of (pair_of ts)
    else (if bytes_eq t (codes "end") then given (is_nothing ts) End
    else None)))))
