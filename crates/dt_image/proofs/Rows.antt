-- A printed line is a short row of words, which spells the line again.
use Rattle.std.proofs.Common.{◌≡◌, ℕ, ◌^◌, ◌<◌, ◌≤◌, List, [], ◌∷◌, length, Option, Some, None, Ok, refl, ap, ◌∙◌, arith}
use Rattle.std.specs.Prelude.{map, codes}
use Rattle.std.specs.Option.{option_map, option_and_then}
use Rattle.std.specs.List.{AllByRecursion}
use Rattle.std.proofs.lemmas.List.{length-map, length-append}
use Rattle.dt_lex.specs.Numeral.{decimal, hex}
use Rattle.dt_lex.specs.Printing.{body_of, spaced, IsWord, IsRow}
use Rattle.dt_lex.specs.Reading.{◌>>=◌, with_place, row_entry}
use Rattle.dt_lex.proofs.Printed.{number_of-hex, number_of-decimal, IsWord-hex, IsWord-decimal, length-hex-le, length-decimal-le, spaced_le}
use Rattle.dt_model.specs.ModelData.{ModelData}
use Rattle.dt_image.specs.declared.draft.Draft.{Draft}
use Rattle.dt_image.specs.declared.line.Line.{Line}
use Rattle.dt_image.specs.declared.line.Line.TheVariants.{Header, Tables, Context, Access, Word, End}
use Rattle.dt_image.specs.Line.{numbers_of, pair_of, two_of, access_of, word_of, spelled}
use Rattle.dt_image.specs.declared.entry.Entry.{Entry}
use Rattle.dt_image.specs.Fault.{at_line}
use Rattle.dt_image.specs.Entry.{meaning}
use Rattle.dt_image.specs.Read.{grammar}
use Rattle.dt_image.specs.Print.{row_of}

-- ---- one line

abbrev pub AllBelow : List ℕ → Type 0
AllBelow vs = AllByRecursion (λ v. v < 2 ^ 128) vs

-- the numbers of a line are below 2 ^ 128, and there are few
abbrev pub IsSmall : Line → Type 0
IsSmall Header = Unit {0}
IsSmall (Tables lo hi) = (lo < 2 ^ 128) × (hi < 2 ^ 128)
IsSmall (Context vs) = AllBelow vs × (length vs ≤ 32)
IsSmall (Access k vs) = (k < 2 ^ 128) × AllBelow vs × (length vs ≤ 16)
IsSmall (Word w) = (w.address < 2 ^ 128) × (w.value < 2 ^ 128)
IsSmall End = Unit {0}

pub numbers_hex : (vs : List ℕ) → AllBelow vs → numbers_of (map hex vs) ≡ Some vs
unfolding numbers_of
numbers_hex [] h = refl
numbers_hex (v ∷ vs) h = rw (number_of-hex v h.0, numbers_hex vs h.1) refl

pub pair_hex : (a b : ℕ) → a < 2 ^ 128 → b < 2 ^ 128 → pair_of (hex a ∷ hex b ∷ []) ≡ Some (a, b)
unfolding pair_of
pair_hex a b h k = ap (option_and_then two_of) (numbers_hex (a ∷ b ∷ []) (h, (k, tt)))

pub access_hex : (k : ℕ) (vs : List ℕ) → k < 2 ^ 128 → AllBelow vs → numbers_of (decimal k ∷ map hex vs) ≡ Some (k ∷ vs)
unfolding numbers_of
access_hex k vs h hs = rw (number_of-decimal k h, numbers_hex vs hs) refl

abbrev pub spelled_row : List (List ℕ) → Option Line
spelled_row [] = None
spelled_row (t ∷ ts) = spelled t ts

pub spelled_again : (l : Line) → IsSmall l → spelled_row (row_of l) ≡ Some l
unfolding spelled
spelled_again Header h = refl
spelled_again (Tables lo hi) h = ap (option_map (λ (p : ℕ × ℕ). Tables p.0 p.1)) (pair_hex lo hi h.0 h.1)
spelled_again (Context vs) h = ap (option_map (λ (ns : List ℕ). Context ns)) (numbers_hex vs h.0)
spelled_again (Access k vs) h = ap (option_and_then access_of) (access_hex k vs h.0 h.1)
spelled_again (Word w) h = ap (option_map word_of) (pair_hex w.address w.value h.0 h.1)
spelled_again End h = refl

pub row_is : (m : ModelData) (n : ℕ) (d : Draft) (l : Line) → row_entry (grammar m) n d (row_of l) ≡ (with_place (at_line n) (meaning m d (spelled_row (row_of l))) >>= λ e. Ok (Some e))
row_is m n d Header = refl
row_is m n d (Tables lo hi) = refl
row_is m n d (Context vs) = refl
row_is m n d (Access k vs) = refl
row_is m n d (Word w) = refl
row_is m n d End = refl

pub row_again : (m : ModelData) (n : ℕ) (d : Draft) (l : Line) (e : Entry) → IsSmall l → meaning m d (Some l) ≡ Ok e → row_entry (grammar m) n d (row_of l) ≡ Ok (Some e)
row_again m n d l e small good =
    row_is m n d l ∙ ap (λ (o : Option Line). with_place (at_line n) (meaning m d o) >>= λ e. Ok (Some e)) (spelled_again l small) ∙ ap (λ r. with_place (at_line n) r >>= λ e. Ok (Some e)) good

-- ---- a line is a short row of words

pub hex_words : (vs : List ℕ) → AllByRecursion IsWord (map hex vs)
hex_words [] = tt
hex_words (v ∷ vs) = (IsWord-hex v, hex_words vs)

pub hex_short : (vs : List ℕ) → AllBelow vs → AllByRecursion (λ t. length t ≤ 39) (map hex vs)
hex_short [] h = tt
hex_short (v ∷ vs) h = (omega (arith, length-hex-le v h.0), hex_short vs h.1)

abbrev pub AreShort : List (List ℕ) → Type 0
AreShort ts = AllByRecursion (λ t. length t ≤ 39) ts

pub row_short : (t : List ℕ) (ts : List (List ℕ)) → length t ≤ 7 → AreShort ts → length ts ≤ 33 → length (body_of (t ∷ ts)) ≤ 16384
row_short t ts first h few = omega (arith, length-append t (spaced ts), spaced_le 39 ts h)

pub row_ok : (l : Line) → IsSmall l → IsRow (row_of l)
row_ok Header h = record { words = (record { some = omega arith; plain = refl }, (record { some = omega arith; plain = refl }, tt)); short = omega arith }
row_ok (Tables lo hi) h = record { words = (record { some = omega arith; plain = refl }, hex_words (lo ∷ hi ∷ [])); short = row_short (codes "tables") (hex lo ∷ hex hi ∷ []) (omega arith) (hex_short (lo ∷ hi ∷ []) (h.0, (h.1, tt))) (omega arith) }
row_ok (Context vs) h = record { words = (record { some = omega arith; plain = refl }, hex_words vs); short = row_short (codes "context") (map hex vs) (omega arith) (hex_short vs h.0) (omega (arith, h.1, length-map vs hex)) }
row_ok (Access k vs) h = record { words = (record { some = omega arith; plain = refl }, (IsWord-decimal k, hex_words vs)); short = row_short (codes "access") (decimal k ∷ map hex vs) (omega arith) (length-decimal-le k h.0, hex_short vs h.1) (omega (arith, h.2, length-map vs hex)) }
row_ok (Word w) h = record { words = (record { some = omega arith; plain = refl }, hex_words (w.address ∷ w.value ∷ [])); short = row_short (codes "word") (hex w.address ∷ hex w.value ∷ []) (omega arith) (hex_short (w.address ∷ w.value ∷ []) (h.0, (h.1, tt))) (omega arith) }
row_ok End h = record { words = (record { some = omega arith; plain = refl }, tt); short = omega arith }
