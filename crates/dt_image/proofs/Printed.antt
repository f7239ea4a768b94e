-- Lines printed one after the other.
use Rattle.std.proofs.Common.{◌≡◌, ℕ, ◌+◌, ◌<◌, List, [], ◌∷◌, ◌++◌, length, take, get_or, ap, ◌∙◌}
use Rattle.std.specs.Prelude.{map}
use Rattle.std.proofs.lemmas.List.{map-append, map_push, append-nil, take_more}
use Rattle.std.proofs.lemmas.List.Concat.{flat_map-append}
use Rattle.dt_lex.specs.Numeral.{hex}
use Rattle.dt_lex.specs.Printing.{row_text, text_of}
use Rattle.dt_image.specs.declared.image.Image.{Image}
use Rattle.dt_image.specs.declared.line.Line.{Line}
use Rattle.dt_image.specs.declared.line.Line.TheVariants.{Header, Tables, Context, Access, Word, End}
use Rattle.dt_image.specs.Print.{row_of, text_of_lines, printed}

-- numbers that end a row
pub hexes_last : (ns : List ℕ) → map hex ns ++ [] ≡ map hex ns
hexes_last ns = append-nil (map hex ns)

text_of_lines-append : (xs ys : List Line) → text_of_lines (xs ++ ys) ≡ text_of_lines xs ++ text_of_lines ys
text_of_lines-append xs ys = ap text_of (map-append row_of xs ys) ∙ flat_map-append row_text (map row_of xs) (map row_of ys)

text_of_lines_push : (xs : List Line) (l : Line) → text_of_lines (xs ++ l ∷ []) ≡ text_of_lines xs ++ row_text (row_of l)
text_of_lines_push xs l = text_of_lines-append xs (l ∷ []) ∙ ap (λ (t : List ℕ). text_of_lines xs ++ t) (append-nil (row_text (row_of l)))

-- the line of one more element
pub lines_more : {X : Type 0} (line : X → Line) (xs : List X) (i : ℕ) (d : X) → i < length xs → text_of_lines (map line (take (i + 1) xs)) ≡ text_of_lines (map line (take i xs)) ++ row_text (row_of (line (get_or xs i d)))
lines_more {X = X} line xs i d lt =
    ap (λ (ys : List X). text_of_lines (map line ys)) (take_more xs i d lt) ∙ ap text_of_lines (map_push line (take i xs) (get_or xs i d)) ∙ text_of_lines_push (map line (take i xs)) (line (get_or xs i d))

blocks_are : (xs ys zs : List Line) → text_of_lines (xs ++ (ys ++ (zs ++ End ∷ []))) ≡ text_of_lines xs ++ (text_of_lines ys ++ (text_of_lines zs ++ row_text (row_of End)))
blocks_are xs ys zs =
    text_of_lines-append xs (ys ++ (zs ++ End ∷ []))
    ∙ ap (λ (t : List ℕ). text_of_lines xs ++ t) (text_of_lines-append ys (zs ++ End ∷ []) ∙ ap (λ (t : List ℕ). text_of_lines ys ++ t) (text_of_lines-append zs (End ∷ [])))

pub printed_is : (i : Image) → printed i ≡ row_text (row_of Header) ++ (row_text (row_of (Tables i.memory.lo i.memory.hi)) ++ (text_of_lines (map (λ vs. Context vs) i.contexts) ++ (text_of_lines (map (λ a. Access a.context a.inputs) i.accesses) ++ (text_of_lines (map (λ w. Word w) i.memory.words) ++ row_text (row_of End)))))
unfolding printed
printed_is i =
    ap (λ (t : List ℕ). row_text (row_of Header) ++ (row_text (row_of (Tables i.memory.lo i.memory.hi)) ++ t)) (blocks_are (map (λ vs. Context vs) i.contexts) (map (λ a. Access a.context a.inputs) i.accesses) (map (λ w. Word w) i.memory.words))
