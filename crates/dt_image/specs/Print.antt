-- The one printed text of an image.
use Rattle.std.specs.Prelude.{ℕ, List, [], ◌∷◌, ◌++◌, map, codes}
use Rattle.dt_lex.specs.Numeral.{decimal, hex}
use Rattle.dt_lex.specs.Printing.{text_of}
use Rattle.dt_image.specs.declared.image.Image.{Image}
use Rattle.dt_image.specs.declared.line.Line.{Line}
use Rattle.dt_image.specs.declared.line.Line.TheVariants.{Header, Tables, Context, Access, Word, End}

-- the tokens of a line
abbrev pub row_of : Line → List (List ℕ)
row_of Header = codes "image" ∷ codes "1" ∷ []
row_of (Tables lo hi) = codes "tables" ∷ hex lo ∷ hex hi ∷ []
row_of (Context vs) = codes "context" ∷ map hex vs
row_of (Access k vs) = codes "access" ∷ decimal k ∷ map hex vs
row_of (Word w) = codes "word" ∷ hex w.address ∷ hex w.value ∷ []
row_of End = codes "end" ∷ []

abbrev pub text_of_lines : List Line → List ℕ
text_of_lines ls = text_of (map row_of ls)

-- the contexts, then the accesses, then the words
abbrev pub lines_in : Image → List Line
lines_in i =
    Header ∷ Tables i.memory.lo i.memory.hi
    ∷ (map (λ vs. Context vs) i.contexts
    ++ (map (λ a. Access a.context a.inputs) i.accesses
    ++ (map (λ w. Word w) i.memory.words
    ++ End ∷ [])))

unfoldable pub printed : Image → List ℕ
printed i = text_of_lines (lines_in i)
