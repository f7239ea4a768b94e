-- The one printed text of a log.
use Rattle.std.specs.Prelude.{ℕ, List, [], ◌∷◌, ◌++◌, map, codes}
use Rattle.dt_lex.specs.Numeral.{decimal, hex}
use Rattle.dt_lex.specs.Printing.{text_of}
use Rattle.dt_log.specs.declared.line.Line.{Line}
use Rattle.dt_log.specs.declared.line.Line.TheVariants.{Forward, Backward, Try, Split, Close, Loose, Unvisited}
use Rattle.dt_log.specs.declared.line.Claim.TheVariants.{Impossible, Budget}
use Rattle.dt_log.specs.declared.entry.Entry.{Entry}
use Rattle.dt_log.specs.declared.entry.Entry.TheVariants.{Claim, Item, End}
use Rattle.dt_log.specs.Read.{LogData}

-- the tokens of a line
abbrev pub row_of : Entry → List (List ℕ)
row_of (Claim Impossible) = codes "impossible" ∷ []
row_of (Claim (Budget n)) = codes "budget" ∷ decimal n ∷ []
row_of (Item (Forward t)) = codes "forward" ∷ decimal t ∷ []
row_of (Item (Backward p k)) = codes "backward" ∷ decimal p ∷ decimal k ∷ []
row_of (Item (Try c v)) = codes "try" ∷ decimal c ∷ hex v ∷ []
row_of (Item (Split t i)) = codes "split" ∷ decimal t ∷ decimal i ∷ []
row_of (Item (Close t)) = codes "close" ∷ decimal t ∷ []
row_of (Item Loose) = codes "open" ∷ []
row_of (Item Unvisited) = codes "unvisited" ∷ []
row_of End = codes "end" ∷ []

abbrev pub text_of_entries : List Entry → List ℕ
text_of_entries es = text_of (map row_of es)

-- the claim, then the items, then the end
abbrev pub entries_in : LogData → List Entry
entries_in log = Claim log.0 ∷ (map (λ (l : Line). Item l) log.1 ++ End ∷ [])

unfoldable pub printed : LogData → List ℕ
printed log = text_of_entries (entries_in log)
