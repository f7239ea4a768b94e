-- What the lines of a log's text declare, and what one more adds to it.
use Rattle.std.specs.Prelude.{ℕ, List, [], ◌∷◌, ◌++◌, map}
use Rattle.std.specs.List.{flat_map}
use Rattle.dt_lex.specs.Reading.{last_of}
use Rattle.dt_log.specs.declared.line.Line.{Line}
use Rattle.dt_log.specs.declared.line.Claim.{Claim as LogClaim}
use Rattle.dt_log.specs.declared.line.Claim.TheVariants.{Impossible}
use Rattle.dt_log.specs.declared.entry.Entry.{Entry}
use Rattle.dt_log.specs.declared.entry.Entry.TheVariants.{Claim, Item, End}
use Rattle.dt_log.specs.declared.written.Written.{Written}

-- the place of the text behind a line
abbrev pub place_behind : Entry → ℕ
place_behind (Claim c) = 1
place_behind (Item l) = 2
place_behind End = 3

abbrev pub claims_in : Entry → List LogClaim
claims_in (Claim c) = c ∷ []
claims_in _ = []

abbrev pub items_in : Entry → List Line
items_in (Item l) = l ∷ []
items_in _ = []

-- the place behind the last line, the claim, and the items in their order
unfoldable pub declared : List Entry → Written
declared es = record {
  place = last_of 0 (map place_behind es);
  claim = last_of Impossible (flat_map claims_in es);
  lines = flat_map items_in es;
}

-- what no line declares
abbrev pub nothing : Written
nothing = record { place = 0; claim = Impossible; lines = [] }

-- what is declared with one more line
abbrev pub added : Written → Entry → Written
added w (Claim c) = record w { place = 1; claim = c }
added w (Item l) = record w { place = 2; lines = w.lines ++ l ∷ [] }
added w End = record w { place = 3 }
