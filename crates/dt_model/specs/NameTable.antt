-- Tables that find names where they stand in a list.
use Rattle.std.specs.Prelude.{◌≡◌, ℕ, List, Option}
use Rattle.indexmap.specs.IndexMap.{get}
use Rattle.dt_lex.specs.declared.name.Name.{Name}
use Rattle.dt_lex.specs.Names.{same_name}
use Rattle.dt_model.specs.Positions.{position_of}
use Rattle.dt_model.specs.declared.name_table.NameTable.{NameTable}

-- the position that a table gives
abbrev pub found_in : NameTable → Name → Option ℕ
found_in t n = get same_name t.places n

-- the table gives each name the position of the first of these names that is the same, and no position to others
abbrev pub Finds : NameTable → List Name → Type 0
Finds t names = (n : Name) → found_in t n ≡ position_of names n
