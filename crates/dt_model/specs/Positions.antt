-- Where a name stands in a list of names.
use Rattle.std.specs.Prelude.{ℕ, List, Option, position}
use Rattle.dt_lex.specs.declared.name.Name.{Name}
use Rattle.dt_lex.specs.Names.{same_name}

-- the position of the first of the names that is this one
abbrev pub position_of : List Name → Name → Option ℕ
position_of names n = position (same_name n) names
