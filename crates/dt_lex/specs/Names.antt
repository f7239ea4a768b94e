-- Names: a lower-case letter, then lower-case letters, digits and underscores, 31 bytes at most.
use Rattle.std.specs.Prelude.{◌≡◌, ℕ, ◌-◌, ◌==◌, Bool, ◌&&◌, ◌||◌, nat_lt, nat_le, List, [], ◌++◌, length, Option, Some, None, take, replicate, slice_index, if◌then◌else◌}
use Rattle.std.specs.List.{list_all}
use Rattle.std.specs.Str.{bytes_eq}
use Rattle.dt_lex.specs.declared.name.Name.{Name}

abbrev pub is_lower : ℕ → Bool
is_lower b = nat_le 97 b && nat_le b 122

-- a byte that may stand in a name
abbrev pub goes_on : ℕ → Bool
goes_on b = is_lower b || (nat_le 48 b && nat_le b 57) || (b == 95)

-- the token spells a name; an empty one has no first byte
abbrev pub spells_name : List ℕ → Bool
spells_name t = is_lower (slice_index t 0) && list_all goes_on t && nat_lt (length t) 32

-- the name of these bytes, which are at most 31
abbrev pub padded_name : List ℕ → Name
padded_name t = record { bytes = t ++ replicate (31 - length t) 0; len = length t }

-- the name that a token spells
unfoldable pub name_of : List ℕ → Option Name
name_of t = if spells_name t then Some (padded_name t) else None

-- the bytes of a name
abbrev pub bytes_of : Name → List ℕ
bytes_of n = take n.len n.bytes

-- a name that a token can spell: its own bytes do
abbrev pub IsName : Name → Type 0
IsName n = name_of (bytes_of n) ≡ Some n

-- the two are one name
abbrev pub same_name : Name → Name → Bool
same_name m n = bytes_eq m.bytes n.bytes && m.len == n.len

-- no name: a value where one is only asked for
abbrev pub no_name : Name
no_name = record { bytes = []; len = 0 }
