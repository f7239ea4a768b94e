-- What a shelf tells of its files and of the names that were asked for, and a sink of its bytes.
use Rattle.std.specs.Prelude.{ℕ, ◌≡◌, ◌<◌, List, ◌++◌, length, Option, Some, None}

-- the bytes of each name that has some, or nothing where a shelf doesn't tell
abbrev pub Told : Type 0
Told = Option (List ℕ → Option (List ℕ))

-- the name has these bytes, where the shelf tells
abbrev pub Has : Told → List ℕ → List ℕ → Type 0
Has None name bytes = Unit {0}
Has (Some files) name bytes = files name ≡ Some bytes

-- the shelf tells, and has no such name
abbrev pub IsAbsent : Told → List ℕ → Type 0
IsAbsent None name = ⊥
IsAbsent (Some files) name = files name ≡ None

-- the name has more bytes than the limit, where the shelf tells
abbrev pub IsLong : Told → List ℕ → ℕ → Type 0
IsLong None name limit = Unit {0}
IsLong (Some files) name limit = (bytes : List ℕ) × (files name ≡ Some bytes) × (limit < length bytes)

-- the names that were asked for grow by these; a shelf may stop telling them
abbrev pub Asks : Option (List (List ℕ)) → Option (List (List ℕ)) → List (List ℕ) → Type 0
Asks old None names = Unit {0}
Asks None (Some new) names = ⊥
Asks (Some old) (Some new) names = new ≡ old ++ names

-- what a sink holds after these bytes more, where it tells
abbrev pub after : Option (List ℕ) → List ℕ → Option (List ℕ)
after None bytes = None
after (Some old) bytes = Some (old ++ bytes)

-- some first part of the bytes was appended
abbrev pub AppendsPart : Option (List ℕ) → Option (List ℕ) → List ℕ → Type 0
AppendsPart old new bytes = (part rest : List ℕ) × (bytes ≡ part ++ rest) × (new ≡ after old part)

-- what a sink tells of its pieces, after these more
abbrev pub with_pieces : Option (List (List ℕ)) → List (List ℕ) → Option (List (List ℕ))
with_pieces None pieces = None
with_pieces (Some old) pieces = Some (old ++ pieces)
