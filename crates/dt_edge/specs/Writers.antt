-- What a writer of the system took of some bytes.
use Rattle.std.specs.Prelude.{ℕ, ◌≡◌, List, ◌++◌, Option}
use Rattle.std.specs.Io.KnownBytes.{Appends}

-- some first part of the bytes was appended to what the writer holds, where that is known
abbrev pub AppendsFirst : Option (List ℕ) → Option (List ℕ) → List ℕ → Type 0
AppendsFirst old new bytes = (part rest : List ℕ) × (bytes ≡ part ++ rest) × Appends old new part
