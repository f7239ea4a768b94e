-- The files of a shelf in memory.
use Rattle.std.specs.Prelude.{ℕ, List, [], ◌∷◌, Option, Some, None, if◌then◌else◌}
use Rattle.std.specs.String.{string_bytes}
use Rattle.std.specs.Str.{bytes_eq}
use Rattle.dt_edge.specs.declared.memory_shelf.File.{File}

-- the bytes of the first file with this name
abbrev pub file_of : List File → List ℕ → Option (List ℕ)
file_of [] name = None
file_of (file ∷ files) name =
    if bytes_eq (string_bytes file.name) name then Some file.bytes.items else file_of files name
