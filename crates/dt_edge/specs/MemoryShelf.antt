-- What a shelf in memory is: its files, the calls that fail, its counts, and what its next call gives.
use Rattle.std.specs.Prelude.{ℕ, ◌≡◌, ◌+◌, List, length, Option, Some, None, Result, Ok, Err, Bool, true, if◌then◌else◌, is_ok, nat_lt, min, map, String}
use Rattle.std.specs.Option.{option_map}
use Rattle.std.specs.String.{string_bytes}
use Rattle.std.specs.Global.{Vec, Global}
use Rattle.dt_edge.specs.Causes.{is_listed}
use Rattle.dt_edge.specs.Files.{file_of}
use Rattle.dt_edge.specs.declared.edge.ShelfFault.{ShelfFault}
use Rattle.dt_edge.specs.declared.edge.ShelfFault.TheVariants.{Failed, TooLong, Memory}
use Rattle.dt_edge.specs.declared.memory_shelf.MemoryShelf.{MemoryShelf}

-- the bytes of each name that was put
abbrev pub files_of : MemoryShelf → List ℕ → Option (List ℕ)
files_of shelf = file_of shelf.files.items

-- the positions of the calls that fail
abbrev pub failing_of : MemoryShelf → List ℕ
failing_of shelf = shelf.failing.items

-- how many calls there were
abbrev pub calls_of : MemoryShelf → ℕ
calls_of shelf = shelf.calls

-- how many of them were listed
abbrev pub faults_of : MemoryShelf → ℕ
faults_of shelf = shelf.faults

-- how many bytes they took
abbrev pub taken_of : MemoryShelf → ℕ
taken_of shelf = shelf.taken

-- names in a list, where there is one
abbrev pub names_of : Option (Vec (String Global)) → Option (List (List ℕ))
names_of names = option_map (λ known. map string_bytes known.items) names

-- the names that were asked for, in order, until memory ran out for one
abbrev pub asked_of : MemoryShelf → Option (List (List ℕ))
asked_of shelf = names_of shelf.asked

-- whether the next call is listed
abbrev pub is_failing : MemoryShelf → Bool
is_failing shelf = is_listed (failing_of shelf) (calls_of shelf)

-- what a file gives under a limit
abbrev pub within : Option (List ℕ) → ℕ → Result (List ℕ) ShelfFault
within None limit = Err Failed
within (Some bytes) limit = if nat_lt limit (length bytes) then Err TooLong else Ok bytes

-- what the next call gives, where there is memory for it
abbrev pub read_of : MemoryShelf → List ℕ → ℕ → Result (List ℕ) ShelfFault
read_of shelf name limit = if is_failing shelf then Err Failed else within (files_of shelf name) limit

-- how many bytes of a file are taken under a limit: one more than the limit shows that it is too long
abbrev pub bytes_within : Option (List ℕ) → ℕ → ℕ
bytes_within None limit = 0
bytes_within (Some bytes) limit = min (length bytes) (limit + 1)

-- how many bytes the next call takes
abbrev pub taken_by : MemoryShelf → List ℕ → ℕ → ℕ
taken_by shelf name limit = if is_failing shelf then 0 else bytes_within (files_of shelf name) limit

-- a call gave this, or found no memory for the bytes
abbrev pub Gives : Result (Vec ℕ) ShelfFault → Result (List ℕ) ShelfFault → Type 0
Gives (Ok copy) read = read ≡ Ok copy.items
Gives (Err Memory) read = is_ok read ≡ true
Gives (Err fault) read = read ≡ Err fault
