-- What a call sees and leaves of its shelf.
use Rattle.std.specs.Prelude.{ℕ, ◌≡◌, ◌+◌, ◌≤◌, ◌⊎◌, List, [], ◌∷◌, ◌++◌, length, map, Option}
use Rattle.dt_edge.specs.Causes.{Rose, RoseBy}
use Rattle.dt_edge.specs.Told.{Told, Has, IsAbsent, IsLong, Asks}
use Rattle.dt_top.specs.Course.{FileRead}
use Rattle.dt_top.specs.Files.{limit_of}
use Rattle.dt_model.specs.ModelData.{ModelData}
use Rattle.dt_request.specs.declared.list.Requests.{Requests}
use Rattle.dt_top.specs.Models.{ModelAsked, IsModelOf}
use Rattle.dt_top.specs.Stages.{IsRequests}
use Rattle.dt_top.specs.declared.file.File.{File}
use Rattle.dt_top.specs.declared.file.File.TheVariants as file

-- what a call saw of its shelf: the files that it tells, and its counts and the names asked for before and after
pub record Seen : Type 0 where
  pub told : Told
  pub faults : ℕ
  pub faults_after : ℕ
  pub taken : ℕ
  pub taken_after : ℕ
  pub names : Option (List (List ℕ))
  pub names_after : Option (List (List ℕ))

abbrev pub seen : {S : Type 0} → (S → Told) → (S → ℕ) → (S → ℕ) → (S → Option (List (List ℕ))) → S → S → Seen
seen told faults taken asked old new = record {
  told = told old;
  faults = faults old;
  faults_after = faults new;
  taken = taken old;
  taken_after = taken new;
  names = asked old;
  names_after = asked new;
}

-- what is told of a shelf stays, its counts never fall, and a steady one stays so and counts no fault
pub record StaysShelf {S : Type 0} (t : S → Told) (f g : S → ℕ) (s : S → Type 0) (old new : S) : Type 0 where
  pub told : t new ≡ t old
  pub faults : f old ≤ f new
  pub taken : g old ≤ g new
  pub steady : s old → s new
  pub unfailing : s old → f new ≡ f old

-- no read failed
abbrev pub IsQuiet : Seen → Type 0
IsQuiet s = s.faults_after ≡ s.faults

-- a read failed, or the shelf tells its files and has no such name
abbrev pub IsUnread : Seen → List ℕ → Type 0
IsUnread s name = Rose s.faults s.faults_after ⊎ IsAbsent s.told name

-- more bytes than the limit were taken, and where the shelf tells its files, the name has more
abbrev pub IsTooLong : Seen → File → List ℕ → Type 0
IsTooLong s file name = IsLong s.told name (limit_of file) × RoseBy (limit_of file + 1) s.taken s.taken_after

-- each file has its bytes, where the shelf tells
abbrev pub HasAll : Told → List FileRead → Type 0
HasAll told [] = Unit {0}
HasAll told (file ∷ files) = Has told file.name file.bytes × HasAll told files

abbrev pub names_of : List FileRead → List (List ℕ)
names_of files = map (λ file. file.name) files

-- these names were asked for, in order, and no others
abbrev pub AsksThese : Seen → List (List ℕ) → Type 0
AsksThese s names = Asks s.names s.names_after names

-- the first of these names were asked for, in order, and no others
abbrev pub AsksFirst : Seen → List (List ℕ) → Type 0
AsksFirst s names = (first rest : List (List ℕ)) × (names ≡ first ++ rest) × AsksThese s first

-- a file was read, and nothing else happened
pub record Took (s : Seen) (file : File) (name bytes : List ℕ) : Type 0 where
  pub has : Has s.told name bytes
  pub within : length bytes ≤ limit_of file
  pub asks : AsksThese s (name ∷ [])
  pub quiet : IsQuiet s

-- a model was found, and nothing else happened but the read of its file
pub record TookModel (s : Seen) (model : ModelAsked) (d : ModelData) : Type 0 where
  pub given : List FileRead
  pub has : HasAll s.told given
  pub asks : AsksThese s (names_of given)
  pub quiet : IsQuiet s
  pub found : IsModelOf model given d

-- a model and a list for it were found, and nothing else happened but the reads of their files
pub record TookBoth (s : Seen) (model : ModelAsked) (requests : List ℕ) (d : ModelData) (list : Requests) : Type 0 where
  pub given : List FileRead
  pub text : List ℕ
  pub has : HasAll s.told (given ++ record { name = requests; bytes = text } ∷ [])
  pub within : length text ≤ limit_of file.Requests
  pub asks : AsksThese s (names_of given ++ requests ∷ [])
  pub quiet : IsQuiet s
  pub found : IsModelOf model given d
  pub spelled : IsRequests d text list
