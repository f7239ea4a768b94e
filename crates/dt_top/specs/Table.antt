-- Which status comes with which text: one table, read for a call and for files that are told.
use Rattle.std.specs.Prelude.{ℕ, ◌≡◌, ◌<◌, ◌⊎◌, List, [], ◌∷◌, ◌++◌, length, Option, Some, None, codes}
use Rattle.dt_edge.specs.Told.{IsLong, after, with_pieces, AppendsPart}
use Rattle.dt_top.specs.Pieces.{pieces_of}
use Rattle.dt_top.specs.Course.{FileRead, Outcome, answers, needs}
use Rattle.dt_top.specs.Files.{limit_of}
use Rattle.dt_top.specs.Lines.{read_fault_line, too_long_line}
use Rattle.dt_top.specs.Seen.{Seen, IsQuiet, IsUnread, IsTooLong, HasAll, names_of, AsksThese, AsksFirst}
use Rattle.dt_top.specs.commands.Jobs.{Job, solve, load, job_of, files_of, Doing}
use Rattle.dt_top.specs.declared.file.File.{File}
use Rattle.dt_top.specs.declared.status.Status.{Status}
use Rattle.dt_top.specs.declared.status.Status.TheVariants as status

-- ---- the table

-- what is known of the reads that a course makes
pub record Outside : Type 1 where
  -- these files were read and no others, and no read failed
  pub gave : List FileRead → Type 0
  -- after these files the one of this name couldn't be read
  pub failed : List FileRead → List ℕ → Type 0
  -- after these files the one of this name was too long
  pub long : List FileRead → File → List ℕ → Type 0
  -- memory may have run out
  pub wanted : Type 0

-- A course comes to this status and this text: the next file couldn't be read or was too long, memory ran out, or the files that were read have this answer.
abbrev pub Ends : Outside → (List FileRead → Outcome → Type 0) → Status → List ℕ → Type 0
Ends o course status.ReadFault text =
    (files : List FileRead) × (file : File) × (name : List ℕ) × course files (needs file name) × o.failed files name × (text ≡ read_fault_line file)
Ends o course status.TooLong text =
    (files : List FileRead) × (file : File) × (name : List ℕ) × course files (needs file name) × o.long files file name × (text ≡ too_long_line file)
Ends o course status.Memory text = o.wanted × (text ≡ [])
Ends o course status.Words text = ⊥
Ends o course status.WriteFault text = ⊥
Ends o course status.Good text = (files : List FileRead) × course files (answers status.Good text) × o.gave files
Ends o course status.No text = (files : List FileRead) × course files (answers status.No text) × o.gave files
Ends o course status.Spent text = (files : List FileRead) × course files (answers status.Spent text) × o.gave files
Ends o course status.ModelRefused text = (files : List FileRead) × course files (answers status.ModelRefused text) × o.gave files
Ends o course status.RequestsRefused text = (files : List FileRead) × course files (answers status.RequestsRefused text) × o.gave files
Ends o course status.InputRefused text = (files : List FileRead) × course files (answers status.InputRefused text) × o.gave files
Ends o course status.TooLarge text = (files : List FileRead) × course files (answers status.TooLarge text) × o.gave files

-- Words without a form have the status Words, before any file is read; else the job decides.
abbrev pub JobEnds : (List (List ℕ) → Outside) → Option Job → Status → List ℕ → Type 0
JobEnds o None came text = (came ≡ status.Words) × (text ≡ codes "refused words\n") × (o []).gave []
JobEnds o (Some job) came text = Ends (o (files_of job)) (Doing job) came text

-- ---- the table of a call

-- the reads of a call that reads the first of these names
abbrev pub in_call : Seen → List (List ℕ) → Outside
in_call s names = record {
  gave = λ files. HasAll s.told files × AsksThese s (names_of files) × IsQuiet s;
  failed = λ files name. HasAll s.told files × AsksThese s (names_of files ++ name ∷ []) × IsUnread s name;
  long = λ files file name. HasAll s.told files × AsksThese s (names_of files ++ name ∷ []) × IsTooLong s file name × IsQuiet s;
  wanted = AsksFirst s names × IsQuiet s;
}

-- what a call may come to
abbrev pub Row : Seen → List (List ℕ) → Status → List ℕ → Type 0
Row s words came text = JobEnds (in_call s) (job_of words) came text

-- ---- the table of files

-- the files by their names
abbrev pub Files : Type 0
Files = List ℕ → Option (List ℕ)

-- the reads of files that are told, where none fails
abbrev pub in_files : Type 0 → Files → Outside
in_files wanted files = record {
  gave = λ given. HasAll (Some files) given;
  failed = λ given name. HasAll (Some files) given × (files name ≡ None);
  long = λ given file name. HasAll (Some files) given × IsLong (Some files) name (limit_of file);
  wanted = wanted;
}

-- what words and files come to, where memory is found
abbrev pub Expected : List (List ℕ) → Files → Status → List ℕ → Type 0
Expected words files came text = JobEnds (λ names. in_files ⊥ files) (job_of words) came text

-- a search may end with any of its answers
abbrev pub IsSearched : Status → Type 0
IsSearched status.Good = Unit {0}
IsSearched status.No = Unit {0}
IsSearched status.Spent = Unit {0}
IsSearched _ = ⊥

-- words and files fix the text of this status: they do so but for the answers of a search
abbrev pub IsFixed : Option Job → Status → Type 0
IsFixed (Some (solve job)) due = IsSearched due → ⊥
IsFixed (Some (load job)) due = IsSearched due → ⊥
IsFixed _ due = Unit {0}

-- ---- the table of a call over bytes

-- no file is read
abbrev pub no_reads : Outside
no_reads = record {
  gave = λ files. files ≡ [];
  failed = λ files name. ⊥;
  long = λ files file name. ⊥;
  wanted = Unit {0};
}

-- what a call over bytes comes to: what its course answers, unless memory ran out
abbrev pub Replies : (List FileRead → Outcome → Type 0) → Status → List ℕ → Type 0
Replies course came text = Ends no_reads course came text

-- ---- what is written

-- one of the two that yield to nothing
abbrev pub IsMemoryOrWriteFault : Status → Type 0
IsMemoryOrWriteFault came = (came ≡ status.Memory) ⊎ (came ≡ status.WriteFault)

-- this status came and this text was written, unless memory ran out or a write failed
abbrev pub Comes : Status → List ℕ → Status → Option (List ℕ) → Option (List ℕ) → Type 0
Comes due want came old new = ((came ≡ due) × (new ≡ after old want)) ⊎ IsMemoryOrWriteFault came

-- this status came with one of the texts that the row allows, which was written, unless memory ran out or a write failed
abbrev pub ComesAmong : (Status → List ℕ → Type 0) → Status → Option (List ℕ) → Option (List ℕ) → Type 0
ComesAmong rows came old new = ((text : List ℕ) × rows came text × (new ≡ after old text)) ⊎ IsMemoryOrWriteFault came

-- A text that the row allows was appended whole, in pieces.
abbrev pub Writes : (List ℕ → Type 0) → Option (List ℕ) → Option (List ℕ) → Option (List (List ℕ)) → Option (List (List ℕ)) → Type 0
Writes row old new sent sent_after = (text : List ℕ) × row text × (new ≡ after old text) × (sent_after ≡ with_pieces sent (pieces_of text))

-- A first part of a text that some row allows was appended, and the sink didn't take the whole of it.
abbrev pub WritesPart : (Status → List ℕ → Type 0) → (ℕ → Type 0) → Option (List ℕ) → Option (List ℕ) → Type 0
WritesPart rows takes old new = (status : Status) × (text : List ℕ) × rows status text × (takes (length text) → ⊥) × AppendsPart old new text

-- A text that some row allows is longer than the room.
abbrev pub NeedsMore : (Status → List ℕ → Type 0) → ℕ → Type 0
NeedsMore rows room = (status : Status) × (text : List ℕ) × rows status text × (room < length text)
