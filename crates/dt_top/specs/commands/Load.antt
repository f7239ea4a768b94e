-- `load N`: how a search with a fixed number of splits ends on the generated list of N accesses of the shipped model of Sv39.
use Rattle.std.specs.Prelude.{ℕ, ◌≡◌, List, [], ◌∷◌, ◌++◌, length, Option, Some, None, if◌then◌else◌, codes}
use Rattle.std.specs.Option.{option_and_then}
use Rattle.dt_lex.specs.Numeral.{decimal}
use Rattle.dt_lex.specs.Printing.{row_text}
use Rattle.dt_model.specs.ModelData.{ModelData}
use Rattle.dt_request.specs.declared.list.Requests.{Requests}
use Rattle.dt_image.specs.declared.image.Image.{Image}
use Rattle.dt_log.specs.Read.{LogData}
use Rattle.dt_sets.specs.TripleOps.{triple_ops}
use Rattle.dt_solve.specs.Outcomes.{IsSpent}
use Rattle.dt_table.specs.Table.{table}
use Rattle.dt_encode.specs.ReadWords.{ListsReads}
use Rattle.dt_sv39.specs.Shipped.{sv39_data}
use Rattle.dt_make.specs.Made.{can_be_made, made}
use Rattle.dt_top.specs.Answers.{Meets, NoneMeets}
use Rattle.dt_top.specs.Course.{FileRead, Outcome, Answered}
use Rattle.dt_top.specs.Words.{word_number}
use Rattle.dt_top.specs.declared.commands.load.LoadJob.{LoadJob}
use Rattle.dt_top.specs.declared.commands.load.LoadEnd.{LoadEnd}
use Rattle.dt_top.specs.declared.commands.load.LoadEnd.TheVariants as ends
use Rattle.dt_top.specs.declared.status.Status.{Status}
use Rattle.dt_top.specs.declared.status.Status.TheVariants as status

-- ---- its words

-- how many accesses the list has
pub record Load : Type 0 where
  pub n : ℕ

-- what a number asks for: a list of so many accesses, where there is one
abbrev pub load_with : ℕ → Option Load
load_with n = if can_be_made n then Some (record { n = n }) else None

-- what the words after the command's name ask for
abbrev pub load_of : List (List ℕ) → Option Load
load_of (count ∷ []) = option_and_then load_with (word_number count)
load_of _ = None

-- what the code asks for
abbrev pub load_asked : LoadJob → Load
load_asked job = record { n = job.n }

-- ---- how the search ended

-- how many splits the search may take
abbrev pub load_splits : ℕ
load_splits = 10000

-- an image of so many words, which meets the list and has the words that its accesses read and no others
pub record IsLoad (d : ModelData) (list : Requests) (count : ℕ) (i : Image) : Type 0 where
  pub meets : Meets d list i
  pub reads : ListsReads d i
  pub number : count ≡ length i.memory.words

-- there is such an image; or no image meets the list; or there is a record of exactly as many splits as the search may take
abbrev pub IsLoadEnd : ModelData → Requests → LoadEnd → Type 0
IsLoadEnd d list (ends.Image words) = (i : Image) × IsLoad d list words i
IsLoadEnd d list ends.Impossible = NoneMeets d list
IsLoadEnd d list ends.Budget = (log : LogData) × IsSpent triple_ops (table d list) load_splits log.0 log.1

-- ---- its answer, for which no file is read

abbrev pub end_status : LoadEnd → Status
end_status (ends.Image words) = status.Good
end_status ends.Impossible = status.No
end_status ends.Budget = status.Spent

abbrev pub end_word : LoadEnd → List ℕ
end_word (ends.Image words) = codes "image"
end_word ends.Impossible = codes "impossible"
end_word ends.Budget = codes "budget"

-- how many words the image has; 0 without one
abbrev pub end_words : LoadEnd → ℕ
end_words (ends.Image words) = words
end_words ends.Impossible = 0
end_words ends.Budget = 0

-- the command, the number of accesses, how the search ended, and the number of words
abbrev pub load_text : ℕ → LoadEnd → List ℕ
load_text n end =
    row_text (codes "load" ∷ decimal n ∷ [])
    ++ (row_text (codes "accesses" ∷ decimal n ∷ [])
    ++ (row_text (codes "answer" ∷ end_word end ∷ [])
    ++ row_text (codes "words" ∷ decimal (end_words end) ∷ [])))

abbrev pub Loading : Load → List FileRead → Outcome → Type 0
Loading job files outcome = (end : LoadEnd) × IsLoadEnd sv39_data (made job.n) end × Answered (end_status end) (load_text job.n end) files outcome
