-- The headlines: what the words ask for, and what the answer is.
use Rattle.std.specs.Prelude.{ℕ, ◌≡◌, ◌≢◌, ◌≤◌, ◌+◌, ◌⊎◌, not, List, length, position, Option, Some, Ok, codes}
use Rattle.dt_edge.specs.Told.{after}
use Rattle.dt_model.specs.ModelData.{ModelData}
use Rattle.dt_modeltext.specs.Read.{IsModelText}
use Rattle.dt_request.specs.declared.list.Requests.{Requests}
use Rattle.dt_image.specs.declared.image.Image.{Image}
use Rattle.dt_image.specs.Read.{reading}
use Rattle.dt_satisfy.specs.Claims.{claims}
use Rattle.dt_satisfy.specs.Satisfies.{Satisfies}
use Rattle.dt_log.specs.Read.{LogData}
use Rattle.dt_check.specs.declared.verdict.Cause.{Cause}
use Rattle.dt_table.specs.Sizes.{IsWithin}
use Rattle.dt_table.specs.Table.{table}
use Rattle.dt_top.specs.Answers.{Meets, NoneMeets, IsRefutedBy, IsRecordedBy, IsStimulus, IsRefutation, IsRecord}
use Rattle.dt_top.specs.Files.{limit_of}
use Rattle.dt_top.specs.Lines.{breaks_line, closed_line, open_line, item_line}
use Rattle.dt_top.specs.Models.{ModelAsked, shipped, of_file, shipped_data}
use Rattle.dt_top.specs.Stages.{IsRequests, IsMatching}
use Rattle.dt_top.specs.Table.{Files, Comes, IsMemoryOrWriteFault}
use Rattle.dt_top.specs.commands.Jobs.{solve, check, replay, walk as walk_job, model as print_job, make as make_job, load as load_job, job_of}
use Rattle.dt_top.specs.commands.Replay.{Replay}
use Rattle.dt_top.specs.commands.Solve.{Solve}
use Rattle.dt_top.specs.commands.Check.{Check, IsRefusedItem}
use Rattle.dt_top.specs.commands.Load.{IsLoadEnd, end_status, load_text}
use Rattle.dt_top.specs.declared.commands.load.LoadEnd.{LoadEnd}
use Rattle.dt_make.specs.Made.{made}
use Rattle.dt_sv39.specs.Shipped.{sv39_data}
use Rattle.dt_top.specs.declared.file.File.{File}
use Rattle.dt_top.specs.declared.file.File.TheVariants as file
use Rattle.dt_top.specs.declared.models.Shipped.{Shipped}
use Rattle.dt_top.specs.declared.status.Status.{Status}
use Rattle.dt_top.specs.declared.status.Status.TheVariants as status

-- the name has a file within its limit, and this holds of its bytes
abbrev pub HasFile : Files → File → List ℕ → (List ℕ → Type 0) → Type 0
HasFile files kind name P = (bytes : List ℕ) × (files name ≡ Some bytes) × (length bytes ≤ limit_of kind) × P bytes

-- it is the shipped model of the word, or the name has a file with a text of it
abbrev pub HasModel : Files → ModelAsked → ModelData → Type 0
HasModel files (shipped s) d = d ≡ shipped_data s
HasModel files (of_file name) d = HasFile files file.Model name (λ bytes. IsModelText bytes d)

-- the words ask for `solve` with so many splits, of an accepted model, and of a file with a list for it that is within the limits
pub record AskedFor (words : List (List ℕ)) (files : Files) (d : ModelData) (list : Requests) (splits : ℕ) : Type 0 where
  pub job : Solve
  pub form : job_of words ≡ Some (solve job)
  pub limit : job.splits ≡ splits
  pub model : HasModel files job.model d
  pub requests : HasFile files file.Requests job.requests (λ bytes. IsRequests d bytes list)
  pub within : IsWithin d list

-- An image that meets the list was printed; or a refutation, and then no image meets it; or the record of a search
-- that ended after exactly so many splits; unless memory ran out or a write failed.
abbrev pub IsAnswer : ModelData → Requests → ℕ → Status → Option (List ℕ) → Option (List ℕ) → Type 0
IsAnswer d list splits status.Good old new = (text : List ℕ) × IsStimulus d list text × (new ≡ after old text)
IsAnswer d list splits status.No old new = (text : List ℕ) × IsRefutation d list text × (new ≡ after old text)
IsAnswer d list splits status.Spent old new = (text : List ℕ) × IsRecord d list splits text × (new ≡ after old text)
IsAnswer d list splits status.Memory old new = Unit {0}
IsAnswer d list splits status.WriteFault old new = Unit {0}
IsAnswer d list splits _ old new = ⊥

-- The search came to its end, unless memory ran out or a write failed: an image was printed exactly where one
-- meets the list, and else a refutation.
pub record IsDecision (d : ModelData) (list : Requests) (came : Status) : Type 0 where
  pub never_spent : came ≢ status.Spent
  pub good : (i : Image) → Meets d list i → (came ≡ status.Good) ⊎ IsMemoryOrWriteFault came
  pub only_good : came ≡ status.Good → (i : Image) × Meets d list i
  pub no : NoneMeets d list → (came ≡ status.No) ⊎ IsMemoryOrWriteFault came
  pub only_no : came ≡ status.No → NoneMeets d list

-- the words ask for `check` of such a model and list, and of a file with this text
pub record AskedToCheck (words : List (List ℕ)) (files : Files) (d : ModelData) (list : Requests) (text : List ℕ) : Type 0 where
  pub job : Check
  pub form : job_of words ≡ Some (check job)
  pub model : HasModel files job.model d
  pub requests : HasFile files file.Requests job.requests (λ bytes. IsRequests d bytes list)
  pub within : IsWithin d list
  pub log : HasFile files file.Log job.log (λ bytes. bytes ≡ text)

-- what the checker says of a log, unless memory ran out or a write failed
pub record IsChecked (d : ModelData) (list : Requests) (log : LogData) (came : Status) (old new : Option (List ℕ)) : Type 0 where
  pub closed : (splits : ℕ) → IsRefutedBy (table d list) log splits → Comes status.Good (closed_line splits) came old new
  pub left_open : (splits : ℕ) → IsRecordedBy (table d list) log splits → Comes status.Spent (open_line splits) came old new
  pub refused : ((splits : ℕ) → IsRefutedBy (table d list) log splits → ⊥) → ((splits : ℕ) → IsRecordedBy (table d list) log splits → ⊥)
      → (item : ℕ) × (cause : Cause) × IsRefusedItem (table d list) log item cause × Comes status.No (item_line item cause) came old new

-- what `check` says of a text that `solve` prints for the same model and list, unless memory ran out or a write failed
pub record IsAgreed (d : ModelData) (list : Requests) (text : List ℕ) (came : Status) (old new : Option (List ℕ)) : Type 0 where
  pub refutation : (r : IsRefutation d list text) → Comes status.Good (closed_line r.splits) came old new
  pub recorded : (splits : ℕ) → IsRecord d list splits text → Comes status.Spent (open_line splits) came old new

-- the words ask for `replay` of such a model and list, and of a file with an image that matches the list
pub record AskedToJudge (words : List (List ℕ)) (files : Files) (d : ModelData) (list : Requests) (i : Image) : Type 0 where
  pub job : Replay
  pub form : job_of words ≡ Some (replay job)
  pub model : HasModel files job.model d
  pub requests : HasFile files file.Requests job.requests (λ bytes. IsRequests d bytes list)
  pub image : HasFile files file.Image job.image (λ bytes. IsMatching d list bytes i)

-- yes where the image meets the list, and else no, with the first claim that doesn't hold, unless memory ran out or a write failed
pub record IsJudgement (d : ModelData) (list : Requests) (i : Image) (came : Status) (old new : Option (List ℕ)) : Type 0 where
  pub met : Satisfies d list i → Comes status.Good (codes "satisfies\n") came old new
  pub unmet : (Satisfies d list i → ⊥) → (k : ℕ) × (position not (claims d list i) ≡ Some k) × Comes status.No (breaks_line (k + 1)) came old new

-- the words ask for `walk` of a shipped model, and of a file with an image for it
pub record AskedToWalk (words : List (List ℕ)) (files : Files) (s : Shipped) (i : Image) : Type 0 where
  pub name : List ℕ
  pub form : job_of words ≡ Some (walk_job (record { model = s; image = name }))
  pub image : HasFile files file.Image name (λ bytes. reading (shipped_data s) bytes ≡ Ok i)

-- the words ask for `model` of a shipped model
abbrev pub AskedToPrint : List (List ℕ) → Shipped → Type 0
AskedToPrint words s = job_of words ≡ Some (print_job (record { model = s }))

-- the words ask for `make` of a list of so many accesses
abbrev pub AskedToMake : List (List ℕ) → ℕ → Type 0
AskedToMake words n = job_of words ≡ Some (make_job (record { n = n }))

-- the words ask for `load` of a list of so many accesses
abbrev pub AskedToLoad : List (List ℕ) → ℕ → Type 0
AskedToLoad words n = job_of words ≡ Some (load_job (record { n = n }))

-- the search of the generated list ended, and its lines were written; unless memory ran out or a write failed
abbrev pub IsLoaded : ℕ → Status → Option (List ℕ) → Option (List ℕ) → Type 0
IsLoaded n came old new =
    ((end : LoadEnd) × IsLoadEnd sv39_data (made n) end × (came ≡ end_status end) × (new ≡ after old (load_text n end))) ⊎ IsMemoryOrWriteFault came
