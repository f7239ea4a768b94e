-- What a search prints: an image that meets a list, a refutation of its problem, or the record of a search that ended at its limit.
use Rattle.std.specs.Prelude.{ℕ, ◌≡◌, ◌+◌, ◌^◌, ◌≤◌, List, Ok}
use Rattle.dt_bits.specs.Memory.{IsMemory}
use Rattle.dt_model.specs.ModelData.{ModelData}
use Rattle.dt_request.specs.Choices.{choice_bits}
use Rattle.dt_request.specs.declared.list.Requests.{Requests}
use Rattle.dt_image.specs.declared.image.Image.{Image}
use Rattle.dt_image.specs.Print.{printed as image_text}
use Rattle.dt_satisfy.specs.Satisfies.{Satisfies}
use Rattle.dt_terms.specs.Problem.{ProblemData}
use Rattle.dt_sets.specs.TripleOps.{triple_ops}
use Rattle.dt_log.specs.Print.{printed as log_text}
use Rattle.dt_log.specs.Read.{LogData, reading}
use Rattle.dt_check.specs.Laws.{Refutation, Record}
use Rattle.dt_solve.specs.Outcomes.{IsSpent}
use Rattle.dt_table.specs.Table.{table}

-- an image over a table memory, which satisfies the list
pub record Meets (d : ModelData) (list : Requests) (i : Image) : Type 0 where
  pub memory : IsMemory i.memory
  pub satisfies : Satisfies d list i

-- no image does, with any registers, inputs and words
abbrev pub NoneMeets : ModelData → Requests → Type 0
NoneMeets d list = (i : Image) → Meets d list i → ⊥

-- the text is that of a log, and reads back as it
pub record IsLogText (log : LogData) (text : List ℕ) : Type 0 where
  pub spelled : text ≡ log_text log
  pub reads_back : reading text ≡ Ok log

-- the log refutes the problem, with so many splits
abbrev pub IsRefutedBy : ProblemData → LogData → ℕ → Type 0
IsRefutedBy p log splits = Refutation triple_ops p log.0 log.1 splits

-- the log is the record of a search on the problem that ended after so many splits
abbrev pub IsRecordedBy : ProblemData → LogData → ℕ → Type 0
IsRecordedBy p log splits = Record triple_ops p log.0 log.1 splits

-- the text of an image that meets the list
pub record IsStimulus (d : ModelData) (list : Requests) (text : List ℕ) : Type 0 where
  pub image : Image
  pub spelled : text ≡ image_text image
  pub meets : Meets d list image

-- the text of a log that refutes the list's problem; and so no image meets the list
pub record IsRefutation (d : ModelData) (list : Requests) (text : List ℕ) : Type 0 where
  pub log : LogData
  pub splits : ℕ
  pub text_is : IsLogText log text
  pub refutes : IsRefutedBy (table d list) log splits
  pub none : NoneMeets d list

-- the text of the record of a search that ended after exactly so many splits; these are fewer than two to the
-- number of bits of choices that aren't known at its first item that is no step, less 1, and so than two to the
-- number of all bits of choices, less 1
pub record IsRecord (d : ModelData) (list : Requests) (splits : ℕ) (text : List ℕ) : Type 0 where
  pub log : LogData
  pub text_is : IsLogText log text
  pub spent : IsSpent triple_ops (table d list) splits log.0 log.1
  pub few : splits + 2 ≤ 2 ^ choice_bits d list
