-- `check MODEL REQUESTS LOG`: what the checker says of a log about the problem of a list.
use Rattle.std.specs.Prelude.{ℕ, ◌≡◌, ◌⊎◌, List, [], ◌∷◌, ◌++◌, Option, None, ◌&&◌, if◌then◌else◌}
use Rattle.std.specs.Option.{option_map}
use Rattle.dt_model.specs.ModelData.{ModelData}
use Rattle.dt_request.specs.declared.list.Requests.{Requests}
use Rattle.dt_terms.specs.Problem.{ProblemData}
use Rattle.dt_sets.specs.TripleOps.{triple_ops}
use Rattle.dt_log.specs.Read.{LogData}
use Rattle.dt_check.specs.declared.verdict.Cause.{Cause}
use Rattle.dt_check.specs.declared.verdict.Verdict.TheVariants.{Refused}
use Rattle.dt_check.specs.Reading.{verdict_of}
use Rattle.dt_table.specs.Table.{table}
use Rattle.dt_top.specs.Answers.{IsRefutedBy, IsRecordedBy}
use Rattle.dt_top.specs.Words.{is_file_name}
use Rattle.dt_top.specs.Lines.{closed_line, open_line, item_line}
use Rattle.dt_top.specs.Course.{FileRead, Outcome, Answered, OnFile}
use Rattle.dt_top.specs.Models.{ModelAsked, model_of, model_asked, model_files, OnModelAndList}
use Rattle.dt_top.specs.Stages.{OnProblem, OnLog}
use Rattle.dt_top.specs.declared.commands.check.CheckJob.{CheckJob}
use Rattle.dt_top.specs.declared.file.File.TheVariants as file
use Rattle.dt_top.specs.declared.status.Status.TheVariants as status

-- ---- its words

pub record Check : Type 0 where
  pub model : ModelAsked
  pub requests : List ℕ
  pub log : List ℕ

-- what the words after the command's name ask for
abbrev pub check_of : List (List ℕ) → Option Check
check_of (model ∷ requests ∷ log ∷ []) =
    if is_file_name requests && is_file_name log
    then option_map (λ m. record { model = m; requests = requests; log = log }) (model_of model) else None
check_of _ = None

-- what the code asks for
abbrev pub check_asked : CheckJob → Check
check_asked job = record { model = model_asked job.model; requests = job.requests.now; log = job.log.now }

-- ---- its files, in order

abbrev pub check_files : Check → List (List ℕ)
check_files job = model_files job.model ++ job.requests ∷ job.log ∷ []

-- ---- its answer

-- this is the first item of the log that has a cause, counted from 1, and the first of its causes
abbrev pub IsRefusedItem : ProblemData → LogData → ℕ → Cause → Type 0
IsRefusedItem p log item cause = verdict_of triple_ops p log.0 log.1 ≡ Refused item cause

-- the log refutes the problem, or is the record of a search that ended at its claim, or has a first item with a cause
abbrev pub JudgingLog : ProblemData → LogData → List FileRead → Outcome → Type 0
JudgingLog p log files outcome =
    ((splits : ℕ) × IsRefutedBy p log splits × Answered status.Good (closed_line splits) files outcome)
    ⊎ (((splits : ℕ) × IsRecordedBy p log splits × Answered status.Spent (open_line splits) files outcome)
    ⊎ ((item : ℕ) × (cause : Cause) × IsRefusedItem p log item cause × Answered status.No (item_line item cause) files outcome))

-- what the bytes of a log come to
abbrev pub CheckingBytes : ProblemData → List ℕ → List FileRead → Outcome → Type 0
CheckingBytes p bytes = OnLog bytes (JudgingLog p)

-- what a model and a list come to, with the log's name
abbrev pub CheckingList : List ℕ → ModelData → Requests → List FileRead → Outcome → Type 0
CheckingList log d list = OnProblem d list (OnFile file.Log log (CheckingBytes (table d list)))

abbrev pub Checking : Check → List FileRead → Outcome → Type 0
Checking job = OnModelAndList job.model job.requests (CheckingList job.log)
