-- `solve MODEL REQUESTS SPLITS SEED`: an image that meets the list, or a refutation of its problem, or the record of a search that ended after as many splits as it may take.
use Rattle.std.specs.Prelude.{ℕ, ◌⊎◌, List, [], ◌∷◌, ◌++◌, Option, None, if◌then◌else◌}
use Rattle.std.specs.Option.{option_map, option_and_then}
use Rattle.dt_model.specs.ModelData.{ModelData}
use Rattle.dt_request.specs.declared.list.Requests.{Requests}
use Rattle.dt_top.specs.Words.{is_file_name, word_number}
use Rattle.dt_top.specs.Answers.{IsStimulus, IsRefutation, IsRecord}
use Rattle.dt_top.specs.Course.{FileRead, Outcome, Answered}
use Rattle.dt_top.specs.Models.{ModelAsked, model_of, model_asked, model_files, OnModelAndList}
use Rattle.dt_top.specs.Stages.{OnProblem}
use Rattle.dt_top.specs.declared.commands.solve.SolveJob.{SolveJob}
use Rattle.dt_top.specs.declared.status.Status.TheVariants as status

-- ---- its words

pub record Solve : Type 0 where
  pub model : ModelAsked
  pub requests : List ℕ
  pub splits : ℕ
  pub seed : ℕ

-- what words and numbers ask for
abbrev pub solve_with : List ℕ → List ℕ → ℕ → ℕ → Option Solve
solve_with model requests splits seed = option_map (λ m. record { model = m; requests = requests; splits = splits; seed = seed }) (model_of model)

-- what the words after the command's name ask for
abbrev pub solve_of : List (List ℕ) → Option Solve
solve_of (model ∷ requests ∷ splits ∷ seed ∷ []) =
    if is_file_name requests
    then option_and_then (λ limit. option_and_then (λ n. solve_with model requests limit n) (word_number seed)) (word_number splits) else None
solve_of _ = None

-- what the code asks for
abbrev pub solve_asked : SolveJob → Solve
solve_asked job = record { model = model_asked job.model; requests = job.requests.now; splits = job.splits; seed = job.seed }

-- ---- its files, in order

abbrev pub solve_files : Solve → List (List ℕ)
solve_files job = model_files job.model ++ job.requests ∷ []

-- ---- its answer

-- the text of an image that meets the list, or that of a refutation, or the record of exactly so many splits
abbrev pub Answering : ModelData → Requests → ℕ → List FileRead → Outcome → Type 0
Answering d list splits files outcome =
    ((text : List ℕ) × IsStimulus d list text × Answered status.Good text files outcome)
    ⊎ (((text : List ℕ) × IsRefutation d list text × Answered status.No text files outcome)
    ⊎ ((text : List ℕ) × IsRecord d list splits text × Answered status.Spent text files outcome))

-- what a model and a list come to
abbrev pub SolvingList : ℕ → ModelData → Requests → List FileRead → Outcome → Type 0
SolvingList splits d list = OnProblem d list (Answering d list splits)

abbrev pub Solving : Solve → List FileRead → Outcome → Type 0
Solving job = OnModelAndList job.model job.requests (SolvingList job.splits)
