-- `replay MODEL REQUESTS IMAGE`: whether an image meets a list, and else the first claim that doesn't hold.
use Rattle.std.specs.Prelude.{ℕ, ◌≡◌, ◌+◌, ◌⊎◌, not, List, [], ◌∷◌, ◌++◌, Option, Some, None, position, ◌&&◌, if◌then◌else◌, codes}
use Rattle.std.specs.Option.{option_map}
use Rattle.dt_model.specs.ModelData.{ModelData}
use Rattle.dt_request.specs.declared.list.Requests.{Requests}
use Rattle.dt_image.specs.declared.image.Image.{Image}
use Rattle.dt_satisfy.specs.Claims.{claims}
use Rattle.dt_satisfy.specs.Satisfies.{Satisfies}
use Rattle.dt_top.specs.Words.{is_file_name}
use Rattle.dt_top.specs.Lines.{breaks_line}
use Rattle.dt_top.specs.Course.{FileRead, Outcome, Answered, OnFile}
use Rattle.dt_top.specs.Models.{ModelAsked, model_of, model_asked, model_files, OnModelAndList}
use Rattle.dt_top.specs.Stages.{OnImage}
use Rattle.dt_top.specs.declared.commands.replay.ReplayJob.{ReplayJob}
use Rattle.dt_top.specs.declared.file.File.TheVariants as file
use Rattle.dt_top.specs.declared.status.Status.TheVariants as status

-- ---- its words

pub record Replay : Type 0 where
  pub model : ModelAsked
  pub requests : List ℕ
  pub image : List ℕ

-- what the words after the command's name ask for
abbrev pub replay_of : List (List ℕ) → Option Replay
replay_of (model ∷ requests ∷ image ∷ []) =
    if is_file_name requests && is_file_name image
    then option_map (λ m. record { model = m; requests = requests; image = image }) (model_of model) else None
replay_of _ = None

-- what the code asks for
abbrev pub replay_asked : ReplayJob → Replay
replay_asked job = record { model = model_asked job.model; requests = job.requests.now; image = job.image.now }

-- ---- its files, in order

abbrev pub replay_files : Replay → List (List ℕ)
replay_files job = model_files job.model ++ job.requests ∷ job.image ∷ []

-- ---- its answer

-- the image meets the list, or this claim is the first that doesn't hold; k counts from 0, and claims are numbered from 1
abbrev pub Judging : ModelData → Requests → Image → List FileRead → Outcome → Type 0
Judging d list i files outcome =
    (Satisfies d list i × Answered status.Good (codes "satisfies\n") files outcome)
    ⊎ ((k : ℕ) × (position not (claims d list i) ≡ Some k) × Answered status.No (breaks_line (k + 1)) files outcome)

-- what the bytes of an image come to
abbrev pub JudgingBytes : ModelData → Requests → List ℕ → List FileRead → Outcome → Type 0
JudgingBytes d list bytes = OnImage d list bytes (Judging d list)

abbrev pub Replaying : Replay → List FileRead → Outcome → Type 0
Replaying job = OnModelAndList job.model job.requests (λ d list. OnFile file.Image job.image (JudgingBytes d list))
