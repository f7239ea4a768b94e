-- `walk SHIPPED IMAGE`: the walk of each access of an image.
use Rattle.std.specs.Prelude.{ℕ, List, [], ◌∷◌, Option, None, if◌then◌else◌}
use Rattle.std.specs.Option.{option_map}
use Rattle.dt_model.specs.ModelData.{ModelData}
use Rattle.dt_walktext.specs.Printed.{walks_text}
use Rattle.dt_top.specs.Course.{FileRead, Outcome, Answered, OnFile}
use Rattle.dt_top.specs.Models.{shipped_of, shipped_data}
use Rattle.dt_top.specs.Stages.{OnModelImage}
use Rattle.dt_top.specs.Words.{is_file_name}
use Rattle.dt_top.specs.declared.commands.walk.WalkJob.{WalkJob}
use Rattle.dt_top.specs.declared.file.File.TheVariants as file
use Rattle.dt_top.specs.declared.models.Shipped.{Shipped}
use Rattle.dt_top.specs.declared.status.Status.TheVariants as status

-- ---- its words

pub record Walk : Type 0 where
  pub model : Shipped
  pub image : List ℕ

-- what the words after the command's name ask for
abbrev pub walk_of : List (List ℕ) → Option Walk
walk_of (model ∷ image ∷ []) = if is_file_name image then option_map (λ s. record { model = s; image = image }) (shipped_of model) else None
walk_of _ = None

-- what the code asks for
abbrev pub walk_asked : WalkJob → Walk
walk_asked job = record { model = job.model; image = job.image.now }

-- ---- its file

abbrev pub walk_files : Walk → List (List ℕ)
walk_files job = job.image ∷ []

-- ---- its answer

-- what the bytes of an image come to: the text of its walks
abbrev pub WalkingBytes : ModelData → List ℕ → List FileRead → Outcome → Type 0
WalkingBytes d bytes = OnModelImage d bytes (λ i. Answered status.Good (walks_text d i))

abbrev pub Walking : Walk → List FileRead → Outcome → Type 0
Walking job = OnFile file.Image job.image (WalkingBytes (shipped_data job.model))
