-- `model SHIPPED`: the text of a shipped model.
use Rattle.std.specs.Prelude.{ℕ, List, [], ◌∷◌, Option, None}
use Rattle.std.specs.Option.{option_map}
use Rattle.dt_modeltext.specs.Print.{printed}
use Rattle.dt_top.specs.Course.{FileRead, Outcome, Answered}
use Rattle.dt_top.specs.Models.{shipped_of, shipped_data}
use Rattle.dt_top.specs.declared.commands.model.ModelJob.{ModelJob}
use Rattle.dt_top.specs.declared.models.Shipped.{Shipped}
use Rattle.dt_top.specs.declared.status.Status.TheVariants as status

-- ---- its words

pub record Model : Type 0 where
  pub model : Shipped

-- what the words after the command's name ask for
abbrev pub print_of : List (List ℕ) → Option Model
print_of (model ∷ []) = option_map (λ s. record { model = s }) (shipped_of model)
print_of _ = None

-- what the code asks for
abbrev pub print_asked : ModelJob → Model
print_asked job = record { model = job.model }

-- ---- its answer, for which no file is read

abbrev pub Printing : Model → List FileRead → Outcome → Type 0
Printing job = Answered status.Good (printed (shipped_data job.model))
