-- The models that words name: one that the program brings along, or one of a file.
use Rattle.std.specs.Prelude.{ℕ, ◌≡◌, ◌≤◌, List, [], ◌∷◌, length, Option, Some, None, if◌then◌else◌, codes}
use Rattle.std.specs.Option.{option_map}
use Rattle.std.specs.Str.{bytes_eq}
use Rattle.dt_model.specs.ModelData.{ModelData}
use Rattle.dt_modeltext.specs.Read.{IsModelText}
use Rattle.dt_sv39.specs.Shipped.{sv39_data}
use Rattle.dt_sv39x4.specs.Shipped.{sv39x4_data}
use Rattle.dt_top.specs.Course.{FileRead, Outcome, OnFile}
use Rattle.dt_top.specs.Files.{limit_of}
use Rattle.dt_request.specs.declared.list.Requests.{Requests}
use Rattle.dt_top.specs.Stages.{OnModel, OnRequests}
use Rattle.dt_top.specs.Words.{is_file_name}
use Rattle.dt_top.specs.declared.file.File.TheVariants as file
use Rattle.dt_top.specs.declared.models.ModelWord.{ModelWord}
use Rattle.dt_top.specs.declared.models.ModelWord.TheVariants as word
use Rattle.dt_top.specs.declared.models.Shipped.{Shipped}
use Rattle.dt_top.specs.declared.models.Shipped.TheVariants.{Sv39, Sv39x4}

-- ---- shipped models

-- the shipped model of a word
abbrev pub shipped_of : List ℕ → Option Shipped
shipped_of w = if bytes_eq w (codes "@sv39") then Some Sv39 else (if bytes_eq w (codes "@sv39x4") then Some Sv39x4 else None)

abbrev pub shipped_data : Shipped → ModelData
shipped_data Sv39 = sv39_data
shipped_data Sv39x4 = sv39x4_data

-- ---- the word for a model

pub data ModelAsked : Type 0 where
  shipped : Shipped → ModelAsked
  of_file : (name : List ℕ) → ModelAsked

-- a file's name, or the word of a shipped model
abbrev pub model_of : List ℕ → Option ModelAsked
model_of w = if is_file_name w then Some (of_file w) else option_map (λ s. shipped s) (shipped_of w)

-- what the code asks for
abbrev pub model_asked : ModelWord → ModelAsked
model_asked (word.Shipped s) = shipped s
model_asked (word.File name) = of_file name.now

-- ---- the files that are read for it

abbrev pub model_files : ModelAsked → List (List ℕ)
model_files (shipped s) = []
model_files (of_file name) = name ∷ []

-- how a command goes on from its model
abbrev pub OnModelWord : ModelAsked → (ModelData → List FileRead → Outcome → Type 0) → List FileRead → Outcome → Type 0
OnModelWord (shipped s) next = next (shipped_data s)
OnModelWord (of_file name) next = OnFile file.Model name (λ bytes. OnModel bytes next)

-- these files were read for it, and it is this model
abbrev pub IsModelOf : ModelAsked → List FileRead → ModelData → Type 0
IsModelOf (shipped s) [] d = d ≡ shipped_data s
IsModelOf (shipped s) (f ∷ more) d = ⊥
IsModelOf (of_file name) [] d = ⊥
IsModelOf (of_file name) (f ∷ []) d = (f.name ≡ name) × (length f.bytes ≤ limit_of file.Model) × IsModelText f.bytes d
IsModelOf (of_file name) (f ∷ g ∷ more) d = ⊥

-- ---- a model and a list, of which many commands begin

abbrev pub OnModelAndList : ModelAsked → List ℕ → (ModelData → Requests → List FileRead → Outcome → Type 0) → List FileRead → Outcome → Type 0
OnModelAndList model requests next =
    OnModelWord model (λ d. OnFile file.Requests requests (λ text. OnRequests d text (next d)))
