-- `make N`: the text of the generated list of N accesses of the shipped model of Sv39.
use Rattle.std.specs.Prelude.{ℕ, List, [], ◌∷◌, Option, Some, None, if◌then◌else◌}
use Rattle.std.specs.Option.{option_and_then}
use Rattle.dt_request.specs.Print.{printed}
use Rattle.dt_sv39.specs.Shipped.{sv39_data}
use Rattle.dt_make.specs.Made.{can_be_made, made}
use Rattle.dt_top.specs.Course.{FileRead, Outcome, Answered}
use Rattle.dt_top.specs.Words.{word_number}
use Rattle.dt_top.specs.declared.commands.make.MakeJob.{MakeJob}
use Rattle.dt_top.specs.declared.status.Status.TheVariants as status

-- ---- its words

-- how many accesses the list has
pub record Make : Type 0 where
  pub n : ℕ

-- what a number asks for: a list of so many accesses, where there is one
abbrev pub make_with : ℕ → Option Make
make_with n = if can_be_made n then Some (record { n = n }) else None

-- what the words after the command's name ask for
abbrev pub make_of : List (List ℕ) → Option Make
make_of (count ∷ []) = option_and_then make_with (word_number count)
make_of _ = None

-- what the code asks for
abbrev pub make_asked : MakeJob → Make
make_asked job = record { n = job.n }

-- ---- its answer, for which no file is read

-- the text of the list of so many accesses
abbrev pub made_text : ℕ → List ℕ
made_text n = printed sv39_data (made n)

abbrev pub Making : Make → List FileRead → Outcome → Type 0
Making job = Answered status.Good (made_text job.n)
