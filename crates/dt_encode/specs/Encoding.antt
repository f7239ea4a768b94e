-- What makes a problem that of a list.
use Rattle.std.specs.Prelude.{◌≡◌, ℕ, true, List, map, sum_by}
use Rattle.dt_bits.specs.Memory.{Fit}
use Rattle.dt_model.specs.ModelData.{ModelData}
use Rattle.dt_request.specs.declared.list.Requests.{Requests}
use Rattle.dt_request.specs.Choices.{choice_bits}
use Rattle.dt_image.specs.declared.image.Image.{Image}
use Rattle.dt_satisfy.specs.Satisfies.{Satisfies}
use Rattle.dt_terms.specs.Terms.{term_at, bits_at, choices_of}
use Rattle.dt_terms.specs.Problem.{ProblemData}
use Rattle.dt_terms.specs.Values.{IsAssignment, solves}
use Rattle.dt_forms.specs.Meaning.{values}
use Rattle.dt_table.specs.Images.{image_told}
use Rattle.dt_table.specs.Numbers.{numbers_of}
use Rattle.dt_table.specs.Table.{choices, table, built}
use Rattle.dt_encode.specs.declared.building.Encoded.{Encoded}

-- numbers that solve the problem tell an image that satisfies the list
abbrev pub TellsImages : ModelData → Requests → ProblemData → Type 0
TellsImages d r p = (numbers : List ℕ) → IsAssignment p.terms numbers → solves p numbers ≡ true → Satisfies d r (image_told (values p.terms numbers) d r)

-- an image that satisfies the list gives numbers that solve the problem
abbrev pub TakesImages : ModelData → Requests → ProblemData → Type 0
TakesImages d r p = (i : Image) → Fit i.memory.bytes i.memory.words → Satisfies d r i → IsAssignment p.terms (numbers_of d i) × (solves p (numbers_of d i) ≡ true)

-- the choices are those of the list in order, and have as many bits
pub record HasChoices (d : ModelData) (r : Requests) (p : ProblemData) : Type 0 where
  pub choices : map (term_at p.terms) (choices_of p.terms) ≡ choices d r
  pub bits : sum_by (bits_at p.terms) (choices_of p.terms) ≡ choice_bits d r

-- the problem of a list, and for each access what stands for its nodes
pub record IsEncoded (d : ModelData) (r : Requests) (e : Encoded) : Type 0 where
  pub problem : e.problem ≡ table d r
  pub outs : map (λ row. row.items) e.outs.items ≡ (built d r).outs
