-- The problem of a list and the images of the list are the same: each solution tells an image that satisfies, and each image that satisfies gives a solution.
use Rattle.std.specs.Prelude.{◌≡◌, ℕ, true, List}
use Rattle.dt_bits.specs.Memory.{Fit, IsMemory}
use Rattle.dt_model.specs.ModelData.{ModelData}
use Rattle.dt_model.specs.Faults.{IsAccepted, HaveArities}
use Rattle.dt_request.specs.declared.list.Requests.{Requests}
use Rattle.dt_request.specs.Lists.{IsList}
use Rattle.dt_image.specs.declared.image.Image.{Image}
use Rattle.dt_satisfy.specs.Satisfies.{Satisfies}
use Rattle.dt_terms.specs.Problem.{IsProblem}
use Rattle.dt_terms.specs.Values.{IsAssignment, solves}
use Rattle.dt_forms.specs.Meaning.{values}
use Rattle.dt_table.specs.Images.{image_told}
use Rattle.dt_table.specs.Numbers.{numbers_of}
use Rattle.dt_table.specs.Sizes.{IsWithin}
use Rattle.dt_table.specs.Table.{table}

-- numbers for the choices that make each required term 1 tell an image that satisfies the list
abbrev pub SolutionsAreImages : Type 0
SolutionsAreImages = (d : ModelData) (r : Requests) (numbers : List ℕ) → IsAccepted d → HaveArities d → IsList d r
    → IsAssignment (table d r).terms numbers → solves (table d r) numbers ≡ true → Satisfies d r (image_told (values (table d r).terms numbers) d r)

-- an image that satisfies the list gives numbers for the choices that make each required term 1
abbrev pub ImagesAreSolutions : Type 0
ImagesAreSolutions = (d : ModelData) (r : Requests) (i : Image) → IsAccepted d → HaveArities d → IsList d r
    → Fit i.memory.bytes i.memory.words → Satisfies d r i → IsAssignment (table d r).terms (numbers_of d i) × (solves (table d r) (numbers_of d i) ≡ true)

-- the memory of the image that a solution tells is a table memory
abbrev pub SolutionsAreMemories : Type 0
SolutionsAreMemories = (d : ModelData) (r : Requests) (numbers : List ℕ) → IsAccepted d → HaveArities d → IsList d r
    → IsAssignment (table d r).terms numbers → solves (table d r) numbers ≡ true → IsMemory (image_told (values (table d r).terms numbers) d r).memory

-- a list of an accepted model that is within the limits has a problem: its terms are well formed, what is required is one bit wide, and there is room for it
abbrev pub ListsAreProblems : Type 0
ListsAreProblems = (d : ModelData) (r : Requests) → IsAccepted d → HaveArities d → IsList d r → IsWithin d r → IsProblem (table d r)
