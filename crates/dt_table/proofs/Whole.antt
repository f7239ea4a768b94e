-- The problem of a list has a solving assignment exactly where some image satisfies the list.
use Rattle.dt_table.specs.Faithful.{SolutionsAreImages, SolutionsAreMemories, ImagesAreSolutions, ListsAreProblems}
use Rattle.std.proofs.Common.{◌≡◌, ℕ, ◌+◌, List, length, Some, true, sym, ap, ◌∙◌, subst, arith}
use Rattle.std.specs.Prelude.{slice_get}
use Rattle.std.specs.List.{flat_map}
use Rattle.std.proofs.lemmas.List.{length-map}
use Rattle.dt_bits.specs.Memory.{IsMemory, Fit}
use Rattle.dt_model.specs.ModelData.{ModelData}
use Rattle.dt_model.specs.Faults.{IsAccepted, HaveArities, steps}
use Rattle.dt_request.specs.declared.list.Requests.{Requests}
use Rattle.dt_request.specs.Lists.{IsList}
use Rattle.dt_terms.specs.declared.term.Term.{Term}
use Rattle.dt_terms.specs.Values.{IsAssignment, solves}
use Rattle.dt_walk.specs.Meaning.{env_of, unbound}
use Rattle.dt_image.specs.declared.image.Image.{Image}
use Rattle.dt_image.specs.declared.image.ImageAccess.{ImageAccess}
use Rattle.dt_satisfy.specs.Claims.{registers, run_of}
use Rattle.dt_satisfy.specs.Satisfies.{Satisfies}
use Rattle.dt_table.specs.Table.{table, choices, names_chosen, access_chosen}
use Rattle.dt_table.specs.Images.{image_told}
use Rattle.dt_table.specs.Numbers.{access_numbers, numbers_of}
use Rattle.dt_forms.proofs.Real.{assigned_values}
use Rattle.dt_forms.specs.Meaning.{values}
use Rattle.dt_table.proofs.Remembered.{Remembers}
use Rattle.dt_table.proofs.Rising.{walk_rising, rising_remembers}
use Rattle.dt_table.proofs.Extends.{are_choices, table_extends}
use Rattle.dt_table.proofs.Assigned.{FitTerms, terms_join, terms_length, contexts_terms, accesses_terms, first_assigned}
use Rattle.dt_table.proofs.Accepted.{ready_from}
use Rattle.dt_table.proofs.Theorem.{table_satisfies, image_solves, choice_place, ones_of}
use Rattle.dt_table.proofs.TableMemory.{told_memory}
use Rattle.dt_table.proofs.FineTable.{built_terms, table_terms}
use Rattle.dt_table.proofs.FineCount.{table_problem}

run_remembers : (d : ModelData) (i : Image) (a : ImageAccess) → Remembers i.memory (run_of d i a).reads
run_remembers d i a =
    rising_remembers (steps d) i.memory 0 (run_of d i a).reads
    (walk_rising (steps d) (env_of d (registers i a) a.inputs) i.memory (steps d) 0 0 unbound (λ j q x. let z : j ≡ 0 + j = omega arith in subst (λ (n : ℕ). slice_get (steps d) n ≡ Some q) z x))

numbers_fit : (d : ModelData) (r : Requests) (i : Image) → Fit i.memory.bytes i.memory.words → Satisfies d r i → FitTerms (choices d r) (numbers_of d i)
numbers_fit d r i f sat =
    let n : length i.accesses ≡ length r.accesses = sym (length-map i.accesses _) ∙ ap length sat.matches.accesses ∙ length-map r.accesses _ in
    terms_join (flat_map (λ _. names_chosen d.regs) r.contexts) (flat_map (λ _. access_chosen d) r.accesses) (flat_map (λ regs. regs) i.contexts) (flat_map (access_numbers d i) i.accesses)
    (contexts_terms d.regs r.contexts i.contexts sat.matches.contexts sat.image.contexts)
    (accesses_terms d i r.accesses i.accesses n sat.image.accesses sat.image.word f (run_remembers d i))

-- the numbers of a satisfying image are an assignment
pub image_assigned : (d : ModelData) (r : Requests) (i : Image) → Fit i.memory.bytes i.memory.words → Satisfies d r i → IsAssignment (table d r).terms (numbers_of d i)
image_assigned d r i f sat =
    let x = table_extends d r in
    subst (λ (l : List Term). IsAssignment l (numbers_of d i)) (sym x.1)
    (first_assigned (choices d r) x.0 (numbers_of d i) (λ t l. choice_place (choices d r) x.0 t (are_choices d r) l) (are_choices d r) x.2 (numbers_fit d r i f sat))

-- a solving assignment tells an image that satisfies
pub to_image : (d : ModelData) (r : Requests) (numbers : List ℕ) → IsAccepted d → HaveArities d → IsList d r → IsAssignment (table d r).terms numbers → solves (table d r) numbers ≡ true
    → Satisfies d r (image_told (values (table d r).terms numbers) d r)
to_image d r numbers a h list i s = table_satisfies d r numbers (ready_from d a h) list (table_terms d r a h list) i s

-- a satisfying image gives a solving assignment
pub from_image : (d : ModelData) (r : Requests) (i : Image) → IsAccepted d → HaveArities d → IsList d r → Fit i.memory.bytes i.memory.words → Satisfies d r i
    → IsAssignment (table d r).terms (numbers_of d i) × (solves (table d r) (numbers_of d i) ≡ true)
from_image d r i a h list f sat =
    let assigned = image_assigned d r i f sat in
    (assigned, image_solves d r i (ready_from d a h) list (built_terms d r a h list) (table_terms d r a h list) assigned (terms_length (choices d r) (numbers_of d i) (numbers_fit d r i f sat)) sat)

-- and its memory is a table memory
pub to_memory : (d : ModelData) (r : Requests) (numbers : List ℕ) → IsAccepted d → HaveArities d → IsList d r → IsAssignment (table d r).terms numbers → solves (table d r) numbers ≡ true
    → IsMemory (image_told (values (table d r).terms numbers) d r).memory
to_memory d r numbers a h list i s =
    let terms = (table d r).terms in
    let t = table_terms d r a h list in
    told_memory (values terms numbers) d r a h list (assigned_values terms numbers t i) (ones_of terms numbers (table d r).required s)

pub solutions_are_images : SolutionsAreImages
solutions_are_images = to_image

pub images_are_solutions : ImagesAreSolutions
images_are_solutions = from_image

pub solutions_are_memories : SolutionsAreMemories
solutions_are_memories = to_memory

pub lists_are_problems : ListsAreProblems
lists_are_problems = table_problem
