-- What is built of a list is its problem, and what is told of its values its image.
use Rattle.std.proofs.Common.{◌≡◌, ℕ, List, [], ◌∷◌, ◌++◌, length, ap, ◌∙◌}
use Rattle.dt_bits.specs.declared.memory.Word.{Word}
use Rattle.dt_model.specs.ModelData.{ModelData, ActData}
use Rattle.dt_model.specs.Bounds.{word_bytes}
use Rattle.dt_model.specs.Faults.{steps}
use Rattle.dt_request.specs.declared.list.Requests.{Requests}
use Rattle.dt_image.specs.declared.image.Image.{Image}
use Rattle.dt_image.specs.declared.image.ImageAccess.{ImageAccess}
use Rattle.dt_terms.specs.declared.term.Term.{Term}
use Rattle.dt_terms.specs.Problem.{ProblemData}
use Rattle.dt_terms.specs.Values.{values_of}
use Rattle.dt_forms.specs.Meaning.{values}
use Rattle.dt_forms.specs.Placing.{place_const}
use Rattle.dt_build.specs.Building.{placed_in, of_choices, claimed}
use Rattle.dt_unroll.specs.Building.{problem_of}
use Rattle.dt_table.specs.declared.out.Out.{Out}
use Rattle.dt_table.specs.Table.{choices, bit_node, start, built, table, claim_forms, extra_forms}
use Rattle.dt_table.specs.Images.{contexts_told, accesses_told, reads_told, image_told}
use Rattle.dt_table.specs.Words.{words_read}
use Rattle.dt_table.proofs.Extends.{are_choices}
use Rattle.dt_encode.specs.Telling.{valued}
use Rattle.dt_encode.specs.Widths.{choice_widths}
use Rattle.dt_encode.proofs.Widths.{choices_are}
use Rattle.dt_encode.proofs.Constants.{zero_placed, one_placed}
use Rattle.dt_encode.proofs.Valued.{image_valued}

abbrev with_terms : List Term → ProblemData
with_terms terms = record { terms = terms; required = [] }

-- choices, and then the two constants
pub started : (d : ModelData) (r : Requests) (a b c : ProblemData) → a ≡ of_choices (choice_widths d r) → b ≡ placed_in a (place_const a.terms 1 0) → c ≡ placed_in b (place_const b.terms 1 1) → c ≡ problem_of (start d r)
started d r a b c e f g =
    let first : a ≡ with_terms (choices d r) = e ∙ ap with_terms (choices_are d r) in
    let second : b ≡ with_terms (choices d r ++ bit_node 0 ∷ []) = f ∙ ap (λ (p : ProblemData). placed_in p (place_const p.terms 1 0)) first ∙ ap with_terms (zero_placed (choices d r) (are_choices d r)) in
    g ∙ ap (λ (p : ProblemData). placed_in p (place_const p.terms 1 1)) second ∙ ap with_terms (one_placed (choices d r) (are_choices d r))

-- the claims make it whole
pub finished : (d : ModelData) (r : Requests) (p : ProblemData) (rows : List (List Out)) → p ≡ problem_of (built d r) → rows ≡ (built d r).outs → claimed p (claim_forms d r rows ++ extra_forms d r p.terms rows) ≡ table d r
unfolding table
finished d r p rows e f =
    ap (λ (q : ProblemData). claimed q (claim_forms d r rows ++ extra_forms d r q.terms rows)) e
    ∙ ap (λ (os : List (List Out)). claimed (problem_of (built d r)) (claim_forms d r os ++ extra_forms d r (built d r).terms os)) f

-- the image whose parts are told
pub image_built : (d : ModelData) (r : Requests) (numbers xs : List ℕ) (bytes : ℕ) (ps : List ActData) (rows : List (List Out)) (words : List Word) (contexts : List (List ℕ)) (accesses : List ImageAccess)
    → xs ≡ values_of (table d r).terms numbers → bytes ≡ word_bytes d → ps ≡ steps d → rows ≡ (built d r).outs → words ≡ words_read (reads_told (valued xs) ps rows)
    → contexts ≡ contexts_told (valued xs) d (length r.contexts) 0 → accesses ≡ accesses_told (valued xs) d r 0 r.accesses
    → record { memory = record { bytes = bytes; lo = r.lo; hi = r.hi; words = words }; contexts = contexts; accesses = accesses } ≡ image_told (values (table d r).terms numbers) d r
image_built d r numbers xs bytes ps rows words contexts accesses ex eb ep er ew ec ea =
    let all : words ≡ words_read (reads_told (valued xs) (steps d) (built d r).outs) =
    ew ∙ ap (λ (qs : List ActData). words_read (reads_told (valued xs) qs rows)) ep ∙ ap (λ (os : List (List Out)). words_read (reads_told (valued xs) (steps d) os)) er in
    let parts : Image = record { memory = record { bytes = bytes; lo = r.lo; hi = r.hi; words = words }; contexts = contexts; accesses = accesses } in
    let told : parts ≡ image_told (valued xs) d r = λ i. record { memory = record { bytes = eb i; lo = r.lo; hi = r.hi; words = all i }; contexts = ec i; accesses = ea i } in
    told ∙ ap (λ (ys : List ℕ). image_told (valued ys) d r) ex ∙ image_valued d r (table d r).terms numbers
