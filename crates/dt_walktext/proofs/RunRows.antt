-- Rows printed one after the other.
use Rattle.std.proofs.Common.{◌≡◌, ℕ, ◌+◌, ◌<◌, List, [], ◌∷◌, ◌++◌, length, take, get_or, refl, sym, ap, ◌∙◌, append_assoc, append-nil, arith, add-zero}
use Rattle.std.specs.Prelude.{map, codes}
use Rattle.std.proofs.lemmas.List.{map_push, take_more, length-map, length-take}
use Rattle.std.proofs.lemmas.List.Concat.{flat_map-append}
use Rattle.dt_lex.specs.Numeral.{decimal}
use Rattle.dt_lex.specs.Printing.{row_text, text_of}
use Rattle.dt_model.specs.ModelData.{ModelData}
use Rattle.dt_image.specs.declared.image.Image.{Image}
use Rattle.dt_image.specs.declared.image.ImageAccess.{ImageAccess}
use Rattle.dt_satisfy.specs.Claims.{run_of}
use Rattle.dt_walk.specs.declared.run.ReadMade.{ReadMade}
use Rattle.dt_walk.specs.Walks.{RunData}
use Rattle.dt_request.proofs.Printed.{node_some, node_none}
use Rattle.dt_walktext.specs.Printed.{read_row, end_row, run_rows, rows_from}

pub ruleset names = (node_some, node_none)

-- one more row
row_last : (rows : List (List (List ℕ))) (row : List (List ℕ)) → text_of (rows ++ row ∷ []) ≡ text_of rows ++ row_text row
row_last rows row = flat_map-append row_text rows (row ∷ []) ∙ ap (λ (t : List ℕ). text_of rows ++ t) (append-nil (row_text row))

-- one more read
pub read_more : (d : ModelData) (reads : List ReadMade) (i : ℕ) (r : ReadMade) → i < length reads → text_of (map (read_row d) (take (i + 1) reads)) ≡ text_of (map (read_row d) (take i reads)) ++ row_text (read_row d (get_or reads i r))
read_more d reads i r lt =
    ap (λ (rs : List ReadMade). text_of (map (read_row d) rs)) (take_more reads i r lt)
    ∙ ap text_of (map_push (read_row d) (take i reads) (get_or reads i r))
    ∙ row_last (map (read_row d) (take i reads)) (read_row d (get_or reads i r))

-- the parts of a run's text
pub run_text : (d : ModelData) (k : ℕ) (run : RunData) → text_of (run_rows d k run) ≡ row_text (codes "access" ∷ decimal k ∷ []) ++ (text_of (map (read_row d) run.reads) ++ row_text (end_row d run.end))
run_text d k run = ap (λ (t : List ℕ). row_text (codes "access" ∷ decimal k ∷ []) ++ t) (row_last (map (read_row d) run.reads) (end_row d run.end))

-- one more run
rows_last : (d : ModelData) (k : ℕ) (runs : List RunData) (run : RunData) → rows_from d k (runs ++ run ∷ []) ≡ rows_from d k runs ++ run_rows d (k + length runs) run
rows_last d k [] run = append-nil (run_rows d k run) ∙ ap (λ j. run_rows d j run) (sym (add-zero k))
rows_last d k (r ∷ rs) run =
    let e : k + 1 + length rs ≡ k + length (r ∷ rs) = omega arith in
    ap (λ (l : List (List (List ℕ))). run_rows d k r ++ l) (rows_last d (k + 1) rs run ∙ ap (λ j. rows_from d (k + 1) rs ++ run_rows d j run) e)
    ∙ sym (append_assoc (run_rows d k r) (rows_from d (k + 1) rs) (run_rows d (k + length (r ∷ rs)) run))

-- the text of the first accesses' walks, and one more
pub walks_more : (d : ModelData) (image : Image) (accesses : List ImageAccess) (k : ℕ) (a : ImageAccess) (run : RunData) (old new : List ℕ) → k < length accesses → a ≡ get_or accesses k a → run ≡ run_of d image a
    → old ≡ text_of (rows_from d 0 (map (run_of d image) (take k accesses))) → new ≡ old ++ text_of (run_rows d k run) → new ≡ text_of (rows_from d 0 (map (run_of d image) (take (k + 1) accesses)))
walks_more d image accesses k a run old new lt e r h n =
    let before : List RunData = map (run_of d image) (take k accesses) in
    let count : k ≡ 0 + length before = omega (arith, length-map (take k accesses) (run_of d image), length-take k accesses) in
    n
    ∙ ap (λ (t : List ℕ). t ++ text_of (run_rows d k run)) h
    ∙ ap (λ (x : RunData). text_of (rows_from d 0 before) ++ text_of (run_rows d k x)) (r ∙ ap (run_of d image) e)
    ∙ ap (λ j. text_of (rows_from d 0 before) ++ text_of (run_rows d j (run_of d image (get_or accesses k a)))) count
    ∙ sym (flat_map-append row_text (rows_from d 0 before) (run_rows d (0 + length before) (run_of d image (get_or accesses k a))))
    ∙ ap text_of (sym (rows_last d 0 before (run_of d image (get_or accesses k a))))
    ∙ ap (λ (runs : List RunData). text_of (rows_from d 0 runs)) (sym (ap (map (run_of d image)) (take_more accesses k a lt) ∙ map_push (run_of d image) (take k accesses) (get_or accesses k a)))
