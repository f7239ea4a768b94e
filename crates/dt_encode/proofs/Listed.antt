-- The words of the image that a solution tells lie at the cells of the reads that its accesses make.
use Rattle.std.proofs.Common.{◌≡◌, ℕ, ◌+◌, Bool, true, false, ◌||◌, cond, eqb, ltb, List, [], ◌∷◌, map, refl, sym, ap, ◌∙◌}
use Rattle.std.specs.List.{list_any}
use Rattle.std.proofs.lemmas.Bool.{eqb-true}
use Rattle.std.proofs.lemmas.List.Folds.{list_any-append}
use Rattle.dt_bits.specs.declared.memory.Word.{Word}
use Rattle.dt_bits.specs.Memory.{Memory, IsMemory}
use Rattle.dt_model.specs.ModelData.{ModelData, ActData}
use Rattle.dt_model.specs.Faults.{IsAccepted, HaveArities, steps}
use Rattle.dt_request.specs.declared.list.AccessWish.{AccessWish}
use Rattle.dt_request.specs.declared.list.Requests.{Requests}
use Rattle.dt_request.specs.Lists.{IsList}
use Rattle.dt_walk.specs.Walks.{RunData, walk_of}
use Rattle.dt_walk.specs.declared.run.ReadMade.{ReadMade}
use Rattle.dt_image.specs.declared.image.Image.{Image}
use Rattle.dt_satisfy.specs.Claims.{run_of}
use Rattle.dt_satisfy.specs.Satisfies.{Satisfies}
use Rattle.dt_terms.specs.Values.{IsAssignment, solves}
use Rattle.dt_forms.specs.Meaning.{Valuation, values}
use Rattle.dt_forms.proofs.Real.{assigned_values}
use Rattle.dt_table.specs.declared.out.Out.{Out}
use Rattle.dt_table.specs.Told.{told}
use Rattle.dt_table.specs.Words.{word_at, with_word, words_read}
use Rattle.dt_table.specs.Images.{accesses_told, reads_told, image_told}
use Rattle.dt_table.specs.Table.{table, built}
use Rattle.dt_table.proofs.Told.{inputs_of}
use Rattle.dt_table.proofs.Claimed.{seen, access_told, registers_told, HaveContexts, AllTold}
use Rattle.dt_table.proofs.Accepted.{ready_from}
use Rattle.dt_table.proofs.FineTable.{table_terms}
use Rattle.dt_table.proofs.Satisfying.{solving_from}
use Rattle.dt_table.proofs.Theorem.{ones_of}
use Rattle.dt_table.proofs.Whole.{to_image, to_memory}
use Rattle.dt_encode.specs.ReadWords.{is_listed, reads_cell, ListsReads}

-- ---- words of reads

twice : (a b : Bool) → (a || b) ≡ (a || (a || b))
twice true b = refl
twice false b = refl

swapped : (a b c : Bool) → (a || (b || c)) ≡ (b || (a || c))
swapped true true c = refl
swapped true false c = refl
swapped false b c = refl

listed_with : (a x : ℕ) (ws : List Word) (b : ℕ) → is_listed (with_word a x ws) b ≡ (eqb a b || is_listed ws b)
listed_with a x [] b = refl
listed_with a x (w ∷ ws) b = by_order (ltb a w.address) (eqb a w.address) refl (listed_with a x ws b)
  where
    by_order : (l e : Bool) → eqb a w.address ≡ e → is_listed (with_word a x ws) b ≡ (eqb a b || is_listed ws b)
        → is_listed (cond l (word_at a x ∷ w ∷ ws) (cond e (word_at a x ∷ ws) (w ∷ with_word a x ws))) b ≡ (eqb a b || (eqb w.address b || is_listed ws b))
    by_order true e q h = refl
    by_order false true q h = twice (eqb a b) (is_listed ws b) ∙ ap (λ (k : ℕ). eqb a b || (eqb k b || is_listed ws b)) (eqb-true a w.address q)
    by_order false false q h = ap (λ (c : Bool). eqb w.address b || c) h ∙ swapped (eqb w.address b) (eqb a b) (is_listed ws b)

words_listed : (rs : List ReadMade) (b : ℕ) → is_listed (words_read rs) b ≡ list_any (λ (m : ReadMade). eqb m.cell b) rs
words_listed [] b = refl
words_listed (r ∷ rs) b = listed_with r.cell r.word (words_read rs) b ∙ ap (λ (c : Bool). eqb r.cell b || c) (words_listed rs b)

-- ---- runs

reads_any : (v : Valuation) (ps : List ActData) (oss : List (List Out)) (b : ℕ) → list_any (λ (m : ReadMade). eqb m.cell b) (reads_told v ps oss) ≡ reads_cell (map (λ os. told v ps os 0) oss) b
reads_any v ps [] b = refl
reads_any v ps (os ∷ oss) b =
    let test : ReadMade → Bool = λ m. eqb m.cell b in
    list_any-append test (told v ps os 0).reads (reads_told v ps oss) ∙ ap (λ (c : Bool). list_any test (told v ps os 0).reads || c) (reads_any v ps oss b)

-- each access's run is the one that is told
runs_told : (v : Valuation) (d : ModelData) (r : Requests) (m : Memory) (k : ℕ) (wishes : List AccessWish) (oss : List (List Out)) → HaveContexts r wishes → AllTold v d r m k wishes oss
    → map (run_of d (seen v d r m)) (accesses_told v d r k wishes) ≡ map (λ os. told v (steps d) os 0) oss
runs_told v d r m k [] [] c h = refl
runs_told v d r m k [] (os ∷ oss) c h = absurd h
runs_told v d r m k (a ∷ more) [] c h = absurd h
runs_told v d r m k (a ∷ more) (os ∷ oss) c h =
    let rest = map (run_of d (seen v d r m)) (accesses_told v d r (k + 1) more) in
    let own : run_of d (seen v d r m) (access_told v d r k a) ≡ told v (steps d) os 0 = ap (λ (regs : List ℕ). walk_of d regs (inputs_of v d r k) m) (registers_told v d r m k a c.0) ∙ h.0 in
    ap (λ (run : RunData). run ∷ rest) own ∙ ap (λ (l : List RunData). told v (steps d) os 0 ∷ l) (runs_told v d r m (k + 1) more oss c.1 h.1)

pub told_lists : (d : ModelData) (r : Requests) (numbers : List ℕ) → IsAccepted d → HaveArities d → IsList d r → IsAssignment (table d r).terms numbers → solves (table d r) numbers ≡ true
    → ListsReads d (image_told (values (table d r).terms numbers) d r)
told_lists d r numbers a h list i s b =
    let terms = (table d r).terms in
    let v = values terms numbers in
    let t = table_terms d r a h list in
    let oss = (built d r).outs in
    let all = solving_from v d r (ready_from d a h) list (assigned_values terms numbers t i) (ones_of terms numbers (table d r).required s) in
    words_listed (reads_told v (steps d) oss) b
    ∙ reads_any v (steps d) oss b
    ∙ ap (λ (runs : List RunData). reads_cell runs b) (sym (runs_told v d r (image_told v d r).memory 0 r.accesses oss all.given.contexts all.walks))

-- what holds of the image that a solution tells
pub record Holds (d : ModelData) (r : Requests) (i : Image) : Type 0 where
  pub satisfies : Satisfies d r i
  pub memory : IsMemory i.memory
  pub words : ListsReads d i

pub told_holds : (d : ModelData) (r : Requests) (numbers : List ℕ) → IsAccepted d → HaveArities d → IsList d r → IsAssignment (table d r).terms numbers → solves (table d r) numbers ≡ true
    → Holds d r (image_told (values (table d r).terms numbers) d r)
told_holds d r numbers a h list i s = record {
  satisfies = to_image d r numbers a h list i s;
  memory = to_memory d r numbers a h list i s;
  words = told_lists d r numbers a h list i s;
}
