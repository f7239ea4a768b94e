-- What an image's lists have at a place.
use Rattle.std.proofs.Common.{◌≡◌, ℕ, ◌<◌, List, [], length, get_or, map, sym, ap, ◌∙◌, subst}
use Rattle.std.proofs.lemmas.List.{get_or-map, get_or_default}
use Rattle.dt_bits.specs.Memory.{Memory}
use Rattle.dt_model.specs.ModelData.{ModelData}
use Rattle.dt_walk.specs.Walks.{RunData, walk_of}
use Rattle.dt_image.specs.declared.image.Image.{Image}
use Rattle.dt_image.specs.declared.image.ImageAccess.{ImageAccess}
use Rattle.dt_walk.specs.declared.run.Run.{Run}
use Rattle.dt_walk.specs.Walkers.{run_data}
use Rattle.dt_satisfy.specs.Claims.{registers, run_of, runs_of, made_of, all_made}

pub registers_at : (image : Image) (contexts : List (List ℕ)) (a : ImageAccess) (regs x : List ℕ) → contexts ≡ image.contexts → a.context < length image.contexts → regs ≡ x → x ≡ get_or contexts a.context x → regs ≡ registers image a
registers_at image contexts a regs x e l r h =
    r ∙ h
    ∙ ap (λ (cs : List (List ℕ)). get_or cs a.context x) e
    ∙ get_or_default image.contexts a.context x [] l

pub run_made : (d w : ModelData) (image : Image) (a : ImageAccess) (regs inputs : List ℕ) (memory : Memory) (run : RunData) → run ≡ walk_of w regs inputs memory → w ≡ d → regs ≡ registers image a → inputs ≡ a.inputs → memory ≡ image.memory → run ≡ run_of d image a
run_made d w image a regs inputs memory run h e r i m =
    h
    ∙ ap (λ (x : ModelData). walk_of x regs inputs memory) e
    ∙ ap (λ (x : List ℕ). walk_of d x inputs memory) r
    ∙ ap (λ (x : List ℕ). walk_of d (registers image a) x memory) i
    ∙ ap (walk_of d (registers image a) a.inputs) m

-- the run at a place is that of the access there
pub run_at : (d : ModelData) (image : Image) (accesses : List ImageAccess) (runs : List Run) (i : ℕ) (a : ImageAccess) (r : Run) → accesses ≡ image.accesses → map run_data runs ≡ runs_of d image → i < length accesses → i < length runs → a ≡ get_or accesses i a → r ≡ get_or runs i r → run_data r ≡ run_of d image a
run_at d image accesses runs i a r e s l m h g =
    let n : i < length image.accesses = subst (λ (xs : List ImageAccess). i < length xs) e l in
    ap run_data g
    ∙ sym (get_or-map run_data runs i r (run_data r) m)
    ∙ ap (λ (xs : List RunData). get_or xs i (run_data r)) s
    ∙ get_or-map (run_of d image) image.accesses i a (run_data r) n
    ∙ ap (run_of d image) (sym (h ∙ ap (λ (xs : List ImageAccess). get_or xs i a) e))

-- what the code borrows of an access is the access that is made
pub made_same : (d : ModelData) (image : Image) (a : ImageAccess) (regs inputs : List ℕ) (run : RunData) → regs ≡ registers image a → inputs ≡ a.inputs → run ≡ run_of d image a → record { regs = regs; inputs = inputs; run = run } ≡ made_of d image a
made_same d image a regs inputs run p q r = λ j. record { regs = p j; inputs = q j; run = r j }

pub made_at : (d : ModelData) (image : Image) (accesses : List ImageAccess) (i : ℕ) (a : ImageAccess) → accesses ≡ image.accesses → i < length accesses → a ≡ get_or accesses i a → made_of d image a ≡ get_or (all_made d image) i (made_of d image a)
made_at d image accesses i a e l h =
    let n : i < length image.accesses = subst (λ (xs : List ImageAccess). i < length xs) e l in
    ap (made_of d image) (h ∙ ap (λ (xs : List ImageAccess). get_or xs i a) e)
    ∙ sym (get_or-map (made_of d image) image.accesses i a (made_of d image a) n)
