-- What values tell depends on their numbers alone, and not on their widths.
use Rattle.std.proofs.Common.{◌≡◌, ℕ, zero, suc, ◌+◌, ◌-◌, ◌<◌, cond, List, [], ◌∷◌, ◌++◌, length, drop, get_or, refl, sym, ap, ◌∙◌, arith, append_assoc, add-one, drop-cons}
use Rattle.dt_lemmas.proofs.Lists.{element}
use Rattle.dt_bits.specs.Bits.{width}
use Rattle.dt_model.specs.declared.model.Named.{Named}
use Rattle.dt_model.specs.ModelData.{ModelData, ActData, bind, read, branch, fault, done}
use Rattle.dt_model.specs.Faults.{steps}
use Rattle.dt_request.specs.declared.list.AccessWish.{AccessWish}
use Rattle.dt_request.specs.declared.list.Requests.{Requests}
use Rattle.dt_walk.specs.Walks.{RunData}
use Rattle.dt_walk.specs.declared.run.ReadMade.{ReadMade}
use Rattle.dt_image.specs.declared.image.ImageAccess.{ImageAccess}
use Rattle.dt_terms.specs.declared.term.Term.{Term}
use Rattle.dt_terms.specs.Values.{values_of}
use Rattle.dt_forms.specs.Meaning.{Valuation, is_one, values}
use Rattle.dt_table.specs.declared.out.Out.{Out}
use Rattle.dt_table.specs.Told.{told, told_step}
use Rattle.dt_table.specs.Words.{words_read}
use Rattle.dt_table.specs.Table.{regs_at, inputs_at, built}
use Rattle.dt_table.specs.Images.{bits_from, contexts_told, accesses_told, reads_told, image_told}
use Rattle.dt_encode.specs.Telling.{valued}

-- the values, of which only the numbers count
abbrev plain : Valuation → Valuation
plain v t = record { width = width 128; bits = (v t).bits }

bits_plain : (v : Valuation) (at : ℕ) (ns : List Named) → bits_from (plain v) at ns ≡ bits_from v at ns
bits_plain v at [] = refl
bits_plain v at (n ∷ ns) = ap (λ (l : List ℕ). (v at).bits ∷ l) (bits_plain v (at + 1) ns)

contexts_plain : (v : Valuation) (d : ModelData) (n c : ℕ) → contexts_told (plain v) d n c ≡ contexts_told v d n c
contexts_plain v d zero c = refl
contexts_plain v d (suc n) c =
    ap (λ (regs : List ℕ). regs ∷ contexts_told (plain v) d n (c + 1)) (bits_plain v (regs_at d c) d.regs)
    ∙ ap (λ (l : List (List ℕ)). bits_from v (regs_at d c) d.regs ∷ l) (contexts_plain v d n (c + 1))

abbrev access_with : AccessWish → List ℕ → ImageAccess
access_with a inputs = record { context = a.context; inputs = inputs }

accesses_plain : (v : Valuation) (d : ModelData) (r : Requests) (k : ℕ) (wishes : List AccessWish) → accesses_told (plain v) d r k wishes ≡ accesses_told v d r k wishes
accesses_plain v d r k [] = refl
accesses_plain v d r k (a ∷ more) =
    ap (λ (inputs : List ℕ). access_with a inputs ∷ accesses_told (plain v) d r (k + 1) more) (bits_plain v (inputs_at d r k) d.inputs)
    ∙ ap (λ (l : List ImageAccess). access_with a (bits_from v (inputs_at d r k) d.inputs) ∷ l) (accesses_plain v d r (k + 1) more)

step_plain : (v : Valuation) (n : ℕ) (p : ActData) (o : Out) (r : RunData) → told_step (plain v) n p o r ≡ told_step v n p o r
step_plain v n (bind x e to) o r = refl
step_plain v n (read x e g t f) o r = refl
step_plain v n (branch e t f) o r = refl
step_plain v n (fault c) o r = refl
step_plain v n (done e p) o r = refl

told_plain : (v : Valuation) (ps : List ActData) (os : List Out) (n : ℕ) → told (plain v) ps os n ≡ told v ps os n
told_plain v [] os n = refl
told_plain v (p ∷ ps) [] n = refl
told_plain v (p ∷ ps) (o ∷ os) n =
    ap (λ (r : RunData). cond (is_one (v o.come)) (told_step (plain v) n p o r) r) (told_plain v ps os (n + 1))
    ∙ ap (λ (r : RunData). cond (is_one (v o.come)) r (told v ps os (n + 1))) (step_plain v n p o (told v ps os (n + 1)))

reads_plain : (v : Valuation) (ps : List ActData) (oss : List (List Out)) → reads_told (plain v) ps oss ≡ reads_told v ps oss
reads_plain v ps [] = refl
reads_plain v ps (os ∷ oss) =
    ap (λ (r : RunData). r.reads ++ reads_told (plain v) ps oss) (told_plain v ps os 0)
    ∙ ap (λ (l : List ReadMade). (told v ps os 0).reads ++ l) (reads_plain v ps oss)

image_plain : (v : Valuation) (d : ModelData) (r : Requests) → image_told (plain v) d r ≡ image_told v d r
image_plain v d r = λ i. record {
  memory = record { bytes = (image_told v d r).memory.bytes; lo = r.lo; hi = r.hi; words = words_read (reads_plain v (steps d) (built d r).outs i) };
  contexts = contexts_plain v d (length r.contexts) 0 i;
  accesses = accesses_plain v d r 0 r.accesses i;
}

-- the image that the numbers of all terms tell
pub image_valued : (d : ModelData) (r : Requests) (terms : List Term) (numbers : List ℕ) → image_told (valued (values_of terms numbers)) d r ≡ image_told (values terms numbers) d r
image_valued d r terms numbers = image_plain (values terms numbers) d r

-- ---- one more

-- the number of the next name
pub bits_more : (v : Valuation) (at i : ℕ) (ns : List Named) (numbers : List ℕ) (x : ℕ) → i < length ns → x ≡ (v (at + i)).bits
    → numbers ++ bits_from v (at + i) (drop i ns) ≡ (numbers ++ x ∷ []) ++ bits_from v (at + (i + 1)) (drop (i + 1) ns)
bits_more v at i ns numbers x l e =
    let n = element ns i l in
    let j : suc i ≡ i + 1 = sym (add-one i) in
    let k : at + i + 1 ≡ at + (i + 1) = omega arith in
    let rest = bits_from v (at + (i + 1)) (drop (i + 1) ns) in
    ap (λ (ms : List Named). numbers ++ bits_from v (at + i) ms) (drop-cons ns i n.0 l ∙ ap (λ (m : ℕ). get_or ns i n.0 ∷ drop m ns) j)
    ∙ ap (λ (m : ℕ). numbers ++ (v (at + i)).bits ∷ bits_from v m (drop (i + 1) ns)) k
    ∙ ap (λ (m : ℕ). numbers ++ m ∷ rest) (sym e)
    ∙ sym (append_assoc numbers (x ∷ []) rest)

-- the registers of the next context
pub contexts_more : (v : Valuation) (d : ModelData) (n c : ℕ) (before : List (List ℕ)) (regs : List ℕ) → c < n → regs ≡ bits_from v (regs_at d c) d.regs
    → before ++ contexts_told v d (n - c) c ≡ (before ++ regs ∷ []) ++ contexts_told v d (n - (c + 1)) (c + 1)
contexts_more v d n c before regs l e =
    let m : n - c ≡ suc (n - (c + 1)) = omega (arith, l) in
    let rest = contexts_told v d (n - (c + 1)) (c + 1) in
    ap (λ (k : ℕ). before ++ contexts_told v d k c) m
    ∙ ap (λ (r : List ℕ). before ++ r ∷ rest) (sym e)
    ∙ sym (append_assoc before (regs ∷ []) rest)

-- the next access
pub accesses_more : (v : Valuation) (d : ModelData) (r : Requests) (k : ℕ) (wishes : List AccessWish) (before : List ImageAccess) (a : AccessWish) (inputs : List ℕ) → k < length wishes → a ≡ get_or wishes k a → inputs ≡ bits_from v (inputs_at d r k) d.inputs
    → before ++ accesses_told v d r k (drop k wishes) ≡ (before ++ record { context = a.context; inputs = inputs } ∷ []) ++ accesses_told v d r (k + 1) (drop (k + 1) wishes)
accesses_more v d r k wishes before a inputs l at e =
    let j : suc k ≡ k + 1 = sym (add-one k) in
    let rest = accesses_told v d r (k + 1) (drop (k + 1) wishes) in
    ap (λ (ws : List AccessWish). before ++ accesses_told v d r k ws) (drop-cons wishes k a l ∙ ap (λ (w : AccessWish). w ∷ drop (suc k) wishes) (sym at) ∙ ap (λ (m : ℕ). a ∷ drop m wishes) j)
    ∙ ap (λ (ns : List ℕ). before ++ access_with a ns ∷ rest) (sym e)
    ∙ sym (append_assoc before (access_with a inputs ∷ []) rest)
