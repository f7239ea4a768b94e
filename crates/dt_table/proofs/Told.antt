-- What an access's terms tell of its walk: the walk itself, its end and its reads.
use Rattle.std.proofs.Common.{◌≡◌, ℕ, suc, ◌+◌, ◌<◌, Bool, true, false, cond, eqb, List, [], ◌∷◌, ◌++◌, length, map, get_or, Some, refl, sym, ap, ◌∙◌, subst, arith}
use Rattle.std.specs.Prelude.{slice_get}
use Rattle.std.specs.List.{flat_map, AllByRecursion}
use Rattle.std.proofs.lemmas.Bool.{false≢true}
use Rattle.std.proofs.lemmas.List.{length-map, map-append}
use Rattle.dt_lemmas.proofs.Lists.{AllByRecursion-append}
use Rattle.dt_bits.specs.Memory.{Memory, is_place}
use Rattle.dt_model.specs.ModelData.{ModelData, ActData, bind, read, branch, fault, done}
use Rattle.dt_model.specs.Faults.{steps}
use Rattle.dt_model.specs.Widths.{Scope}
use Rattle.dt_request.specs.declared.list.AccessWish.{AccessWish}
use Rattle.dt_request.specs.declared.list.Requests.{Requests}
use Rattle.dt_walk.specs.declared.run.End.{End}
use Rattle.dt_walk.specs.declared.run.End.TheVariants.{Done, Fault}
use Rattle.dt_walk.specs.declared.run.ReadMade.{ReadMade}
use Rattle.dt_walk.specs.Meaning.{env_of, unbound}
use Rattle.dt_walk.specs.Walks.{RunData, walk_of}
use Rattle.dt_satisfy.specs.Demands.{is_done, is_fault, is_page}
use Rattle.dt_forms.specs.Meaning.{Valuation, flag, is_one}
use Rattle.dt_table.specs.declared.out.Out.{Out}
use Rattle.dt_table.specs.Passing.{walk_placed}
use Rattle.dt_table.specs.Told.{told, told_step, made_if}
use Rattle.dt_table.specs.Claims.{reads_of}
use Rattle.dt_ways.specs.Ends.{ends_done, ends_fault, ends_page}
use Rattle.dt_table.specs.Table.{regs_at, inputs_at, words_at, access_of, first_state}
use Rattle.dt_table.specs.Images.{bits_from, reads_told}
use Rattle.dt_table.proofs.Remembered.{Remembers, Says, walk_said}
use Rattle.dt_table.proofs.Nodes.{IsStep, words_of, walk_told, ends_once}
use Rattle.dt_table.proofs.Accesses.{first_follows, length_outs, access_walk}
use Rattle.dt_table.proofs.Ends.{EndsBy, EndsOnce, AreTruths}
use Rattle.dt_table.proofs.Outs.{outs_away}
use Rattle.dt_table.proofs.Pairs.{is_made, read_made, all_made, AreTold}
use Rattle.dt_table.proofs.Words.{Agree, AllAgree}
use Rattle.dt_table.proofs.Ready.{IsReady, AreSet, Fits, access_is, access_left, access_wide}
use Rattle.dt_table.proofs.Composed.{IsPlaced}
use Rattle.dt_table.proofs.Flagged.{AllOuts, IsFlagged, outs_flagged}
use Rattle.dt_table.proofs.NodeKinds.{reads_have}
use Rattle.dt_table.proofs.Walked.{IsOn, AreOn, Walked, walk_walked}

-- what is known where an access stands
pub record AtAccess (v : Valuation) (d : ModelData) (r : Requests) (k : ℕ) (a : AccessWish) (m : Memory) : Type 0 where
  pub ready : IsReady d
  pub set : AreSet v d r
  pub context : a.context < length r.contexts
  pub access : k < length r.accesses
  pub fits : Fits d r m

abbrev pub regs_of : Valuation → ModelData → AccessWish → List ℕ
regs_of v d a = bits_from v (regs_at d a.context) d.regs

abbrev pub inputs_of : Valuation → ModelData → Requests → ℕ → List ℕ
inputs_of v d r k = bits_from v (inputs_at d r k) d.inputs

pub placed_flagged : (v : Valuation) (d : ModelData) (r : Requests) (k : ℕ) (a : AccessWish) (m : Memory) (os : List Out) → AtAccess v d r k a m → IsPlaced v d r k a os → AllOuts (IsFlagged v d.address) (steps d) os
placed_flagged v d r k a m os h p =
    let i = access_is v d r k a m h.ready h.set h.context h.access h.fits in
    subst (λ (l : List Out). AllOuts (IsFlagged v d.address) (steps d) l) (sym p.outs_are)
    (outs_flagged v (access_of d r k a) (env_of d (regs_of v d a) (inputs_of v d r k)) (is_place m) d.word (steps d) (steps d) (first_state (access_of d r k a) p.terms (words_at d r k)) 0 0 unbound i
    (access_left d r k a h.ready) (access_wide v d r k a p.terms h.set h.access) p.lawful (λ l. h.ready.nonempty) (first_follows v (access_of d r k a) d (regs_of v d a) (inputs_of v d r k) (is_place m) p.terms (words_at d r k) i))

pub placed_away : (v : Valuation) (d : ModelData) (r : Requests) (k : ℕ) (a : AccessWish) (m : Memory) (os : List Out) → AtAccess v d r k a m → IsPlaced v d r k a os → AreTruths v os
placed_away v d r k a m os h p =
    let i = access_is v d r k a m h.ready h.set h.context h.access h.fits in
    subst (λ (l : List Out). AreTruths v l) (sym p.outs_are)
    (outs_away v (access_of d r k a) (env_of d (regs_of v d a) (inputs_of v d r k)) (is_place m) d.word (steps d) (steps d) (first_state (access_of d r k a) p.terms (words_at d r k)) 0 0 unbound i
    (access_left d r k a h.ready) (access_wide v d r k a p.terms h.set h.access) p.lawful (λ l. h.ready.nonempty) (first_follows v (access_of d r k a) d (regs_of v d a) (inputs_of v d r k) (is_place m) p.terms (words_at d r k) i))

pub placed_ends : (v : Valuation) (d : ModelData) (r : Requests) (k : ℕ) (a : AccessWish) (m : Memory) (os : List Out) → AtAccess v d r k a m → IsPlaced v d r k a os → EndsOnce v (steps d) os (told v (steps d) os 0).end
placed_ends v d r k a m os h p =
    let i = access_is v d r k a m h.ready h.set h.context h.access h.fits in
    subst (λ (l : List Out). EndsOnce v (steps d) l (told v (steps d) l 0).end) (sym p.outs_are)
    (ends_once v (access_of d r k a) (env_of d (regs_of v d a) (inputs_of v d r k)) (is_place m) d.word (steps d) (steps d) (first_state (access_of d r k a) p.terms (words_at d r k)) 0 0 unbound i
    (access_left d r k a h.ready) (access_wide v d r k a p.terms h.set h.access) p.lawful (omega arith) h.ready.nonempty (first_follows v (access_of d r k a) d (regs_of v d a) (inputs_of v d r k) (is_place m) p.terms (words_at d r k) i))

pub placed_length : (v : Valuation) (d : ModelData) (r : Requests) (k : ℕ) (a : AccessWish) (os : List Out) → IsPlaced v d r k a os → length os ≡ length (steps d)
placed_length v d r k a os p = ap length p.outs_are ∙ length_outs (access_of d r k a) (steps d) (first_state (access_of d r k a) p.terms (words_at d r k)) 0

-- where the memory has the words that are told, its walk is the one that is told
pub placed_remembered : (v : Valuation) (d : ModelData) (r : Requests) (k : ℕ) (a : AccessWish) (m : Memory) (os : List Out) → AtAccess v d r k a m → IsPlaced v d r k a os → Remembers m (told v (steps d) os 0).reads
    → walk_of d (regs_of v d a) (inputs_of v d r k) m ≡ told v (steps d) os 0
placed_remembered v d r k a m os h p g =
    let i = access_is v d r k a m h.ready h.set h.context h.access h.fits in
    let e = p.outs_are in
    access_walk v (access_of d r k a) d (regs_of v d a) (inputs_of v d r k) m p.terms d.word (words_at d r k) i (access_left d r k a h.ready) (access_wide v d r k a p.terms h.set h.access) p.lawful h.ready.nonempty
    (subst (λ (l : List Out). Remembers m (told v (steps d) l 0).reads) e g)
    ∙ ap (λ (l : List Out). told v (steps d) l 0) (sym e)

-- where the words of the nodes are those that a memory's walk reads, that walk is the one that is told
pub placed_said : (v : Valuation) (d : ModelData) (r : Requests) (k : ℕ) (a : AccessWish) (m : Memory) (os : List Out) → AtAccess v d r k a m → IsPlaced v d r k a os → Says (λ n. get_or (words_of v os) n 0) (walk_of d (regs_of v d a) (inputs_of v d r k) m).reads
    → walk_of d (regs_of v d a) (inputs_of v d r k) m ≡ told v (steps d) os 0
placed_said v d r k a m os h p g =
    let i = access_is v d r k a m h.ready h.set h.context h.access h.fits in
    let acc = access_of d r k a in
    let s = first_state acc p.terms (words_at d r k) in
    let outs = (walk_placed acc s (steps d) 0).outs in
    let e : os ≡ outs = p.outs_are in
    let n : length (words_of v outs) ≡ length (steps d) = length-map outs (λ (o : Out). (v o.word).bits) ∙ length_outs acc (steps d) s 0 in
    walk_said (env_of d (regs_of v d a) (inputs_of v d r k)) m (λ n. get_or (words_of v os) n 0) (steps d) (words_of v outs) 0 0 unbound n
    (λ j l. let z : 0 + j ≡ j = omega arith in ap (λ (q : ℕ). get_or (words_of v os) q 0) z ∙ ap (λ (q : List Out). get_or (words_of v q) j 0) e) g
    ∙ walk_told v acc (env_of d (regs_of v d a) (inputs_of v d r k)) (is_place m) d.word (steps d) (steps d) s 0 0 unbound i (access_left d r k a h.ready) (access_wide v d r k a p.terms h.set h.access) p.lawful (omega arith) h.ready.nonempty
    (first_follows v acc d (regs_of v d a) (inputs_of v d r k) (is_place m) p.terms (words_at d r k) i)
    ∙ ap (λ (l : List Out). told v (steps d) l 0) (sym e)

-- ---- how the walk goes

step_on : (s : Scope) (address word count n : ℕ) (p : ActData) → IsStep s address word count n p → IsOn count n p
step_on s address word count n (bind x e to) k = (k.3, k.4)
step_on s address word count n (read x e g t o) k = (k.2, k.3, k.4, k.5)
step_on s address word count n (branch e t o) k = (k.1, k.2, k.3, k.4)
step_on s address word count n (fault c) k = tt
step_on s address word count n (done e p) k = tt

steps_on : (s : Scope) (address word : ℕ) (all ps : List ActData) (n : ℕ) → ((i : ℕ) (p : ActData) → slice_get all i ≡ Some p → IsStep s address word (length all) i p) → ((k : ℕ) (p : ActData) → slice_get ps k ≡ Some p → slice_get all (n + k) ≡ Some p) → AreOn (length all) n ps
steps_on s address word all [] n sound at = tt
steps_on s address word all (p ∷ ps) n sound at = (
  let z : n + 0 ≡ n = omega arith in step_on s address word (length all) n p (sound n p (subst (λ (j : ℕ). slice_get all j ≡ Some p) z (at 0 p refl))),
  steps_on s address word all ps (n + 1) sound (λ k q e. let z : n + suc k ≡ n + 1 + k = omega arith in subst (λ (j : ℕ). slice_get all j ≡ Some q) z (at (suc k) q e)),
)

pub placed_walked : (v : Valuation) (d : ModelData) (r : Requests) (k : ℕ) (a : AccessWish) (m : Memory) (os : List Out) → AtAccess v d r k a m → IsPlaced v d r k a os → Walked (steps d) 0 (told v (steps d) os 0)
placed_walked v d r k a m os h p =
    let i = access_is v d r k a m h.ready h.set h.context h.access h.fits in
    let acc = access_of d r k a in
    let s = first_state acc p.terms (words_at d r k) in
    let env = env_of d (regs_of v d a) (inputs_of v d r k) in
    let outs = (walk_placed acc s (steps d) 0).outs in
    let n : length (words_of v outs) ≡ length (steps d) = length-map outs (λ (o : Out). (v o.word).bits) ∙ length_outs acc (steps d) s 0 in
    let on = steps_on _ d.address d.word (steps d) (steps d) 0 h.ready.sound (λ j p e. let z : j ≡ 0 + j = omega arith in subst (λ (i : ℕ). slice_get (steps d) i ≡ Some p) z e) in
    subst (λ (l : List Out). Walked (steps d) 0 (told v (steps d) l 0)) (sym p.outs_are)
    (subst (λ (q : RunData). Walked (steps d) 0 q)
    (walk_told v acc env (is_place m) d.word (steps d) (steps d) s 0 0 unbound i (access_left d r k a h.ready) (access_wide v d r k a p.terms h.set h.access) p.lawful (omega arith) h.ready.nonempty
    (first_follows v acc d (regs_of v d a) (inputs_of v d r k) (is_place m) p.terms (words_at d r k) i))
    (walk_walked env (is_place m) (steps d) (words_of v outs) (steps d) 0 0 unbound on (λ j p e. let z : j ≡ 0 + j = omega arith in subst (λ (i : ℕ). slice_get (steps d) i ≡ Some p) z e) (omega arith) n (omega arith) h.ready.nonempty))

-- ---- reads

-- a read, whatever its node
abbrev pub plain : ReadMade → ReadMade
plain m = record { node = 0; cell = m.cell; word = m.word }

plain_if : (c b : Bool) (n cell word : ℕ) (rest : List ReadMade) (made : List ReadMade) → (b ≡ true → c ≡ true) → map plain rest ≡ made
    → map plain (cond c (made_if b (record { node = n; cell = cell; word = word }) rest) rest) ≡ cond b (record { node = 0; cell = cell; word = word } ∷ made) made
plain_if true true n cell word rest made h e = ap (λ (l : List ReadMade). record { node = 0; cell = cell; word = word } ∷ l) e
plain_if true false n cell word rest made h e = e
plain_if false true n cell word rest made h e = absurd (false≢true (h refl))
plain_if false false n cell word rest made h e = e

pub same_if : (b : Bool) (x y : RunData) → x.reads ≡ y.reads → (cond b x y).reads ≡ y.reads
same_if true x y e = e
same_if false x y e = refl

pub reads_if : (b : Bool) (x y : RunData) → (cond b x y).reads ≡ cond b x.reads y.reads
reads_if true x y = refl
reads_if false x y = refl

pub told_plain : (v : Valuation) (address : ℕ) (ps : List ActData) (os : List Out) (n : ℕ) → AllOuts (IsFlagged v address) ps os → map plain (told v ps os n).reads ≡ all_made v (reads_of ps os)
told_plain v address [] os n h = refl
told_plain v address (bind x e to ∷ ps) [] n h = refl
told_plain v address (read x e g t f ∷ ps) [] n h = refl
told_plain v address (branch e t f ∷ ps) [] n h = refl
told_plain v address (fault c ∷ ps) [] n h = refl
told_plain v address (done e p ∷ ps) [] n h = refl
told_plain v address (bind x e to ∷ ps) (o ∷ os) n h = let r = told v ps os (n + 1) in ap (map plain) (same_if (is_one (v o.come)) (told_step v n (bind x e to) o r) r refl) ∙ told_plain v address ps os (n + 1) h.1
told_plain v address (branch e t f ∷ ps) (o ∷ os) n h = let r = told v ps os (n + 1) in ap (map plain) (same_if (is_one (v o.come)) (told_step v n (branch e t f) o r) r refl) ∙ told_plain v address ps os (n + 1) h.1
told_plain v address (fault c ∷ ps) (o ∷ os) n h = let r = told v ps os (n + 1) in ap (map plain) (same_if (is_one (v o.come)) (told_step v n (fault c) o r) r refl) ∙ told_plain v address ps os (n + 1) h.1
told_plain v address (done e p ∷ ps) (o ∷ os) n h = let r = told v ps os (n + 1) in ap (map plain) (same_if (is_one (v o.come)) (told_step v n (done e p) o r) r refl) ∙ told_plain v address ps os (n + 1) h.1
told_plain v address (read x e g t f ∷ ps) (o ∷ os) n h =
    let r = told v ps os (n + 1) in
    ap (map plain) (reads_if (is_one (v o.come)) (told_step v n (read x e g t f) o r) r)
    ∙ plain_if (is_one (v o.come)) (is_one (v o.by_then)) n (v o.value).bits (v o.word).bits r.reads (all_made v (reads_of ps os)) h.0.comes (told_plain v address ps os (n + 1) h.1)

pub reads_flagged : (v : Valuation) (address : ℕ) (ps : List ActData) (os : List Out) → AllOuts (IsFlagged v address) ps os → AreTold v (reads_of ps os)
reads_flagged v address ps os h = reads_have (IsFlagged v address) (λ (o : Out). v o.by_then ≡ flag (is_made v o)) (λ x e g t f o k. k.then_is) ps os h

made_append : (v : Valuation) (xs ys : List Out) → all_made v (xs ++ ys) ≡ all_made v xs ++ all_made v ys
made_append v [] ys = refl
made_append v (o ∷ xs) ys = by_made (is_made v o) (made_append v xs ys)
  where
    by_made : (b : Bool) → all_made v (xs ++ ys) ≡ all_made v xs ++ all_made v ys
        → cond b (read_made v o ∷ all_made v (xs ++ ys)) (all_made v (xs ++ ys)) ≡ cond b (read_made v o ∷ all_made v xs) (all_made v xs) ++ all_made v ys
    by_made true e = ap (λ (l : List ReadMade). read_made v o ∷ l) e
    by_made false e = e

one_agrees : (m : ReadMade) (ms : List ReadMade) → AllByRecursion (Agree (plain m)) (map plain ms) → AllByRecursion (Agree m) ms
one_agrees m [] h = tt
one_agrees m (n ∷ ms) h = (h.0, one_agrees m ms h.1)

pub plain_agree : (ms : List ReadMade) → AllAgree (map plain ms) → AllAgree ms
plain_agree [] h = tt
plain_agree (m ∷ ms) h = (one_agrees m ms h.0, plain_agree ms h.1)

agrees_one : (m : ReadMade) (ms : List ReadMade) → AllByRecursion (Agree m) ms → AllByRecursion (Agree (plain m)) (map plain ms)
agrees_one m [] h = tt
agrees_one m (n ∷ ms) h = (h.0, agrees_one m ms h.1)

pub agree_plain : (ms : List ReadMade) → AllAgree ms → AllAgree (map plain ms)
agree_plain [] h = tt
agree_plain (m ∷ ms) h = (agrees_one m ms h.0, agree_plain ms h.1)

-- ---- ends

pub done_same : (end : End) (p : ActData) → EndsBy p end → ends_done p ≡ is_done end
done_same (Done n pa q) (done x y) h = refl
done_same (Done n pa q) (fault k) h = absurd h
done_same (Done n pa q) (bind x y to) h = absurd h
done_same (Done n pa q) (read x y g t o) h = absurd h
done_same (Done n pa q) (branch y t o) h = absurd h
done_same (Fault n c) (fault k) h = refl
done_same (Fault n c) (done x y) h = absurd h
done_same (Fault n c) (bind x y to) h = absurd h
done_same (Fault n c) (read x y g t o) h = absurd h
done_same (Fault n c) (branch y t o) h = absurd h

pub fault_same : (code : ℕ) (end : End) (p : ActData) → EndsBy p end → ends_fault code p ≡ is_fault code end
fault_same code (Fault n c) (fault k) h = ap (λ (m : ℕ). eqb m code) (sym h)
fault_same code (Fault n c) (done x q) h = absurd h
fault_same code (Fault n c) (bind x y to) h = absurd h
fault_same code (Fault n c) (read x y g t o) h = absurd h
fault_same code (Fault n c) (branch y t o) h = absurd h
fault_same code (Done n pa q) (done x y) h = refl
fault_same code (Done n pa q) (fault k) h = absurd h
fault_same code (Done n pa q) (bind x y to) h = absurd h
fault_same code (Done n pa q) (read x y g t o) h = absurd h
fault_same code (Done n pa q) (branch y t o) h = absurd h

pub page_same : (page : ℕ) (end : End) (p : ActData) → EndsBy p end → ends_page page p ≡ is_page page end
page_same page (Done n pa q) (done x y) h = ap (λ (m : ℕ). eqb m page) (sym h)
page_same page (Done n pa q) (fault k) h = absurd h
page_same page (Done n pa q) (bind x y to) h = absurd h
page_same page (Done n pa q) (read x y g t o) h = absurd h
page_same page (Done n pa q) (branch y t o) h = absurd h
page_same page (Fault n c) (fault k) h = refl
page_same page (Fault n c) (done x y) h = absurd h
page_same page (Fault n c) (bind x y to) h = absurd h
page_same page (Fault n c) (read x y g t o) h = absurd h
page_same page (Fault n c) (branch y t o) h = absurd h

-- ---- all of it

-- what the terms of an access's nodes have, whatever values the choices have
pub record AreNodes (v : Valuation) (d : ModelData) (os : List Out) : Type 0 where
  pub count : length os ≡ length (steps d)
  pub flagged : AllOuts (IsFlagged v d.address) (steps d) os
  pub away : AreTruths v os
  pub ends : EndsOnce v (steps d) os (told v (steps d) os 0).end
  pub walked : Walked (steps d) 0 (told v (steps d) os 0)

pub placed_nodes : (v : Valuation) (d : ModelData) (r : Requests) (k : ℕ) (a : AccessWish) (m : Memory) (os : List Out) → AtAccess v d r k a m → IsPlaced v d r k a os → AreNodes v d os
placed_nodes v d r k a m os h p = record { count = placed_length v d r k a os p; flagged = placed_flagged v d r k a m os h p; away = placed_away v d r k a m os h p; ends = placed_ends v d r k a m os h p; walked = placed_walked v d r k a m os h p }

-- the terms of all accesses
abbrev pub AllNodes : Valuation → ModelData → List (List Out) → Type 0
AllNodes v d oss = AllByRecursion (AreNodes v d) oss

pub told_all : (v : Valuation) (d : ModelData) (oss : List (List Out)) → AllNodes v d oss → map plain (reads_told v (steps d) oss) ≡ all_made v (flat_map (reads_of (steps d)) oss)
told_all v d [] h = refl
told_all v d (os ∷ oss) h =
    map-append plain (told v (steps d) os 0).reads (reads_told v (steps d) oss)
    ∙ ap (λ (l : List ReadMade). l ++ map plain (reads_told v (steps d) oss)) (told_plain v d.address (steps d) os 0 h.0.flagged)
    ∙ ap (λ (l : List ReadMade). all_made v (reads_of (steps d) os) ++ l) (told_all v d oss h.1)
    ∙ sym (made_append v (reads_of (steps d) os) (flat_map (reads_of (steps d)) oss))

pub all_told : (v : Valuation) (d : ModelData) (oss : List (List Out)) → AllNodes v d oss → AreTold v (flat_map (reads_of (steps d)) oss)
all_told v d [] h = tt
all_told v d (os ∷ oss) h = AllByRecursion-append (λ (o : Out). v o.by_then ≡ flag (is_made v o)) (reads_of (steps d) os) (flat_map (reads_of (steps d)) oss) (reads_flagged v d.address (steps d) os h.0.flagged) (all_told v d oss h.1)
