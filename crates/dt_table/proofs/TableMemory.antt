-- The memory of the image that a solving assignment tells is a table memory.
use Rattle.std.proofs.Common.{◌≡◌, ℕ, ◌+◌, ◌*◌, ◌/◌, ◌<◌, ◌≤◌, ◌^◌, Bool, true, false, cond, List, [], ◌∷◌, length, refl, sym, ap, ◌∙◌, subst, arith, lit<}
use Rattle.std.specs.List.{AllByRecursion}
use Rattle.std.proofs.Math.Nat.{pow-le-pow_right}
use Rattle.dt_lemmas.proofs.Lists.{AllByRecursion-append}
use Rattle.dt_bits.specs.Memory.{Memory, IsMemory}
use Rattle.dt_bits.specs.declared.memory.Word.{Word}
use Rattle.dt_model.specs.ModelData.{ModelData, ActData, bind, read, branch, fault, done}
use Rattle.dt_model.specs.Faults.{IsAccepted, HaveArities, steps, is_read}
use Rattle.dt_model.proofs.Accepting.{accepted_bytes, accepted_address}
use Rattle.dt_request.specs.declared.list.AccessWish.{AccessWish}
use Rattle.dt_request.specs.declared.list.Requests.{Requests}
use Rattle.dt_request.specs.Lists.{IsList}
use Rattle.dt_walk.specs.declared.run.ReadMade.{ReadMade}
use Rattle.dt_walk.specs.Meaning.{env_of, unbound}
use Rattle.dt_walk.specs.Walks.{RunData}
use Rattle.dt_forms.specs.Meaning.{Valuation, AreValues, is_one}
use Rattle.dt_table.specs.declared.out.Out.{Out}
use Rattle.dt_table.specs.Passing.{Access, State, passed, noted, walk_placed}
use Rattle.dt_table.specs.Told.{told, told_step, made_if}
use Rattle.dt_table.specs.Words.{words_read}
use Rattle.dt_table.specs.Table.{words_at, access_of, first_state, built, table}
use Rattle.dt_table.specs.Images.{image_told, reads_told}
use Rattle.dt_forms.specs.Claims.{AreOnes}
use Rattle.dt_table.proofs.Nodes.{WordsWide}
use Rattle.dt_table.proofs.Ready.{AreSet, set_from, access_wide}
use Rattle.dt_table.proofs.Composed.{ArePlaced, table_starts, table_placed}
use Rattle.dt_table.proofs.Flagged.{AllOuts}
use Rattle.dt_table.proofs.Told.{regs_of, inputs_of}
use Rattle.dt_table.proofs.Claimed.{AllTold}
use Rattle.dt_table.proofs.Satisfying.{solving_from}
use Rattle.dt_table.proofs.Numbers.{word_there}
use Rattle.dt_table.proofs.Accepted.{ready_from}
use Rattle.dt_table.proofs.Memories.{words_sorted, sorted_rising, words_all, ArePlaces, walk_places, words_placed}

abbrev IsWorded : Valuation → ℕ → ActData → Out → Type 0
IsWorded v word p o = is_read p ≡ true → (v o.word).width.0 ≡ word

outs_worded : (v : Valuation) (a : Access) (word : ℕ) (ps : List ActData) (s : State) (n : ℕ) → WordsWide v a word s ps n → AllOuts (IsWorded v word) ps (walk_placed a s ps n).outs
outs_worded v a word [] s n h = tt
outs_worded v a word (p ∷ ps) s n h = (λ q. ap (λ (t : ℕ). (v t).width.0) (word_there a (noted s n) n p q) ∙ h.0 q, outs_worded v a word ps (passed a (noted s n) n p).state (n + 1) h.1)

abbrev AreFitting : ℕ → List ReadMade → Type 0
AreFitting word rs = AllByRecursion (λ (r : ReadMade). r.word < 2 ^ word) rs

fits_if : (word : ℕ) (b : Bool) (x y : RunData) → AreFitting word x.reads → AreFitting word y.reads → AreFitting word (cond b x y).reads
fits_if word true x y h k = h
fits_if word false x y h k = k

made_fits : (word : ℕ) (b : Bool) (m : ReadMade) (rs : List ReadMade) → m.word < 2 ^ word → AreFitting word rs → AreFitting word (made_if b m rs)
made_fits word true m rs h k = (h, k)
made_fits word false m rs h k = k

step_fits : (v : Valuation) (word n : ℕ) (p : ActData) (o : Out) (r : RunData) → ((t : ℕ) → (v t).bits < 2 ^ (v t).width.0) → IsWorded v word p o → AreFitting word r.reads → AreFitting word (told_step v n p o r).reads
step_fits v word n (bind x e to) o r g h k = k
step_fits v word n (branch e t f) o r g h k = k
step_fits v word n (fault c) o r g h k = k
step_fits v word n (done e p) o r g h k = k
step_fits v word n (read x e m t f) o r g h k =
    made_fits word (is_one (v o.by_then)) (record { node = n; cell = (v o.value).bits; word = (v o.word).bits }) r.reads (subst (λ (w : ℕ). (v o.word).bits < 2 ^ w) (h refl) (g o.word)) k

told_fits : (v : Valuation) (word : ℕ) (ps : List ActData) (os : List Out) (n : ℕ) → ((t : ℕ) → (v t).bits < 2 ^ (v t).width.0) → AllOuts (IsWorded v word) ps os → AreFitting word (told v ps os n).reads
told_fits v word [] os n g h = tt
told_fits v word (p ∷ ps) [] n g h = tt
told_fits v word (p ∷ ps) (o ∷ os) n g h =
    let r = told v ps os (n + 1) in
    let k = told_fits v word ps os (n + 1) g h.1 in
    fits_if word (is_one (v o.come)) (told_step v n p o r) r (step_fits v word n p o r g h.0 k) k

all_fit : (v : Valuation) (d : ModelData) (r : Requests) (wishes : List AccessWish) (oss : List (List Out)) (k : ℕ) → AreSet v d r → k + length wishes ≤ length r.accesses → ArePlaced v d r k wishes oss → AreFitting d.word (reads_told v (steps d) oss)
all_fit v d r [] [] k set l p = tt
all_fit v d r [] (os ∷ oss) k set l p = absurd p
all_fit v d r (a ∷ more) [] k set l p = absurd p
all_fit v d r (a ∷ more) (os ∷ oss) k set l p =
    let own = p.0 in
    let worded = outs_worded v (access_of d r k a) d.word (steps d) (first_state (access_of d r k a) own.terms (words_at d r k)) 0 (access_wide v d r k a own.terms set (omega (arith, l))) in
    AllByRecursion-append (λ (m : ReadMade). m.word < 2 ^ d.word) (told v (steps d) os 0).reads (reads_told v (steps d) oss)
    (told_fits v d.word (steps d) os 0 set.range (subst (λ (q : List Out). AllOuts (IsWorded v d.word) (steps d) q) (sym own.outs_are) worded))
    (all_fit v d r more oss (k + 1) set (omega (arith, l)) p.1)

all_places : (v : Valuation) (d : ModelData) (r : Requests) (m : Memory) (wishes : List AccessWish) (oss : List (List Out)) (k : ℕ) → AllTold v d r m k wishes oss → ArePlaces m (reads_told v (steps d) oss)
all_places v d r m [] [] k h = tt
all_places v d r m [] (os ∷ oss) k h = absurd h
all_places v d r m (a ∷ more) [] k h = absurd h
all_places v d r m (a ∷ more) (os ∷ oss) k h =
    AllByRecursion-append _ (told v (steps d) os 0).reads (reads_told v (steps d) oss)
    (subst (λ (q : RunData). ArePlaces m q.reads) h.0 (walk_places (env_of d (regs_of v d a) (inputs_of v d r k)) m (steps d) 0 0 unbound)) (all_places v d r m more oss (k + 1) h.1)

-- ---- the whole

pub told_memory : (v : Valuation) (d : ModelData) (r : Requests) → IsAccepted d → HaveArities d → IsList d r → AreValues v (table d r).terms → AreOnes v (table d r).required → IsMemory (image_told v d r).memory
told_memory v d r a arities list h ones =
    let ready = ready_from d a arities in
    let starts = table_starts v d r h in
    let set = set_from v d r h.ranged starts.1 in
    let oss = (built d r).outs in
    let m = (image_told v d r).memory in
    let reads = reads_told v (steps d) oss in
    let most : 2 ^ d.address ≤ 2 ^ 64 = pow-le-pow_right (lit< tt) (accepted_address d a).1 in
    let within = list.bounds.within in
    record {
      bytes = (accepted_bytes d a).0;
      lo = list.bounds.lo_whole;
      hi = list.bounds.hi_whole;
      order = list.bounds.rising;
      end = omega (arith, most, within);
      rising = sorted_rising (words_read reads) (words_sorted reads);
      words = words_placed m reads (all_places v d r m r.accesses oss 0 (solving_from v d r ready list h ones).walks);
      fit = words_all (λ (w : Word). w.value < 2 ^ (8 * (d.word / 8))) reads (subst (λ (n : ℕ). AllByRecursion (λ (q : ReadMade). q.word < 2 ^ n) reads) ready.word (all_fit v d r r.accesses oss 0 set (omega arith) (table_placed v d r starts.0)));
    }
