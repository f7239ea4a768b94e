-- Values whose choices have an image's numbers tell that image.
use Rattle.std.proofs.Common.{◌≡◌, ℕ, zero, suc, ◌+◌, ◌*◌, ◌<◌, Bool, true, false, cond, List, [], ◌∷◌, ◌++◌, length, map, get_or, refl, sym, ap, ◌∙◌, subst, arith, length-append}
use Rattle.std.specs.List.{flat_map, AllByRecursion}
use Rattle.std.proofs.lemmas.Bool.{false≢true}
use Rattle.dt_model.specs.declared.model.Named.{Named as NamedWidth}
use Rattle.dt_model.specs.ModelData.{ModelData, ActData, bind, read, branch, fault, done}
use Rattle.dt_model.specs.Faults.{steps, is_read}
use Rattle.dt_model.specs.Values.{FitNames}
use Rattle.dt_request.specs.declared.list.AccessWish.{AccessWish}
use Rattle.dt_request.specs.declared.list.Requests.{Requests}
use Rattle.dt_request.specs.Choices.{read_nodes}
use Rattle.dt_walk.specs.declared.run.ReadMade.{ReadMade}
use Rattle.dt_image.specs.declared.image.Image.{Image}
use Rattle.dt_image.specs.declared.image.ImageAccess.{ImageAccess}
use Rattle.dt_satisfy.specs.Claims.{run_of}
use Rattle.dt_forms.specs.Meaning.{Valuation}
use Rattle.dt_table.specs.Passing.{Access, State, passed, noted, walk_placed}
use Rattle.dt_table.specs.Table.{regs_at, inputs_at, words_at}
use Rattle.dt_table.specs.Images.{bits_from, contexts_told, accesses_told}
use Rattle.dt_table.specs.Numbers.{word_in, words_for, access_numbers}
use Rattle.dt_table.proofs.Nodes.{words_of}
use Rattle.dt_table.proofs.Ready.{reads_in, reads_in_nodes, word_next}
use Rattle.dt_table.proofs.Rising.{ReadAt}

-- the terms from a position on have these numbers
abbrev pub HaveBits : Valuation → ℕ → List ℕ → Type 0
HaveBits v at [] = Unit {0}
HaveBits v at (x ∷ xs) = ((v at).bits ≡ x) × HaveBits v (at + 1) xs

pub bits_split : (v : Valuation) (xs ys : List ℕ) (at : ℕ) → HaveBits v at (xs ++ ys) → HaveBits v at xs × HaveBits v (at + length xs) ys
bits_split v [] ys at h = (tt, let z : at ≡ at + 0 = omega arith in subst (λ (j : ℕ). HaveBits v j ys) z h)
bits_split v (x ∷ xs) ys at h =
    let r = bits_split v xs ys (at + 1) h.1 in
    ((h.0, r.0), let z : at + 1 + length xs ≡ at + suc (length xs) = omega arith in subst (λ (j : ℕ). HaveBits v j ys) z r.1)

pub fit_length : (ns : List NamedWidth) (xs : List ℕ) → FitNames ns xs → length xs ≡ length ns
fit_length [] [] h = refl
fit_length [] (x ∷ xs) h = absurd h
fit_length (n ∷ ns) [] h = absurd h
fit_length (n ∷ ns) (x ∷ xs) h = ap suc (fit_length ns xs h.1)

bits_back : (v : Valuation) (ns : List NamedWidth) (xs : List ℕ) (at : ℕ) → FitNames ns xs → HaveBits v at xs → bits_from v at ns ≡ xs
bits_back v [] [] at f h = refl
bits_back v [] (x ∷ xs) at f h = absurd f
bits_back v (n ∷ ns) [] at f h = absurd f
bits_back v (n ∷ ns) (x ∷ xs) at f h = ap (λ (b : ℕ). b ∷ bits_from v (at + 1) ns) h.0 ∙ ap (λ (l : List ℕ). x ∷ l) (bits_back v ns xs (at + 1) f.1 h.1)

next_times : (c n : ℕ) → c * n + n ≡ (c + 1) * n
next_times c n = omega arith

pub contexts_back : (v : Valuation) (d : ModelData) (cs : List (List ℕ)) (c : ℕ) → AllByRecursion (FitNames d.regs) cs → HaveBits v (regs_at d c) (flat_map (λ regs. regs) cs) → contexts_told v d (length cs) c ≡ cs
contexts_back v d [] c f h = refl
contexts_back v d (x ∷ cs) c f h =
    let p = bits_split v x (flat_map (λ regs. regs) cs) (regs_at d c) h in
    let e : regs_at d c + length x ≡ regs_at d (c + 1) = ap (λ (n : ℕ). regs_at d c + n) (fit_length d.regs x f.0) ∙ next_times c (length d.regs) in
    ap (λ (l : List ℕ). l ∷ contexts_told v d (length cs) (c + 1)) (bits_back v d.regs x (regs_at d c) f.0 p.0)
    ∙ ap (λ (l : List (List ℕ)). x ∷ l) (contexts_back v d cs (c + 1) f.1 (subst (λ (j : ℕ). HaveBits v j (flat_map (λ regs. regs) cs)) e p.1))

pub contexts_total : (d : ModelData) (cs : List (List ℕ)) → AllByRecursion (FitNames d.regs) cs → length (flat_map (λ regs. regs) cs) ≡ length cs * length d.regs
contexts_total d [] f = omega arith
contexts_total d (x ∷ cs) f =
    let e = fit_length d.regs x f.0 in
    let r = contexts_total d cs f.1 in
    let z = next_times (length cs) (length d.regs) in
    let y : suc (length cs) * length d.regs ≡ (length cs + 1) * length d.regs = ap (λ (n : ℕ). n * length d.regs) (let q : suc (length cs) ≡ length cs + 1 = omega arith in q) in
    length-append x (flat_map (λ regs. regs) cs) ∙ omega (arith, e, r, z, y)

-- ---- accesses

words_length : (ps : List ActData) (reads : List ReadMade) (n : ℕ) → length (words_for ps reads n) ≡ reads_in ps
words_length [] reads n = refl
words_length (p ∷ ps) reads n = by_step (is_read p) (words_length ps reads (n + 1))
  where
    by_step : (b : Bool) → length (words_for ps reads (n + 1)) ≡ reads_in ps → length (cond b (word_in reads n ∷ words_for ps reads (n + 1)) (words_for ps reads (n + 1))) ≡ cond b 1 0 + reads_in ps
    by_step true h = omega (arith, h)
    by_step false h = omega (arith, h)

-- each access has its words
abbrev pub HaveWords : Valuation → ModelData → Requests → Image → ℕ → List ImageAccess → Type 0
HaveWords v d r i k [] = Unit {0}
HaveWords v d r i k (a ∷ more) = HaveBits v (words_at d r k) (words_for (steps d) (run_of d i a).reads 0) × HaveWords v d r i (k + 1) more

abbrev FitInputs : ModelData → ℕ → List ImageAccess → Type 0
FitInputs d count accesses = AllByRecursion (λ (a : ImageAccess). (a.context < count) × FitNames d.inputs a.inputs) accesses

next_place : (base k n : ℕ) → base + k * n + n ≡ base + (k + 1) * n
next_place base k n = let z = next_times k n in omega (arith, z)

pub accesses_back : (v : Valuation) (d : ModelData) (r : Requests) (i : Image) (count : ℕ) (wishes : List AccessWish) (accesses : List ImageAccess) (k : ℕ) → map (λ a. a.context) accesses ≡ map (λ a. a.context) wishes → FitInputs d count accesses
    → HaveBits v (inputs_at d r k) (flat_map (access_numbers d i) accesses) → (accesses_told v d r k wishes ≡ accesses) × HaveWords v d r i k accesses
accesses_back v d r i count [] [] k e f h = (refl, tt)
accesses_back v d r i count [] (x ∷ xs) k e f h = absurd (cc)
accesses_back v d r i count (a ∷ more) [] k e f h = absurd (cc)
accesses_back v d r i count (a ∷ more) (x ∷ xs) k e f h =
    let own = words_for (steps d) (run_of d i x).reads 0 in
    let p = bits_split v (access_numbers d i x) (flat_map (access_numbers d i) xs) (inputs_at d r k) h in
    let q = bits_split v x.inputs own (inputs_at d r k) p.0 in
    let n : length x.inputs ≡ length d.inputs = fit_length d.inputs x.inputs f.0.1 in
    let m : length own ≡ read_nodes d = words_length (steps d) (run_of d i x).reads 0 ∙ reads_in_nodes d.nodes in
    let e1 : inputs_at d r k + length x.inputs ≡ words_at d r k = ap (λ (j : ℕ). inputs_at d r k + j) n in
    let e2 : inputs_at d r k + length (access_numbers d i x) ≡ inputs_at d r (k + 1) =
    ap (λ (j : ℕ). inputs_at d r k + j) (length-append x.inputs own ∙ ap (λ (j : ℕ). j + length own) n ∙ ap (λ (j : ℕ). length d.inputs + j) m)
    ∙ next_place (length r.contexts * length d.regs) k (length d.inputs + read_nodes d) in
    let same : a.context ≡ x.context = cc in
    let tail : map (λ a. a.context) xs ≡ map (λ a. a.context) more = cc in
    let rest = accesses_back v d r i count more xs (k + 1) tail f.1 (subst (λ (j : ℕ). HaveBits v j (flat_map (access_numbers d i) xs)) e2 p.1) in (
      ap (λ (c : ℕ). record { context = c; inputs = bits_from v (inputs_at d r k) d.inputs } ∷ accesses_told v d r (k + 1) more) same
          ∙ ap (λ (l : List ℕ). record { context = x.context; inputs = l } ∷ accesses_told v d r (k + 1) more) (bits_back v d.inputs x.inputs (inputs_at d r k) f.0.1 q.0)
          ∙ ap (λ (l : List ImageAccess). x ∷ l) rest.0,
      (subst (λ (j : ℕ). HaveBits v j own) e1 q.1, rest.1),
    )

-- ---- the words of nodes

pub word_there : (a : Access) (s : State) (n : ℕ) (p : ActData) → is_read p ≡ true → (passed a s n p).out.word ≡ s.word
word_there a s n (bind x e to) h = absurd (false≢true h)
word_there a s n (read x e g t o) h = refl
word_there a s n (branch e t o) h = absurd (false≢true h)
word_there a s n (fault c) h = absurd (false≢true h)
word_there a s n (done e p) h = absurd (false≢true h)

pub words_back : (v : Valuation) (a : Access) (reads : List ReadMade) (ps : List ActData) (s : State) (n : ℕ) → HaveBits v s.word (words_for ps reads n)
    → (k : ℕ) → ReadAt ps k → get_or (words_of v (walk_placed a s ps n).outs) k 0 ≡ word_in reads (n + k)
words_back v a reads [] s n h k at = absurd (let e = at.1 in cc)
words_back v a reads (p ∷ ps) s n h zero at =
    let same : p ≡ at.0 = let e = at.1 in cc in
    let b : is_read p ≡ true = ap is_read same ∙ at.2 in
    let z : n ≡ n + 0 = omega arith in
    let g : HaveBits v s.word (word_in reads n ∷ words_for ps reads (n + 1)) = subst (λ (c : Bool). HaveBits v s.word (cond c (word_in reads n ∷ words_for ps reads (n + 1)) (words_for ps reads (n + 1)))) b h in
    ap (λ (t : ℕ). (v t).bits) (word_there a (noted s n) n p b) ∙ g.0 ∙ ap (word_in reads) z
words_back v a reads (p ∷ ps) s n h (suc k) at =
    let z : n + 1 + k ≡ n + suc k = omega arith in
    words_back v a reads ps (passed a (noted s n) n p).state (n + 1) (subst (λ (j : ℕ). HaveBits v j (words_for ps reads (n + 1))) (sym (word_next a (noted s n) n p)) (by_step (is_read p) h)) k at
    ∙ ap (word_in reads) z
  where
    by_step : (b : Bool) → HaveBits v s.word (cond b (word_in reads n ∷ words_for ps reads (n + 1)) (words_for ps reads (n + 1))) → HaveBits v (cond b 1 0 + s.word) (words_for ps reads (n + 1))
    by_step true g = let y : s.word + 1 ≡ 1 + s.word = omega arith in subst (λ (j : ℕ). HaveBits v j (words_for ps reads (n + 1))) y g.1
    by_step false g = let y : s.word ≡ 0 + s.word = omega arith in subst (λ (j : ℕ). HaveBits v j (words_for ps reads (n + 1))) y g
