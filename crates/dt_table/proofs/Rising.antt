-- The reads of a walk are of read nodes, each once, and of the memory's words.
use Rattle.std.proofs.Common.{◌≡◌, ℕ, suc, ◌+◌, ◌<◌, ◌≤◌, Bool, true, false, cond, eqb, List, [], ◌∷◌, Some, None, refl, sym, ap, ◌∙◌, subst, arith}
use Rattle.std.specs.Prelude.{slice_get}
use Rattle.std.specs.List.{AllByRecursion}
use Rattle.std.proofs.lemmas.Bool.{eq-eqb, ne_eqb}
use Rattle.dt_bits.specs.Memory.{Memory, is_place, listed}
use Rattle.dt_model.specs.ModelData.{ActData, bind, read, branch, fault, done}
use Rattle.dt_model.specs.Faults.{is_read}
use Rattle.dt_walk.specs.declared.run.ReadMade.{ReadMade}
use Rattle.dt_walk.specs.Meaning.{EnvData, Vars, bound, value_at}
use Rattle.dt_walk.specs.Walks.{RunData, read_of, acted, walk_from}
use Rattle.dt_table.specs.Numbers.{word_in}
use Rattle.dt_table.proofs.Remembered.{Remembers, Says}
use Rattle.dt_table.proofs.Words.{Agree, AllAgree}

abbrev pub ReadAt : List ActData → ℕ → Type 0
ReadAt steps n = (p : ActData) × (slice_get steps n ≡ Some p) × (is_read p ≡ true)

-- the reads are of later and later read nodes, the first of them from node n on, and give the memory's words
abbrev pub AreRising : List ActData → Memory → ℕ → List ReadMade → Type 0
AreRising steps m n [] = Unit {0}
AreRising steps m n (r ∷ rs) = (n ≤ r.node) × ReadAt steps r.node × (listed m.words r.cell ≡ r.word) × AreRising steps m (r.node + 1) rs

earlier : (steps : List ActData) (m : Memory) (n : ℕ) (rs : List ReadMade) → AreRising steps m (n + 1) rs → AreRising steps m n rs
earlier steps m n [] h = tt
earlier steps m n (r ∷ rs) h = (omega (arith, h.0), h.1, h.2, h.3)

read_rising : (steps : List ActData) (m : Memory) (b : Bool) (n cell x t o : ℕ) (go : ℕ → Vars → RunData) (vars : Vars) → ReadAt steps n → ((to : ℕ) (w : Vars) → AreRising steps m (n + 1) (go to w).reads)
    → AreRising steps m n (read_of (cond b (Some (listed m.words cell)) None) n cell x t o go vars).reads
read_rising steps m true n cell x t o go vars at h = (omega arith, at, refl, h t (bound vars x (listed m.words cell)))
read_rising steps m false n cell x t o go vars at h = earlier steps m n (go o vars).reads (h o vars)

acted_rising : (steps : List ActData) (s : EnvData) (m : Memory) (n : ℕ) (p : ActData) (go : ℕ → Vars → RunData) (vars : Vars) → slice_get steps n ≡ Some p → ((to : ℕ) (w : Vars) → AreRising steps m (n + 1) (go to w).reads)
    → AreRising steps m n (acted s m n p go vars).reads
acted_rising steps s m n (bind x e to) go vars at h = earlier steps m n _ (h to _)
acted_rising steps s m n (read x e g t o) go vars at h = read_rising steps m (is_place m (value_at s vars e).bits) n (value_at s vars e).bits x t o go vars (read x e g t o, at, refl) h
acted_rising steps s m n (branch e t o) go vars at h = earlier steps m n _ (h _ vars)
acted_rising steps s m n (fault c) go vars at h = tt
acted_rising steps s m n (done e p) go vars at h = tt

pub walk_rising : (steps : List ActData) (s : EnvData) (m : Memory) (ps : List ActData) (n to : ℕ) (vars : Vars) → ((k : ℕ) (p : ActData) → slice_get ps k ≡ Some p → slice_get steps (n + k) ≡ Some p) → AreRising steps m n (walk_from s m ps n to vars).reads
walk_rising steps s m [] n to vars at = tt
walk_rising steps s m (p ∷ ps) n to vars at =
    by_place (eqb n to) (λ to2 w. walk_rising steps s m ps (n + 1) to2 w (λ k q e. let z : n + suc k ≡ n + 1 + k = omega arith in subst (λ (j : ℕ). slice_get steps j ≡ Some q) z (at (suc k) q e)))
  where
    by_place : (b : Bool) → ((to2 : ℕ) (w : Vars) → AreRising steps m (n + 1) (walk_from s m ps (n + 1) to2 w).reads)
        → AreRising steps m n (cond b (acted s m n p (walk_from s m ps (n + 1)) vars) (walk_from s m ps (n + 1) to vars)).reads
    by_place true ih = acted_rising steps s m n p (walk_from s m ps (n + 1)) vars (let z : n + 0 ≡ n = omega arith in subst (λ (j : ℕ). slice_get steps j ≡ Some p) z (at 0 p refl)) ih
    by_place false ih = earlier steps m n _ (ih to vars)

pub rising_remembers : (steps : List ActData) (m : Memory) (n : ℕ) (rs : List ReadMade) → AreRising steps m n rs → Remembers m rs
rising_remembers steps m n [] h = tt
rising_remembers steps m n (r ∷ rs) h = (h.2, rising_remembers steps m (r.node + 1) rs h.3)

one_agrees : (m : Memory) (r : ReadMade) (rs : List ReadMade) → listed m.words r.cell ≡ r.word → Remembers m rs → AllByRecursion (Agree r) rs
one_agrees m r [] e h = tt
one_agrees m r (q ∷ rs) e h = (λ c. sym e ∙ ap (listed m.words) c ∙ h.0, one_agrees m r rs e h.1)

-- reads of one memory agree
pub remembers_agree : (m : Memory) (rs : List ReadMade) → Remembers m rs → AllAgree rs
remembers_agree m [] h = tt
remembers_agree m (r ∷ rs) h = (one_agrees m r rs h.0 h.1, remembers_agree m rs h.1)

-- ---- the word of a node

abbrev Found : List ReadMade → List ReadMade → Type 0
Found all rs = AllByRecursion (λ (r : ReadMade). word_in all r.node ≡ r.word) rs

found_later : (steps : List ActData) (m : Memory) (r : ReadMade) (all rs : List ReadMade) (n : ℕ) → r.node < n → AreRising steps m n rs → Found all rs → Found (r ∷ all) rs
found_later steps m r all [] n l h f = tt
found_later steps m r all (q ∷ rs) n l h f =
    let e : eqb r.node q.node ≡ false = ne_eqb r.node q.node (λ z. omega (arith, l, h.0, z)) in
    (ap (λ (b : Bool). cond b r.word (word_in all q.node)) e ∙ f.0, found_later steps m r all rs (q.node + 1) (omega (arith, l, h.0)) h.3 f.1)

found : (steps : List ActData) (m : Memory) (rs : List ReadMade) (n : ℕ) → AreRising steps m n rs → Found rs rs
found steps m [] n h = tt
found steps m (r ∷ rs) n h = (
  ap (λ (b : Bool). cond b r.word (word_in rs r.node)) (eq-eqb r.node r.node refl),
  found_later steps m r rs rs (r.node + 1) (omega arith) h.3 (found steps m rs (r.node + 1) h.3),
)

said_from : (steps : List ActData) (m : Memory) (f : ℕ → ℕ) (all rs : List ReadMade) (n : ℕ) → ((k : ℕ) → ReadAt steps k → f k ≡ word_in all k) → AreRising steps m n rs → Found all rs → Says f rs
said_from steps m f all [] n e h g = tt
said_from steps m f all (r ∷ rs) n e h g = (e r.node h.1 ∙ g.0, said_from steps m f all rs (r.node + 1) e h.3 g.1)

-- a function that gives each read node its word says the reads
pub rising_said : (steps : List ActData) (m : Memory) (f : ℕ → ℕ) (rs : List ReadMade) (n : ℕ) → ((k : ℕ) → ReadAt steps k → f k ≡ word_in rs k) → AreRising steps m n rs → Says f rs
rising_said steps m f rs n e h = said_from steps m f rs rs n e h (found steps m rs n h)
