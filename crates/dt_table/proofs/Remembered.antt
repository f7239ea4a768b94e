-- A walk over a memory and one whose words are told are the same where the reads that are made agree.
use Rattle.std.proofs.Common.{◌≡◌, ℕ, suc, ◌+◌, ◌<◌, Bool, true, false, cond, eqb, List, [], ◌∷◌, length, get_or, Some, None, refl, sym, ap, ◌∙◌, subst, arith}
use Rattle.std.specs.List.{AllByRecursion}
use Rattle.dt_bits.specs.Memory.{Memory, is_place, listed}
use Rattle.dt_model.specs.ModelData.{ActData, bind, read, branch, fault, done}
use Rattle.dt_walk.specs.declared.run.ReadMade.{ReadMade}
use Rattle.dt_walk.specs.Meaning.{EnvData, Vars, bound, value_at}
use Rattle.dt_walk.specs.Walks.{RunData, visit, left, made, read_of, acted, walk_from}
use Rattle.dt_table.proofs.Oracle.{acted_with, walk_with}

-- ---- the memory has the words that are told

-- each of the reads gives the word that the memory has at its cell
abbrev pub Remembers : Memory → List ReadMade → Type 0
Remembers m reads = AllByRecursion (λ r. listed m.words r.cell ≡ r.word) reads

read_remembered : (b : Bool) (m : Memory) (u n cell x t o : ℕ) (go go2 : ℕ → Vars → RunData) (vars : Vars)
    → ((to : ℕ) (w : Vars) → Remembers m (go2 to w).reads → go to w ≡ go2 to w)
    → Remembers m (visit n (read_of (cond b (Some u) None) n cell x t o go2 vars)).reads
    → visit n (read_of (cond b (Some (listed m.words cell)) None) n cell x t o go vars) ≡ visit n (read_of (cond b (Some u) None) n cell x t o go2 vars)
read_remembered true m u n cell x t o go go2 vars h r =
    ap (λ (w : ℕ). visit n (made (record { node = n; cell = cell; word = w }) (left n true (go t (bound vars x w))))) r.0
    ∙ ap (λ (q : RunData). visit n (made (record { node = n; cell = cell; word = u }) (left n true q))) (h t (bound vars x u) r.1)
read_remembered false m u n cell x t o go go2 vars h r = ap (λ (q : RunData). visit n (left n false q)) (h o vars r)

acted_remembered : (s : EnvData) (m : Memory) (u n : ℕ) (p : ActData) (go go2 : ℕ → Vars → RunData) (vars : Vars)
    → ((to : ℕ) (w : Vars) → Remembers m (go2 to w).reads → go to w ≡ go2 to w)
    → Remembers m (acted_with s (is_place m) u n p go2 vars).reads → acted s m n p go vars ≡ acted_with s (is_place m) u n p go2 vars
acted_remembered s m u n (bind x e to) go go2 vars h r = ap (visit n) (h _ _ r)
acted_remembered s m u n (read x e g t o) go go2 vars h r =
    let cell = (value_at s vars e).bits in
    read_remembered (is_place m cell) m u n cell x t o go go2 vars h r
acted_remembered s m u n (branch e t o) go go2 vars h r = ap (λ (q : RunData). visit n (left n (eqb (value_at s vars e).bits 1) q)) (h _ _ r)
acted_remembered s m u n (fault c) go go2 vars h r = refl
acted_remembered s m u n (done e p) go go2 vars h r = refl

pub walk_remembered : (s : EnvData) (m : Memory) (ps : List ActData) (us : List ℕ) (n to : ℕ) (vars : Vars) → length us ≡ length ps
    → Remembers m (walk_with s (is_place m) us ps n to vars).reads → walk_from s m ps n to vars ≡ walk_with s (is_place m) us ps n to vars
walk_remembered s m [] [] n to vars l r = refl
walk_remembered s m [] (u ∷ us) n to vars l r = absurd (omega (arith, l))
walk_remembered s m (p ∷ ps) [] n to vars l r = absurd (omega (arith, l))
walk_remembered s m (p ∷ ps) (u ∷ us) n to vars l r =
    by_place (eqb n to) (λ to2 w q. walk_remembered s m ps us (n + 1) to2 w (omega (arith, l)) q) r
  where
    by_place : (b : Bool) → ((to2 : ℕ) (w : Vars) → Remembers m (walk_with s (is_place m) us ps (n + 1) to2 w).reads → walk_from s m ps (n + 1) to2 w ≡ walk_with s (is_place m) us ps (n + 1) to2 w)
        → Remembers m (cond b (acted_with s (is_place m) u n p (walk_with s (is_place m) us ps (n + 1)) vars) (walk_with s (is_place m) us ps (n + 1) to vars)).reads
        → cond b (acted s m n p (walk_from s m ps (n + 1)) vars) (walk_from s m ps (n + 1) to vars)
        ≡ cond b (acted_with s (is_place m) u n p (walk_with s (is_place m) us ps (n + 1)) vars) (walk_with s (is_place m) us ps (n + 1) to vars)
    by_place true ih q = acted_remembered s m u n p (walk_from s m ps (n + 1)) (walk_with s (is_place m) us ps (n + 1)) vars ih q
    by_place false ih q = ih to vars q

-- ---- the words that are told are those that the walk reads

abbrev pub Says : (ℕ → ℕ) → List ReadMade → Type 0
Says f reads = AllByRecursion (λ r. f r.node ≡ r.word) reads

read_said : (b : Bool) (f : ℕ → ℕ) (u v n cell x t o : ℕ) (go go2 : ℕ → Vars → RunData) (vars : Vars) → f n ≡ u
    → ((to : ℕ) (w : Vars) → Says f (go to w).reads → go to w ≡ go2 to w)
    → Says f (visit n (read_of (cond b (Some v) None) n cell x t o go vars)).reads
    → visit n (read_of (cond b (Some v) None) n cell x t o go vars) ≡ visit n (read_of (cond b (Some u) None) n cell x t o go2 vars)
read_said true f u v n cell x t o go go2 vars e h r =
    ap (λ (q : RunData). visit n (made (record { node = n; cell = cell; word = v }) (left n true q))) (h t (bound vars x v) r.1)
    ∙ ap (λ (w : ℕ). visit n (made (record { node = n; cell = cell; word = w }) (left n true (go2 t (bound vars x w))))) (sym r.0 ∙ e)
read_said false f u v n cell x t o go go2 vars e h r = ap (λ (q : RunData). visit n (left n false q)) (h o vars r)

acted_said : (s : EnvData) (m : Memory) (f : ℕ → ℕ) (u n : ℕ) (p : ActData) (go go2 : ℕ → Vars → RunData) (vars : Vars) → f n ≡ u
    → ((to : ℕ) (w : Vars) → Says f (go to w).reads → go to w ≡ go2 to w)
    → Says f (acted s m n p go vars).reads → acted s m n p go vars ≡ acted_with s (is_place m) u n p go2 vars
acted_said s m f u n (bind x e to) go go2 vars i h r = ap (visit n) (h _ _ r)
acted_said s m f u n (read x e g t o) go go2 vars i h r =
    let cell = (value_at s vars e).bits in
    read_said (is_place m cell) f u (listed m.words cell) n cell x t o go go2 vars i h r
acted_said s m f u n (branch e t o) go go2 vars i h r = ap (λ (q : RunData). visit n (left n (eqb (value_at s vars e).bits 1) q)) (h _ _ r)
acted_said s m f u n (fault c) go go2 vars i h r = refl
acted_said s m f u n (done e p) go go2 vars i h r = refl

pub walk_said : (s : EnvData) (m : Memory) (f : ℕ → ℕ) (ps : List ActData) (us : List ℕ) (n to : ℕ) (vars : Vars) → length us ≡ length ps → ((k : ℕ) → k < length us → f (n + k) ≡ get_or us k 0)
    → Says f (walk_from s m ps n to vars).reads → walk_from s m ps n to vars ≡ walk_with s (is_place m) us ps n to vars
walk_said s m f [] [] n to vars l e r = refl
walk_said s m f [] (u ∷ us) n to vars l e r = absurd (omega (arith, l))
walk_said s m f (p ∷ ps) [] n to vars l e r = absurd (omega (arith, l))
walk_said s m f (p ∷ ps) (u ∷ us) n to vars l e r =
    by_place (eqb n to) (let z : n + 0 ≡ n = omega arith in subst (λ (j : ℕ). f j ≡ u) z (e 0 (omega arith)))
    (λ to2 w q. walk_said s m f ps us (n + 1) to2 w (omega (arith, l)) (λ k j. let z : n + suc k ≡ n + 1 + k = omega arith in subst (λ (i : ℕ). f i ≡ get_or us k 0) z (e (suc k) (omega (arith, j)))) q) r
  where
    by_place : (b : Bool) → f n ≡ u → ((to2 : ℕ) (w : Vars) → Says f (walk_from s m ps (n + 1) to2 w).reads → walk_from s m ps (n + 1) to2 w ≡ walk_with s (is_place m) us ps (n + 1) to2 w)
        → Says f (cond b (acted s m n p (walk_from s m ps (n + 1)) vars) (walk_from s m ps (n + 1) to vars)).reads
        → cond b (acted s m n p (walk_from s m ps (n + 1)) vars) (walk_from s m ps (n + 1) to vars)
        ≡ cond b (acted_with s (is_place m) u n p (walk_with s (is_place m) us ps (n + 1)) vars) (walk_with s (is_place m) us ps (n + 1) to vars)
    by_place true i ih q = acted_said s m f u n p (walk_from s m ps (n + 1)) (walk_with s (is_place m) us ps (n + 1)) vars i ih q
    by_place false i ih q = ih to vars q
