-- The words that are read are those of a table memory: by rising addresses, each at a place of the memory, each fitting.
use Rattle.std.proofs.Common.{◌≡◌, ℕ, zero, suc, ◌+◌, ◌%◌, ◌<◌, ◌≤◌, Bool, true, false, cond, ◌&&◌, eqb, ltb, leb, List, [], ◌∷◌, length, get_or, Some, None, refl, sym, subst, arith}
use Rattle.std.specs.List.{AllByRecursion}
use Rattle.std.proofs.lemmas.Bool.{and_parts, eqb-true, eqb-false, ltb-true, ltb-false, leb-true}
use Rattle.dt_bits.specs.declared.memory.Word.{Word}
use Rattle.dt_bits.specs.Memory.{Memory, IsRising, AreWords, is_place, listed}
use Rattle.dt_model.specs.ModelData.{ActData, bind, read, branch, fault, done}
use Rattle.dt_walk.specs.declared.run.ReadMade.{ReadMade}
use Rattle.dt_walk.specs.Meaning.{EnvData, Vars, bound, value_at}
use Rattle.dt_walk.specs.Walks.{RunData, read_of, acted, walk_from}
use Rattle.dt_table.specs.Words.{word_at, with_word, words_read}

-- ---- by rising addresses

abbrev Above : ℕ → List Word → Type 0
Above a ws = AllByRecursion (λ (w : Word). a < w.address) ws

abbrev pub AreSorted : List Word → Type 0
AreSorted [] = Unit {0}
AreSorted (w ∷ ws) = Above w.address ws × AreSorted ws

above_less : (a b : ℕ) (ws : List Word) → a < b → Above b ws → Above a ws
above_less a b [] l h = tt
above_less a b (w ∷ ws) l h = (omega (arith, l, h.0), above_less a b ws l h.1)

-- what holds of the words and of one more holds of all
pub with_all : (P : Word → Type 0) (a x : ℕ) (ws : List Word) → P (word_at a x) → AllByRecursion P ws → AllByRecursion P (with_word a x ws)
with_all P a x [] p h = (p, tt)
with_all P a x (w ∷ ws) p h = by_order (ltb a w.address) (eqb a w.address) (with_all P a x ws p h.1)
  where
    by_order : (l e : Bool) → AllByRecursion P (with_word a x ws) → AllByRecursion P (cond l (word_at a x ∷ w ∷ ws) (cond e (word_at a x ∷ ws) (w ∷ with_word a x ws)))
    by_order true e k = (p, h)
    by_order false true k = (p, h.1)
    by_order false false k = (h.0, k)

with_sorted : (a x : ℕ) (ws : List Word) → AreSorted ws → AreSorted (with_word a x ws)
with_sorted a x [] h = (tt, tt)
with_sorted a x (w ∷ ws) h = by_order (ltb a w.address) refl (eqb a w.address) refl (with_sorted a x ws h.1)
  where
    by_order : (l : Bool) → ltb a w.address ≡ l → (e : Bool) → eqb a w.address ≡ e → AreSorted (with_word a x ws) → AreSorted (cond l (word_at a x ∷ w ∷ ws) (cond e (word_at a x ∷ ws) (w ∷ with_word a x ws)))
    by_order true l e q k = let less = ltb-true a w.address l in ((less, above_less a w.address ws less h.0), h)
    by_order false l true q k = (subst (λ (b : ℕ). Above b ws) (sym (eqb-true a w.address q)) h.0, h.1)
    by_order false l false q k =
        let least = ltb-false a w.address l in
        let other = eqb-false a w.address q in
        (with_all (λ (y : Word). w.address < y.address) a x ws (omega (arith, least, other)) h.0, k)

pub words_sorted : (rs : List ReadMade) → AreSorted (words_read rs)
words_sorted [] = tt
words_sorted (r ∷ rs) = with_sorted r.cell r.word (words_read rs) (words_sorted rs)

above_at : (a : ℕ) (ws : List Word) (j : ℕ) (d : Word) → Above a ws → j < length ws → a < (get_or ws j d).address
above_at a [] j d h l = absurd (omega (arith, l))
above_at a (w ∷ ws) zero d h l = h.0
above_at a (w ∷ ws) (suc j) d h l = above_at a ws j d h.1 (omega (arith, l))

pub sorted_rising : (ws : List Word) → AreSorted ws → IsRising ws
sorted_rising [] h i j d l m = absurd (omega (arith, m))
sorted_rising (w ∷ ws) h zero zero d l m = absurd (omega (arith, l))
sorted_rising (w ∷ ws) h zero (suc j) d l m = above_at w.address ws j d h.0 (omega (arith, m))
sorted_rising (w ∷ ws) h (suc i) zero d l m = absurd (omega (arith, l))
sorted_rising (w ∷ ws) h (suc i) (suc j) d l m = sorted_rising ws h.1 i j d (omega (arith, l)) (omega (arith, m))

-- what holds of each read, as a word, holds of each word
pub words_all : (P : Word → Type 0) (rs : List ReadMade) → AllByRecursion (λ (r : ReadMade). P (word_at r.cell r.word)) rs → AllByRecursion P (words_read rs)
words_all P [] h = tt
words_all P (r ∷ rs) h = with_all P r.cell r.word (words_read rs) h.0 (words_all P rs h.1)

-- ---- at places

abbrev pub ArePlaces : Memory → List ReadMade → Type 0
ArePlaces m rs = AllByRecursion (λ (r : ReadMade). is_place m r.cell ≡ true) rs

read_places : (b : Bool) (m : Memory) (n cell x t o : ℕ) (go : ℕ → Vars → RunData) (vars : Vars) → is_place m cell ≡ b → ((to : ℕ) (w : Vars) → ArePlaces m (go to w).reads)
    → ArePlaces m (read_of (cond b (Some (listed m.words cell)) None) n cell x t o go vars).reads
read_places true m n cell x t o go vars e h = (e, h t (bound vars x (listed m.words cell)))
read_places false m n cell x t o go vars e h = h o vars

acted_places : (s : EnvData) (m : Memory) (n : ℕ) (p : ActData) (go : ℕ → Vars → RunData) (vars : Vars) → ((to : ℕ) (w : Vars) → ArePlaces m (go to w).reads) → ArePlaces m (acted s m n p go vars).reads
acted_places s m n (bind x e to) go vars h = h to _
acted_places s m n (read x e g t o) go vars h = read_places (is_place m (value_at s vars e).bits) m n (value_at s vars e).bits x t o go vars refl h
acted_places s m n (branch e t o) go vars h = h _ vars
acted_places s m n (fault c) go vars h = tt
acted_places s m n (done e p) go vars h = tt

-- the reads of a walk are at places of its memory
pub walk_places : (s : EnvData) (m : Memory) (ps : List ActData) (n to : ℕ) (vars : Vars) → ArePlaces m (walk_from s m ps n to vars).reads
walk_places s m [] n to vars = tt
walk_places s m (p ∷ ps) n to vars = by_place (eqb n to) (λ to2 w. walk_places s m ps (n + 1) to2 w)
  where
    by_place : (b : Bool) → ((to2 : ℕ) (w : Vars) → ArePlaces m (walk_from s m ps (n + 1) to2 w).reads) → ArePlaces m (cond b (acted s m n p (walk_from s m ps (n + 1)) vars) (walk_from s m ps (n + 1) to vars)).reads
    by_place true ih = acted_places s m n p (walk_from s m ps (n + 1)) vars ih
    by_place false ih = ih to vars

place_parts : (bytes lo hi a : ℕ) → ((eqb (a % bytes) 0) && (leb lo a && ltb a hi)) ≡ true → (a % bytes ≡ 0) × (lo ≤ a) × (a < hi)
place_parts bytes lo hi a h =
    let p = and_parts (eqb (a % bytes) 0) _ h in
    let q = and_parts (leb lo a) (ltb a hi) p.1 in
    (eqb-true (a % bytes) 0 p.0, leb-true lo a q.0, ltb-true a hi q.1)

-- words of reads at places lie in the memory
pub words_placed : (m : Memory) (rs : List ReadMade) → ArePlaces m rs → AreWords m.bytes m.lo m.hi (words_read rs)
words_placed m rs h = words_all (λ (w : Word). (w.address % m.bytes ≡ 0) × (m.lo ≤ w.address) × (w.address < m.hi)) rs (each rs h)
  where
    each : (qs : List ReadMade) → ArePlaces m qs → AllByRecursion (λ (r : ReadMade). (r.cell % m.bytes ≡ 0) × (m.lo ≤ r.cell) × (r.cell < m.hi)) qs
    each [] k = tt
    each (q ∷ qs) k = (place_parts m.bytes m.lo m.hi q.cell k.0, each qs k.1)
