-- A word that is listed, and one that is not.
use Rattle.std.proofs.Common.{◌≡◌, ℕ, zero, suc, ◌<◌, ◌≤◌, List, [], ◌∷◌, length, get_or, refl, arith, eqb, true, false, ◌+◌, ap, ⊎_elim, subst, ◌≢◌}
use Rattle.std.proofs.lemmas.Bool.{ne_eqb, eq-eqb, cases_lt, cond_both}
use Rattle.std.specs.List.{AllByRecursion}
use Rattle.std.proofs.lemmas.List.{get_or_default}
use Rattle.dt_bits.specs.declared.memory.Word.{Word}
use Rattle.dt_bits.specs.Memory.{listed, IsRising}

pub listed_none : (ws : List Word) (a : ℕ) → ((k : ℕ) (d : Word) → k < length ws → (get_or ws k d).address ≡ a → ⊥) → listed ws a ≡ 0
listed_none [] a h = refl
listed_none (w ∷ ws) a h =
    let e : eqb w.address a ≡ false = ne_eqb _ _ (h 0 w (omega arith)) in
    rw e (listed_none ws a (λ k d l. h (suc k) d (omega arith)))

pub listed_at : (ws : List Word) (i a : ℕ) (d : Word) → IsRising ws → i < length ws → (get_or ws i d).address ≡ a → listed ws a ≡ (get_or ws i d).value
listed_at [] i a d r l e = absurd (omega arith)
listed_at (w ∷ ws) zero a d r l e =
    let t : eqb w.address a ≡ true = eq-eqb _ _ e in
    rw t refl
listed_at (w ∷ ws) (suc i) a d r l e =
    let s : w.address < (get_or ws i d).address = r 0 (suc i) d (omega arith) l in
    let t : eqb w.address a ≡ false = ne_eqb _ _ (λ x. omega arith) in
    rw t (listed_at ws i a d (λ j k x p q. r (suc j) (suc k) x (omega arith) (omega arith)) (omega arith) e)

-- where the word at m lies below a, so do those before it
pub below_all : (ws : List Word) (m a : ℕ) (e : Word) → IsRising ws → m < length ws → (get_or ws m e).address < a → (k : ℕ) (d : Word) → k < m + 1 → (get_or ws k d).address < a
below_all ws m a e r l h k d lt =
    let s : (get_or ws m d).address ≡ (get_or ws m e).address = ap (λ (w : Word). w.address) (get_or_default ws m d e l) in
    ⊎_elim
    (λ (b : k < m). let t : (get_or ws k d).address < (get_or ws m d).address = r k m d b l in omega arith)
    (λ (b : m ≤ k). let q : m ≡ k = omega arith in let i : (get_or ws m d).address < a = omega arith in subst (λ n. (get_or ws n d).address < a) q i)
    (cases_lt k m)

-- where the word at m lies above a, so do those after it
pub above_all : (ws : List Word) (m a : ℕ) (e : Word) → IsRising ws → m < length ws → a < (get_or ws m e).address → (k : ℕ) (d : Word) → m ≤ k → k < length ws → a < (get_or ws k d).address
above_all ws m a e r l h k d le lt =
    let s : (get_or ws m d).address ≡ (get_or ws m e).address = ap (λ (w : Word). w.address) (get_or_default ws m d e l) in
    ⊎_elim
    (λ (b : m < k). let t : (get_or ws m d).address < (get_or ws k d).address = r m k d b lt in omega arith)
    (λ (b : k ≤ m). let q : m ≡ k = omega arith in let i : a < (get_or ws m d).address = omega arith in subst (λ n. a < (get_or ws n d).address) q i)
    (cases_lt m k)

pub not_below : (ws : List Word) (m a : ℕ) (e : Word) → IsRising ws → m < length ws → ((get_or ws m e).address ≡ a → ⊥) → a ≤ (get_or ws m e).address → (k : ℕ) (d : Word) → m ≤ k → k < length ws → a < (get_or ws k d).address
not_below ws m a e r l n h = above_all ws m a e r l (let ne : (get_or ws m e).address ≢ a = n in omega arith)

pub listed_below : (m : ℕ) (ws : List Word) (a : ℕ) → 0 < m → AllByRecursion (λ w. w.value < m) ws → listed ws a < m
listed_below m [] a p h = p
listed_below m (w ∷ ws) a p h = cond_both (eqb w.address a) w.value (listed ws a) (λ n. n < m) (λ _. h.0) (λ _. listed_below m ws a p h.1)
