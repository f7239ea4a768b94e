-- Which variables some path assigns, and which some path leaves, found node by node.
use Rattle.std.proofs.Common.{◌≡◌, ℕ, zero, suc, ◌+◌, ◌<◌, ◌≤◌, Bool, true, false, not, ◌&&◌, ◌||◌, cond, eqb, ltb, List, [], ◌∷◌, Option, Some, None, ◌↔◌, refl, sym, ap, ◌∙◌, subst, ⊎_elim, arith}
use Rattle.std.specs.Prelude.{slice_get}
use Rattle.std.proofs.lemmas.Bool.{false≢true, or_cases, or_left, or_right, and_parts, and_from, eqb-true, eq-eqb, ltb-true, lt-ltb, cases_lt}
use Rattle.dt_model.specs.ModelData.{ActData}
use Rattle.dt_model.specs.Paths.{Side, next, then, other, Exit, Edge, exit, step_exit, IsPath, is_var, exit_assigns, assigned_by, SomePath}
use Rattle.dt_model.specs.Flow.{arrives, any_side, some_after}

abbrev pub EndsBelow : ℕ → List Edge → Type 0
EndsBelow k [] = Unit {0}
EndsBelow k (e ∷ p) = e.node < k

some_side : (f : Side → Bool) → any_side f ≡ true → (s : Side) × (f s ≡ true)
some_side f e = ⊎_elim (λ h. (next, h)) (λ r. ⊎_elim (λ h. (then, h)) (λ h. (other, h)) (or_cases (f then) (f other) r)) (or_cases (f next) (f then || f other) e)

from_side : (f : Side → Bool) (s : Side) → f s ≡ true → any_side f ≡ true
from_side f next e = or_left _ _ e
from_side f then e = or_right _ _ (or_left _ _ e)
from_side f other e = or_right _ _ (or_right _ _ e)

chosen : (i b : Bool) (at : Bool → Bool) → cond i (b && (at true || at false)) (at b) ≡ true → (c : Bool) × (at c ≡ true) × ((i || c) ≡ b)
chosen true true at e = ⊎_elim (λ h. (true, h, refl)) (λ h. (false, h, refl)) (or_cases (at true) (at false) e)
chosen true false at e = absurd (false≢true e)
chosen false b at e = (b, e, refl)

choose : (i b c : Bool) (at : Bool → Bool) → at c ≡ true → (i || c) ≡ b → cond i (b && (at true || at false)) (at b) ≡ true
choose true true true at h e = or_left _ _ h
choose true true false at h e = or_right _ _ h
choose true false c at h e = absurd (false≢true (sym e))
choose false b c at h e = subst (λ d. at d ≡ true) e h

arrives_from : (o : Option Exit) (x : Exit) (k n v : ℕ) (b c : Bool) (at : Bool → Bool) → o ≡ Some x → x.to ≡ n → k < n → at c ≡ true → (is_var x.assigns v || c) ≡ b → arrives o k n v b at ≡ true
arrives_from o x k n v b c at e t l h r =
    subst (λ q. arrives q k n v b at ≡ true) (sym e)
    (and_from _ _ (eq-eqb x.to n t) (and_from _ _ (lt-ltb k n l) (choose (is_var x.assigns v) b c at h r)))

arrives_cases : (o : Option Exit) (k n v : ℕ) (b : Bool) (at : Bool → Bool) → arrives o k n v b at ≡ true → (x : Exit) × (o ≡ Some x) × (x.to ≡ n) × (k < n) × ((c : Bool) × (at c ≡ true) × ((is_var x.assigns v || c) ≡ b))
arrives_cases None k n v b at e = absurd (false≢true e)
arrives_cases (Some x) k n v b at e =
    let p = and_parts (eqb x.to n) _ e in
    let q = and_parts (ltb k n) _ p.1 in
    (x, refl, eqb-true x.to n p.0, ltb-true k n q.0, chosen (is_var x.assigns v) b at q.1)

ends_more : (k : ℕ) (p : List Edge) → EndsBelow k p → EndsBelow (suc k) p
ends_more k [] h = tt
ends_more k (e ∷ p) h = omega arith

ends_within : (k n : ℕ) (p : List Edge) → n ≤ k → EndsBelow n p → EndsBelow k p
ends_within k n [] l h = tt
ends_within k n (e ∷ p) l h = omega arith

-- a path to n ends below n
pub ends_below : (g : List ActData) (n : ℕ) (p : List Edge) → IsPath g p n → EndsBelow n p
ends_below g n [] h = tt
ends_below g n (e ∷ p) h = h.0.3

pub path_from_after : (g : List ActData) (v k n : ℕ) (b : Bool) → some_after g v k n b ≡ true → (p : List Edge) × IsPath g p n × EndsBelow k p × (assigned_by g p v ≡ b)
unfolding some_after
path_from_after g v zero n true e = absurd (false≢true (and_parts (eqb n 0) false e).1)
path_from_after g v zero n false e = ([], eqb-true n 0 (and_parts (eqb n 0) true e).0, tt, refl)
path_from_after g v (suc k) n b e =
    ⊎_elim
    (λ (h : some_after g v k n b ≡ true).
    let r = path_from_after g v k n b h in
    (r.0, r.1, ends_more k r.0 r.2, r.3))
    (λ h.
    let s = some_side (λ s. arrives (step_exit (slice_get g k) s) k n v b (some_after g v k k)) h in
    let a = arrives_cases (step_exit (slice_get g k) s.0) k n v b (some_after g v k k) s.1 in
    let r = path_from_after g v k k a.4.0 a.4.1 in
    let i : exit_assigns (step_exit (slice_get g k) s.0) v ≡ is_var a.0.assigns v = ap (λ o. exit_assigns o v) a.1 in (
      record { node = k; side = s.0 } ∷ r.0,
      ((a.0, a.1, a.2, a.3), r.1),
      omega arith,
      ap (λ q. q || assigned_by g r.0 v) i ∙ ap (λ q. is_var a.0.assigns v || q) r.3 ∙ a.4.2,
    ))
    (or_cases (some_after g v k n b) _ e)

pub after_from_path : (g : List ActData) (v k n : ℕ) (b : Bool) (p : List Edge) → IsPath g p n → EndsBelow k p → assigned_by g p v ≡ b → some_after g v k n b ≡ true
unfolding some_after
after_from_path g v zero n b [] h l e = subst (λ c. (eqb n 0 && not c) ≡ true) e (and_from _ _ (eq-eqb n 0 h) refl)
after_from_path g v zero n b (e ∷ p) h l a = absurd (omega arith)
after_from_path g v (suc k) n b [] h l e = or_left _ _ (after_from_path g v k n b [] h tt e)
after_from_path g v (suc k) n b (e ∷ p) h l a =
    ⊎_elim
    (λ (q : e.node < k). or_left _ _ (after_from_path g v k n b (e ∷ p) h q a))
    (λ (q : k ≤ e.node).
    let same : e.node ≡ k = omega arith in
    let path : IsPath g p k = subst (IsPath g p) same h.1 in
    let at : some_after g v k k (assigned_by g p v) ≡ true = after_from_path g v k k (assigned_by g p v) p path (ends_below g k p path) refl in
    let x = h.0.0 in
    let is : step_exit (slice_get g k) e.side ≡ Some x = subst (λ m. step_exit (slice_get g m) e.side ≡ Some x) same h.0.1 in
    let below : k < n = subst (λ m. m < n) same h.0.3 in
    let value : (is_var x.assigns v || assigned_by g p v) ≡ b = ap (λ o. exit_assigns o v || assigned_by g p v) (sym h.0.1) ∙ a in
    or_right _ _ (from_side (λ s. arrives (step_exit (slice_get g k) s) k n v b (some_after g v k k)) e.side
    (arrives_from (step_exit (slice_get g k) e.side) x k n v b (assigned_by g p v) (some_after g v k k) is h.0.2 below at value)))
    (cases_lt e.node k)

-- At node n itself, and at each count of nodes from n on, the set is that of all paths to n.
pub some_path_from : (g : List ActData) (v n : ℕ) (b : Bool) → some_after g v n n b ≡ true → SomePath g n v b
some_path_from g v n b e = let r = path_from_after g v n n b e in (r.0, r.1, r.3)

pub after_from_some_path : (g : List ActData) (v n : ℕ) (b : Bool) → SomePath g n v b → some_after g v n n b ≡ true
after_from_some_path g v n b s = after_from_path g v n n b s.0 s.1 (ends_below g n s.0 s.1) s.2

pub some_path_at : (g : List ActData) (v k n : ℕ) (b : Bool) → n ≤ k → (some_after g v k n b ≡ true) ↔ SomePath g n v b
some_path_at g v k n b l = (
  (λ e. let r = path_from_after g v k n b e in (r.0, r.1, r.3)),
  (λ s. after_from_path g v k n b s.0 s.1 (ends_within k n s.0 l (ends_below g n s.0 s.1)) s.2),
)

arrives_same : (o : Option Exit) (k n v : ℕ) (b : Bool) (f h : Bool → Bool) → ((c : Bool) → f c ≡ h c) → arrives o k n v b f ≡ arrives o k n v b h
arrives_same None k n v b f h e = refl
arrives_same (Some x) k n v b f h e =
    let t = e true in
    let u = e false in
    let w = e b in
    cc

any_side_same : (f h : Side → Bool) → ((s : Side) → f s ≡ h s) → any_side f ≡ any_side h
any_side_same f h e =
    let a = e next in
    let b = e then in
    let c = e other in
    cc

-- the sets past node k, whose step is known
pub after_more : (g : List ActData) (p : ActData) (at : Bool → Bool) (old : Bool) (v k n : ℕ) (b : Bool) → slice_get g k ≡ Some p → ((c : Bool) → at c ≡ some_after g v k k c) → old ≡ some_after g v k n b
    → (old || any_side (λ s. arrives (exit p s) k n v b at)) ≡ some_after g v (k + 1) n b
unfolding some_after
after_more g p at old v k n b e h o =
    let same : any_side (λ s. arrives (exit p s) k n v b at) ≡ any_side (λ s. arrives (step_exit (slice_get g k) s) k n v b (some_after g v k k)) =
    any_side_same _ _ (λ s. ap (λ q. arrives (step_exit q s) k n v b at) (sym e) ∙ arrives_same (step_exit (slice_get g k) s) k n v b at (some_after g v k k) h) in
    let one : suc k ≡ k + 1 = omega arith in
    ap (λ q. q || any_side (λ s. arrives (exit p s) k n v b at)) o ∙ ap (λ q. some_after g v k n b || q) same ∙ ap (λ m. some_after g v m n b) one

pub after_none : (g : List ActData) (v n : ℕ) (b : Bool) → (eqb n 0 && not b) ≡ some_after g v 0 n b
unfolding some_after
after_none g v n b = refl
