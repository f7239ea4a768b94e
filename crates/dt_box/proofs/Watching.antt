-- Where steps can tell something new: near what changed.
use Rattle.std.proofs.Common.{◌≡◌, ℕ, zero, suc, ◌<◌, Bool, true, false, cond, eqb, List, [], ◌∷◌, length, get_or, set, sym, ap, ◌∙◌, subst, inl, inr, ◌⊎◌, ⊎_elim, arith, get_or-set_other}
use Rattle.std.specs.Prelude.{filter}
use Rattle.std.specs.List.{list_any, range_with_len}
use Rattle.std.proofs.lemmas.Bool.{cases_Bool, false≢true, true≢false, eq-eqb, eqb-true, or_left, or_right, or_cases, or_parts, eqb-false, false_from_ne_true}
use Rattle.std.proofs.lemmas.List.FromFn.{get_or-range_with_len, length-range_with_len, get_or-map-range_with_len}
use Rattle.std.proofs.lemmas.List.Elements.{All-filter}
use Rattle.dt_bits.specs.Bits.{width}
use Rattle.dt_domain.specs.Domain.{DomainOps}
use Rattle.dt_terms.specs.declared.term.Term.{Term}
use Rattle.dt_terms.specs.Terms.{term_at}
use Rattle.dt_box.specs.declared.step.Step.{Step}
use Rattle.dt_box.specs.declared.step.Step.TheVariants.{Forward, Backward}
use Rattle.dt_box.specs.Cells.{cell_at}
use Rattle.dt_box.specs.Steps.{IsStep}
use Rattle.dt_box.specs.Stillness.{IsSettled, IsStill, IsStillAt, tells, origin}
use Rattle.dt_box.specs.Neighbours.{uses, is_near}
use Rattle.dt_box.specs.Trails.{undone}
use Rattle.dt_box.specs.Watching.{users_of, watches_of, IsStillNear, Covers}
use Rattle.dt_box.proofs.Neighbours.{step_same}
use Rattle.dt_box.proofs.Trails.{undone_none, undone_more}

pub origin_in : (terms : List Term) (s : Step) → IsStep terms s → origin s < length terms
origin_in terms (Forward t) h = h.0
origin_in terms (Backward u k) h = h.0

-- an element that passes is among those that pass
found_filter : (p : ℕ → Bool) (xs : List ℕ) (n : ℕ) → p n ≡ true → list_any (λ m. eqb m n) xs ≡ true → list_any (λ m. eqb m n) (filter p xs) ≡ true
found_filter p [] n h e = absurd (false≢true e)
found_filter p (x ∷ xs) n h e =
    let r = found_filter p xs n h in
    ⊎_elim
    (λ (f : eqb x n ≡ true). subst (λ b. list_any (λ m. eqb m n) (cond b (x ∷ filter p xs) (filter p xs)) ≡ true) (sym (ap p (eqb-true x n f) ∙ h)) (or_left (eqb x n) _ f))
    (λ (f : list_any (λ m. eqb m n) xs ≡ true). either (p x) x (filter p xs) (r f))
    (or_cases (eqb x n) _ e)
  where
    either : (b : Bool) (x : ℕ) (ys : List ℕ) → list_any (λ m. eqb m n) ys ≡ true → list_any (λ m. eqb m n) (cond b (x ∷ ys) ys) ≡ true
    either true x ys e = or_right (eqb x n) _ e
    either false x ys e = e

found_at : (xs : List ℕ) (k n : ℕ) → k < length xs → get_or xs k 0 ≡ n → list_any (λ m. eqb m n) xs ≡ true
found_at [] k n l e = absurd (omega arith)
found_at (x ∷ xs) zero n l e = or_left (eqb x n) _ (eq-eqb x n e)
found_at (x ∷ xs) (suc k) n l e = or_right (eqb x n) _ (found_at xs k n (omega arith) e)

-- where one passes, it has a place
pub place_of : (f : ℕ → Bool) (xs : List ℕ) → list_any f xs ≡ true → (k : ℕ) × (k < length xs) × (f (get_or xs k 0) ≡ true)
place_of f [] e = absurd (false≢true e)
place_of f (x ∷ xs) e =
    let r = place_of f xs in
    ⊎_elim (λ (g : f x ≡ true). (zero, omega arith, g)) (λ (g : list_any f xs ≡ true). let i = r g in (suc i.0, omega arith, i.2)) (or_cases (f x) _ e)

module _ (terms : List Term) where
  pub users_at_term : (t : ℕ) → t < length terms → get_or (watches_of terms) t [] ≡ users_of terms t
  users_at_term t l = get_or-map-range_with_len (users_of terms) 0 (length terms) t t [] l (omega arith)

  -- users are terms
  pub user_in : (t k : ℕ) → k < length (users_of terms t) → get_or (users_of terms t) k 0 < length terms
  user_in t k l =
      All-filter (λ n. uses (term_at terms n) t) (λ n. n < length terms) (range_with_len 0 (length terms))
      (λ i d m. rw (get_or-range_with_len 0 (length terms) i d (omega (arith, length-range_with_len 0 (length terms)))) (omega (arith, length-range_with_len 0 (length terms)))) k 0 l

  -- a step near a term goes from the term or from a user of it
  pub near_origin : (t : ℕ) (s : Step) → IsStep terms s → is_near terms t s ≡ true → (origin s ≡ t) ⊎ (list_any (λ n. eqb n (origin s)) (users_of terms t) ≡ true)
  near_origin t s h e =
      ⊎_elim
      (λ (f : eqb (origin s) t ≡ true). inl (eqb-true (origin s) t f))
      (λ (f : uses (term_at terms (origin s)) t ≡ true).
      let n = origin_in terms s h in
      inr (found_filter (λ m. uses (term_at terms m) t) (range_with_len 0 (length terms)) (origin s) f
      (found_at (range_with_len 0 (length terms)) (origin s) (origin s) (omega (arith, length-range_with_len 0 (length terms))) (get_or-range_with_len 0 (length terms) (origin s) 0 n ∙ omega arith))))
      (or_cases (eqb (origin s) t) _ e)

module _ (D : Type 0) (ops : DomainOps D) (terms : List Term) where
  -- where neither the term's steps nor those of its users tell something new, no step near it does
  pub still_near : (cells : List D) (t : ℕ) → IsStillAt ops terms t cells → ((k : ℕ) → k < length (users_of terms t) → IsStillAt ops terms (get_or (users_of terms t) k 0) cells)
      → IsStillNear ops terms cells t
  still_near cells t h u s i e =
      ⊎_elim
      (λ (f : origin s ≡ t). h s i f)
      (λ (f : list_any (λ n. eqb n (origin s)) (users_of terms t) ≡ true).
      let j = place_of (λ n. eqb n (origin s)) (users_of terms t) f in
      u j.0 j.1 s i (sym (eqb-true (get_or (users_of terms t) j.0 0) (origin s) j.2)))
      (near_origin terms t s i e)

  -- a step that isn't near a term tells the same where the term's cell is another
  pub far_tells : (cells : List D) (t : ℕ) (d : D) (s : Step) → IsStep terms s → is_near terms t s ≡ false → tells ops terms s (set cells t d) ≡ tells ops terms s cells
  far_tells cells t d s i e =
      (step_same D ops (set cells t d) cells terms s i
      (λ u n. get_or-set_other cells t u d (ops.full (width 1)) (λ f. absurd (true≢false (sym n ∙ ap (λ v. is_near terms v s) f ∙ e))))).news

  -- where a cell is another, the steps near it may tell something new, beside those that did
  pub covers_more : (cells : List D) (t : ℕ) (d : D) (changed : List ℕ) → Covers ops terms cells changed → Covers ops terms (set cells t d) (t ∷ changed)
  covers_more cells t d changed h s i e =
      ⊎_elim
      (λ (n : is_near terms t s ≡ true). or_left (is_near terms t s) _ n)
      (λ (n : is_near terms t s ≡ false). or_right (is_near terms t s) _ (h s i (sym (far_tells cells t d s i n) ∙ e)))
      (cases_Bool (is_near terms t s))

  pub covers_none : (cells : List D) → IsStill ops terms cells → Covers ops terms cells []
  covers_none cells h s i e = absurd (false≢true (sym (h s i) ∙ e))

  -- where the terms cover all that may tell something new, and nothing near them does, nothing does
  pub still_covered : (cells : List D) (changed : List ℕ) → Covers ops terms cells changed → ((k : ℕ) → k < length changed → IsStillNear ops terms cells (get_or changed k 0))
      → IsStill ops terms cells
  still_covered cells changed c h s i =
      ⊎_elim
      (λ (e : tells ops terms s cells ≡ true). let j = place_of (λ t. is_near terms t s) changed (c s i e) in absurd (true≢false (sym e ∙ h j.0 j.1 s i j.2)))
      (λ (e : tells ops terms s cells ≡ false). e)
      (cases_Bool (tells ops terms s cells))

  -- what tells something new now and didn't before these changes is near one of them
  near_change : (cells : List D) (changes : List (ℕ × D)) (s : Step) → IsStep terms s → tells ops terms s (undone cells changes) ≡ false → tells ops terms s cells ≡ true
      → list_any (λ change. is_near terms change.0 s) changes ≡ true
  near_change cells [] s i e f = absurd (true≢false (sym f ∙ ap (tells ops terms s) (sym (undone_none cells)) ∙ e))
  near_change cells (change ∷ later) s i e f =
      let r = near_change cells later s i in
      ⊎_elim
      (λ (n : is_near terms change.0 s ≡ true). or_left (is_near terms change.0 s) _ n)
      (λ (n : is_near terms change.0 s ≡ false).
      or_right (is_near terms change.0 s) _
      (r (sym (far_tells (undone cells later) change.0 change.1 s i n) ∙ ap (tells ops terms s) (sym (undone_more cells change later)) ∙ e) f))
      (cases_Bool (is_near terms change.0 s))

  -- a cell that none of the changes is of is as it was
  same_cell : (cells : List D) (changes : List (ℕ × D)) (t : ℕ) → list_any (λ change. eqb change.0 t) changes ≡ false → cell_at ops (undone cells changes) t ≡ cell_at ops cells t
  same_cell cells [] t e = ap (λ ds. cell_at ops ds t) (undone_none cells)
  same_cell cells (change ∷ later) t e =
      let p = or_parts (eqb change.0 t) (list_any (λ c. eqb c.0 t) later) e in
      ap (λ ds. cell_at ops ds t) (undone_more cells change later)
      ∙ get_or-set_other (undone cells later) change.0 t change.1 (ops.full (width 1)) (λ f. absurd (eqb-false change.0 t p.0 (sym f)))
      ∙ same_cell cells later t p.1

  change_place : (f : ℕ × D → Bool) (changes : List (ℕ × D)) (x : ℕ × D) → list_any f changes ≡ true → (k : ℕ) × (k < length changes) × (f (get_or changes k x) ≡ true)
  change_place f [] x e = absurd (false≢true e)
  change_place f (c ∷ changes) x e =
      let r = change_place f changes x in
      ⊎_elim (λ (g : f c ≡ true). (zero, omega arith, g)) (λ (g : list_any f changes ≡ true). let i = r g in (suc i.0, omega arith, i.2)) (or_cases (f c) _ e)

  -- settled cells that changed are settled again where no changed cell is empty, and no step near one
  -- tells something new
  pub settled_after : (cells : List D) (changes : List (ℕ × D)) (x : ℕ × D) → length cells ≡ length terms → IsSettled ops terms (undone cells changes)
      → length (undone cells changes) ≡ length cells
      → ((k : ℕ) → k < length changes → ops.is_empty (cell_at ops cells (get_or changes k x).0) ≡ false)
      → ((k : ℕ) → k < length changes → IsStillNear ops terms cells (get_or changes k x).0)
      → IsSettled ops terms cells
  settled_after cells changes x n h m held still = record { held = λ t l. held_at t l (cases_Bool (list_any (λ c. eqb c.0 t) changes)); still = λ s i. false_from_ne_true (tells ops terms s cells) (λ e. true≢false (sym e ∙ still_at s i e)) }
    where
      held_at : (t : ℕ) → t < length cells → (list_any (λ c. eqb c.0 t) changes ≡ true) ⊎ (list_any (λ c. eqb c.0 t) changes ≡ false) → ops.is_empty (cell_at ops cells t) ≡ false
      held_at t l (inl e) =
          let j = change_place (λ c. eqb c.0 t) changes x e in
          subst (λ u. ops.is_empty (cell_at ops cells u) ≡ false) (eqb-true (get_or changes j.0 x).0 t j.2) (held j.0 j.1)
      held_at t l (inr e) = subst (λ d. ops.is_empty d ≡ false) (same_cell cells changes t e) (h.held t (omega arith))

      still_at : (s : Step) → IsStep terms s → tells ops terms s cells ≡ true → tells ops terms s cells ≡ false
      still_at s i e =
          let j = change_place (λ c. is_near terms c.0 s) changes x (near_change cells changes s i (h.still s i) e) in
          still j.0 j.1 s i j.2
