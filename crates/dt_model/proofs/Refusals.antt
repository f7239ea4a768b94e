-- The first place of a list that is at fault.
use Rattle.std.proofs.Common.{◌≡◌, ℕ, ◌+◌, ◌<◌, ◌≤◌, List, length, get_or, Option, Some, None, sym, subst, arith, ⊎_elim}
use Rattle.std.specs.Prelude.{IsSomeAnd, slice_get}
use Rattle.std.proofs.lemmas.Bool.{cases_lt}
use Rattle.std.proofs.lemmas.Option.{slice_get-get_or, slice_get_past}
use Rattle.dt_model.specs.declared.refusal.ModelRefusal.{ModelRefusal}
use Rattle.std.specs.Prelude.{IsTrue}
use Rattle.dt_model.specs.declared.flags.Flags.{Flags}
use Rattle.dt_model.specs.Refusals.{IsSmallest, IsFirst, Tells, flag}

pub first_here : (P : ℕ → ModelRefusal → Type 0) (i : ℕ) (r : ModelRefusal) → IsSmallest (P i) (Some r) → ((j : ℕ) (s : ModelRefusal) → j < i → P j s → ⊥) → IsFirst P (Some (i, r))
first_here P i r h b = (h.0, h.1, b)

pub none_more : (P : ℕ → ModelRefusal → Type 0) (i : ℕ) → ((j : ℕ) (s : ModelRefusal) → j < i → P j s → ⊥) → IsSmallest (P i) None → (j : ℕ) (s : ModelRefusal) → j < i + 1 → P j s → ⊥
none_more P i b h j s l p = ⊎_elim (λ (q : j < i). b j s q p) (λ (q : i ≤ j). let e : j ≡ i = omega arith in h s (subst (λ k. P k s) e p)) (cases_lt j i)

pub none_past : {X : Type 0} (xs : List X) (Q : ℕ → X → ModelRefusal → Type 0) → ((j : ℕ) (s : ModelRefusal) → j < length xs → IsSomeAnd (slice_get xs j) (λ x. Q j x s) → ⊥) → (j : ℕ) (s : ModelRefusal) → IsSomeAnd (slice_get xs j) (λ x. Q j x s) → ⊥
none_past {X} xs Q h j s p = ⊎_elim (λ (q : j < length xs). h j s q p) (λ (q : length xs ≤ j). subst (λ (o : Option X). IsSomeAnd o (λ x. Q j x s)) (slice_get_past xs j q) p) (cases_lt j (length xs))

-- the smallest refusal of the item at i
pub smallest_at : {X : Type 0} (xs : List X) (i : ℕ) (d : X) (Q : X → ModelRefusal → Type 0) (r : Option ModelRefusal) → i < length xs → IsSmallest (Q (get_or xs i d)) r → IsSmallest (λ s. IsSomeAnd (slice_get xs i) (λ x. Q x s)) r
smallest_at {X} xs i d Q r l h = subst (λ (o : Option X). IsSmallest (λ s. IsSomeAnd o (λ x. Q x s)) r) (sym (slice_get-get_or xs i d l)) h

-- the smallest refusal by the flags is the smallest by what they tell
pub smallest_told : (f : Flags) (P : ModelRefusal → Type 0) (o : Option ModelRefusal) → Tells f P → IsSmallest (λ r. IsTrue (flag f r)) o → IsSmallest P o
smallest_told f P None t h = λ r p. h r ((t r).1 p)
smallest_told f P (Some r) t h = ((t r).0 h.0, λ s l p. h.1 s l ((t s).1 p))
