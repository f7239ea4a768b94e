-- Which choices are marked.
use Rattle.std.specs.Prelude.{◌≡◌, ℕ, ◌<◌, ◌≤◌, Bool, true, false, ◌⊎◌, List, length, slice_index, slice_index_or}
use Rattle.dt_terms.specs.declared.term.Term.{Term}
use Rattle.dt_terms.specs.Terms.{term_at, is_choice}

-- exactly the choices among the first n terms are marked
pub record AreChoices (terms : List Term) (n : ℕ) (marks : List Bool) : Type 0 where
  pub count : length marks ≡ length terms
  pub marked : (t : ℕ) → t < n → is_choice (term_at terms t) ≡ true → slice_index_or marks t false ≡ true
  pub choices : (t : ℕ) → slice_index_or marks t false ≡ true → is_choice (term_at terms t) ≡ true

-- t is one of these terms, from place m up to n
pub record StandsBetween (changed : List ℕ) (m n t : ℕ) : Type 0 where
  pub place : ℕ
  pub after : m ≤ place
  pub before : place < n
  pub stands : slice_index changed place ≡ t

-- exactly the choices among these terms, from place m up to n, are marked beside those that were
pub record AreNoted (terms : List Term) (changed : List ℕ) (m n : ℕ) (old new : List Bool) : Type 0 where
  pub count : length new ≡ length old
  pub kept : (t : ℕ) → slice_index_or old t false ≡ true → slice_index_or new t false ≡ true
  pub noted : (k : ℕ) → m ≤ k → k < n → is_choice (term_at terms (slice_index changed k)) ≡ true
      → slice_index_or new (slice_index changed k) false ≡ true
  pub only : (t : ℕ) → slice_index_or new t false ≡ true
      → (slice_index_or old t false ≡ true) ⊎ ((is_choice (term_at terms t) ≡ true) × StandsBetween changed m n t)
