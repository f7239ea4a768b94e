-- Which nodes use a term, and near which terms a step can tell something new.
use Rattle.std.specs.Prelude.{◌≡◌, ℕ, ◌<◌, true, false, List, length, filter, map, slice_index}
use Rattle.std.specs.List.{list_any, range_with_len}
use Rattle.dt_domain.specs.Domain.{DomainOps}
use Rattle.dt_terms.specs.declared.term.Term.{Term}
use Rattle.dt_terms.specs.Terms.{term_at}
use Rattle.dt_box.specs.declared.step.Step.{Step}
use Rattle.dt_box.specs.Steps.{IsStep}
use Rattle.dt_box.specs.Stillness.{tells, IsStillAt}
use Rattle.dt_box.specs.Neighbours.{uses, is_near}

-- the nodes that use the term, in rising order
abbrev pub users_of : List Term → ℕ → List ℕ
users_of terms t = filter (λ n. uses (term_at terms n) t) (range_with_len 0 (length terms))

-- the users of each term
abbrev pub watches_of : List Term → List (List ℕ)
watches_of terms = map (users_of terms) (range_with_len 0 (length terms))

-- no step near the term tells something new
abbrev pub IsStillNear : {D : Type 0} → DomainOps D → List Term → List D → ℕ → Type 0
IsStillNear ops terms cells t = (step : Step) → IsStep terms step → is_near terms t step ≡ true → tells ops terms step cells ≡ false

-- nor does one of a node that uses the term
pub record AreStillNear {D : Type 0} (ops : DomainOps D) (terms : List Term) (cells : List D) (t : ℕ) : Type 0 where
  pub near : IsStillNear ops terms cells t
  pub users : (k : ℕ) → k < length (users_of terms t) → IsStillAt ops terms (slice_index (users_of terms t) k) cells

-- each step of the problem that tells something new is near one of these terms
abbrev pub Covers : {D : Type 0} → DomainOps D → List Term → List D → List ℕ → Type 0
Covers ops terms cells changed =
    (step : Step) → IsStep terms step → tells ops terms step cells ≡ true
    → list_any (λ t. is_near terms t step) changed ≡ true
