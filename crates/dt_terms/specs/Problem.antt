-- Problems: terms, and which of them must be 1.
use Rattle.std.specs.Prelude.{◌≡◌, ℕ, ◌<◌, ◌≤◌, List, length, All}
use Rattle.dt_terms.specs.declared.term.Term.{Term}
use Rattle.dt_terms.specs.Terms.{AreTerms, bits_at}

-- the terms, and the positions of those that must be 1
pub record ProblemData : Type 0 where
  pub terms : List Term
  pub required : List ℕ

-- how many terms a problem has at most
abbrev pub most_terms : ℕ
most_terms = 4000000

-- a term of one bit
abbrev pub IsTest : List Term → ℕ → Type 0
IsTest terms t = (t < length terms) × (bits_at terms t ≡ 1)

-- what holds of every problem
pub record IsProblem (p : ProblemData) : Type 0 where
  pub count : length p.terms ≤ most_terms
  pub terms : AreTerms p.terms
  pub required : All (IsTest p.terms) p.required
