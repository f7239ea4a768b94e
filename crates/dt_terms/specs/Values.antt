-- The values of terms under an assignment, and when an assignment solves a problem.
use Rattle.std.specs.Prelude.{◌≡◌, ℕ, zero, suc, ◌^◌, ◌<◌, Bool, ◌==◌, List, [], ◌∷◌, ◌++◌, length, slice_index}
use Rattle.std.specs.List.{list_all}
use Rattle.dt_bits.specs.Ops.{value_of}
use Rattle.dt_bits.specs.declared.value.Bv.{Bv}
use Rattle.dt_terms.specs.declared.term.Term.{Term}
use Rattle.dt_terms.specs.declared.term.Term.TheVariants.{Choice, Node}
use Rattle.dt_terms.specs.Terms.{width_of_term, term_at, bits_at, choices_of, choice_at}
use Rattle.dt_terms.specs.Problem.{ProblemData}

-- each number has the width of its choice
abbrev pub FitChoices : List Term → List ℕ → Type 0
FitChoices terms numbers =
    (k : ℕ) → k < length numbers
    → slice_index numbers k < 2 ^ bits_at terms (slice_index (choices_of terms) k)

-- an assignment: a number for each choice, each of its width
pub record IsAssignment (terms : List Term) (numbers : List ℕ) : Type 0 where
  pub count : length numbers ≡ length (choices_of terms)
  pub fit : FitChoices terms numbers

-- each value has its term's width
abbrev pub AreFit : List Term → List ℕ → Type 0
AreFit terms values = (t : ℕ) → t < length values → slice_index values t < 2 ^ bits_at terms t

-- the value of the term at position t, where these are the values
abbrev pub bv_at : List Term → List ℕ → ℕ → Bv
bv_at terms values t = record { width = width_of_term (term_at terms t); bits = slice_index values t }

-- the value of this term, which stands at position t, given the values of the earlier ones: a choice
-- has its number, and a node its operator's value of its operands
abbrev pub value_of_term : List Term → List ℕ → List ℕ → ℕ → Term → ℕ
value_of_term terms numbers earlier t (Choice w) = slice_index numbers (choice_at terms t)
value_of_term terms numbers earlier t (Node op a b c w) =
    value_of op (bv_at terms earlier a) (bv_at terms earlier b) (bv_at terms earlier c)

-- the values of the first n terms
unfoldable pub first_values : List Term → List ℕ → ℕ → List ℕ
first_values terms numbers zero = []
first_values terms numbers (suc n) =
    let earlier = first_values terms numbers n in
    earlier ++ value_of_term terms numbers earlier n (term_at terms n) ∷ []

-- the values of the terms under an assignment
abbrev pub values_of : List Term → List ℕ → List ℕ
values_of terms numbers = first_values terms numbers (length terms)

-- the assignment gives each required term the value 1
abbrev pub solves : ProblemData → List ℕ → Bool
solves p numbers = list_all (λ t. slice_index (values_of p.terms numbers) t == 1) p.required
