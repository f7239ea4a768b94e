-- Values of terms that are kept up as the numbers of choices change.
use Rattle.std.specs.Prelude.{◌≡◌, ◌≢◌, ℕ, ◌<◌, Bool, true, false, ◌⊎◌, List, length, map, slice_index, slice_index_or}
use Rattle.dt_bits.specs.Ops.{value_of}
use Rattle.dt_terms.specs.declared.term.Term.{Term}
use Rattle.dt_terms.specs.declared.term.Term.TheVariants.{Choice, Node}
use Rattle.dt_terms.specs.Terms.{term_at, choices_of}
use Rattle.dt_terms.specs.Values.{AreFit, bv_at}
use Rattle.dt_check.specs.Marks.{HasNone}
use Rattle.dt_check.specs.declared.evaluation.Evaluation.{Evaluation}

-- what the values say of the term at position t: a node has its operator's value of its operands, and a
-- choice the value that it has
abbrev pub value_among : List Term → List ℕ → ℕ → Term → ℕ
value_among terms values t (Choice w) = slice_index values t
value_among terms values t (Node op a b c w) =
    value_of op (bv_at terms values a) (bv_at terms values b) (bv_at terms values c)

-- the term has the value that the others say
abbrev pub IsInLine : List Term → List ℕ → ℕ → Type 0
IsInLine terms values t = slice_index values t ≡ value_among terms values t (term_at terms t)

-- it is marked, or in line
abbrev pub IsSeenTo : List Term → List ℕ → List Bool → ℕ → Type 0
IsSeenTo terms values marks t = (slice_index_or marks t false ≡ true) ⊎ IsInLine terms values t

-- values of the terms, each of its width, and a mark for each
pub record AreValues (terms : List Term) (values : List ℕ) (marks : List Bool) : Type 0 where
  pub count : length values ≡ length terms
  pub marks_count : length marks ≡ length terms
  pub fit : AreFit terms values

-- each term whose value isn't in line is marked, but for the one at position u
pub record AreSeenToBut (terms : List Term) (values : List ℕ) (marks : List Bool) (u : ℕ) : Type 0 where
  pub are : AreValues terms values marks
  pub each : (t : ℕ) → t < length terms → t ≢ u → IsSeenTo terms values marks t

-- each term whose value isn't in line is marked
pub record AreSeenTo (terms : List Term) (values : List ℕ) (marks : List Bool) : Type 0 where
  pub are : AreValues terms values marks
  pub each : (t : ℕ) → t < length terms → IsSeenTo terms values marks t

-- values of the terms, each in line, and nothing is marked
pub record IsEvaluated (terms : List Term) (e : Evaluation) : Type 0 where
  pub are : AreValues terms e.values.items e.marks.marks.items
  pub in_line : (t : ℕ) → t < length terms → IsInLine terms e.values.items t
  pub unmarked : HasNone e.marks.marks.items 0 (length terms)

-- the numbers that the choices have as their values
abbrev pub numbers_of : List Term → List ℕ → List ℕ
numbers_of terms values = map (slice_index values) (choices_of terms)

-- ---- required terms that fail

-- the required term at this place isn't 1
pub record IsFailing (required values : List ℕ) (place : ℕ) : Type 0 where
  pub within : place < length required
  pub fails : slice_index values (slice_index required place) ≢ 1

-- it is the first such one
pub record IsFirstFailing (required values : List ℕ) (place : ℕ) : Type 0 where
  pub failing : IsFailing required values place
  pub first : (k : ℕ) → k < place → slice_index values (slice_index required k) ≡ 1
