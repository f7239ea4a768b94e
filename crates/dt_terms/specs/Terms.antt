-- Terms: choices, and nodes over earlier terms.
use Rattle.std.specs.Prelude.{◌≡◌, ℕ, ◌+◌, ◌<◌, ◌≤◌, Bool, true, false, if◌then◌else◌, Some, List, [], ◌∷◌, length, slice_index_or, take}
use Rattle.dt_bits.specs.Bits.{IsWidth, width}
use Rattle.dt_bits.specs.Ops.{IsOp, arity_of, fits_of}
use Rattle.dt_bits.specs.declared.op.Op.{Op}
use Rattle.dt_bits.specs.declared.value.Width.{Width}
use Rattle.dt_terms.specs.declared.term.Term.{Term}
use Rattle.dt_terms.specs.declared.term.Term.TheVariants.{Choice, Node}

-- the width of a term's value
abbrev pub width_of_term : Term → Width
width_of_term (Choice w) = w
width_of_term (Node op a b c w) = w

abbrev pub is_choice : Term → Bool
is_choice (Choice w) = true
is_choice (Node op a b c w) = false

-- the term at a position; past the end a choice of one bit
abbrev pub term_at : List Term → ℕ → Term
term_at terms t = slice_index_or terms t (Choice (width 1))

-- how many bits the value of the term at a position has
abbrev pub bits_at : List Term → ℕ → ℕ
bits_at terms t = (width_of_term (term_at terms t)).0

-- a is an earlier term where the operator has an operand at place k, and else 0
pub record IsOperand (earlier : List Term) (op : Op) (k a : ℕ) : Type 0 where
  pub used : k < arity_of op → a < length earlier
  pub unused : arity_of op ≤ k → a ≡ 0

-- the operands are earlier terms, which the operator fits, and it gives this width
pub record IsNode (earlier : List Term) (op : Op) (a b c : ℕ) (w : Width) : Type 0 where
  pub op_is : IsOp op
  pub first : IsOperand earlier op 0 a
  pub second : IsOperand earlier op 1 b
  pub third : IsOperand earlier op 2 c
  pub fits : fits_of op (bits_at earlier a) (bits_at earlier b) (bits_at earlier c) ≡ Some w

abbrev pub IsFitting : List Term → Term → Type 0
IsFitting earlier (Choice w) = Unit {0}
IsFitting earlier (Node op a b c w) = IsNode earlier op a b c w

-- the term may stand after these
pub record IsTerm (earlier : List Term) (term : Term) : Type 0 where
  pub width_is : IsWidth (width_of_term term).0
  pub fitting : IsFitting earlier term

-- each term may stand after those before it
abbrev pub AreTerms : List Term → Type 0
AreTerms terms = (t : ℕ) → t < length terms → IsTerm (take t terms) (term_at terms t)

-- the positions of the choices among terms that begin at position n
unfoldable pub choices_from : ℕ → List Term → List ℕ
choices_from n [] = []
choices_from n (term ∷ terms) =
    if is_choice term then n ∷ choices_from (n + 1) terms else choices_from (n + 1) terms

-- the positions of the choices, in rising order; choice number k is the k-th of them
abbrev pub choices_of : List Term → List ℕ
choices_of terms = choices_from 0 terms

-- the number of the choice that stands at position t: how many stand before it
abbrev pub choice_at : List Term → ℕ → ℕ
choice_at terms t = length (choices_of (take t terms))
