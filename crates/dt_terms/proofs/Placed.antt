-- A node among the terms of a problem.
use Rattle.std.proofs.Common.{◌≡◌, ℕ, ◌<◌, ◌≤◌, true, List, length, take, Some, sym, ap, ◌∙◌, subst, ◌⊎◌, inl, inr, arith}
use Rattle.std.proofs.lemmas.Bool.{cases_lt}
use Rattle.std.proofs.lemmas.List.{get_or-take, length-take-le}
use Rattle.dt_bits.specs.Bits.{IsWidth, width}
use Rattle.dt_bits.specs.Ops.{IsOp, arity_of, fits_at, fits_of, width_of}
use Rattle.dt_bits.specs.declared.op.Op.{Op}
use Rattle.dt_bits.specs.declared.value.Width.{Width}
use Rattle.dt_bits.proofs.Operators.{fits_same}
use Rattle.dt_lemmas.proofs.Options.{some_if}
use Rattle.dt_terms.specs.declared.term.Term.{Term}
use Rattle.dt_terms.specs.declared.term.Term.TheVariants.{Choice, Node}
use Rattle.dt_terms.specs.Terms.{width_of_term, term_at, bits_at, IsOperand, IsNode, IsFitting, AreTerms}

-- where the operator gives a width, it fits, and gives this one
pub fits_parts : (op : Op) (a b c : ℕ) (w : Width) → fits_of op a b c ≡ Some w
    → (fits_at op a b c ≡ true) × (width (width_of op a b c) ≡ w)
fits_parts op a b c w e = some_if (fits_at op a b c) (width (width_of op a b c)) w e

-- a node among the terms: its operands are there, and the widths are as the whole list has them
pub record IsPlaced (terms : List Term) (t : ℕ) (op : Op) (a b c : ℕ) (w : Width) : Type 0 where
  pub op_is : IsOp op
  pub a_in : a < length terms
  pub b_in : b < length terms
  pub c_in : c < length terms
  pub a_before : 0 < arity_of op → a < t
  pub b_before : 1 < arity_of op → b < t
  pub c_before : 2 < arity_of op → c < t
  pub fits : fits_of op (bits_at terms a) (bits_at terms b) (bits_at terms c) ≡ Some w

-- every position has a width
pub bits_is : (terms : List Term) → AreTerms terms → (t : ℕ) → t < length terms → IsWidth (bits_at terms t)
bits_is terms h t l = (h t l).width_is

operand_in : (n t a k : ℕ) (op : Op) (earlier : List Term) → IsOperand earlier op k a → length earlier ≡ t → t < n → a < n
operand_in n t a k op earlier h e l = by_order (cases_lt k (arity_of op))
  where
    by_order : (k < arity_of op) ⊎ (arity_of op ≤ k) → a < n
    by_order (inl m) = let z : a < length earlier = h.used m in omega arith
    by_order (inr m) = let z : a ≡ 0 = h.unused m in omega arith

bits_take : (terms : List Term) (t a : ℕ) → a < t → bits_at (take t terms) a ≡ bits_at terms a
bits_take terms t a l = ap (λ x. (width_of_term x).0) (get_or-take t terms a (Choice (width 1)) l)

node_placed : (terms : List Term) (t : ℕ) (op : Op) (a b c : ℕ) (w : Width) → IsNode (take t terms) op a b c w → t < length terms
    → IsPlaced terms t op a b c w
node_placed terms t op a b c w h l =
    let e : length (take t terms) ≡ t = length-take-le t terms (omega arith) in
    let first : 0 < arity_of op → a < t = λ m. let z : a < length (take t terms) = h.first.used m in omega arith in
    let second : 1 < arity_of op → b < t = λ m. let z : b < length (take t terms) = h.second.used m in omega arith in
    let third : 2 < arity_of op → c < t = λ m. let z : c < length (take t terms) = h.third.used m in omega arith in
    record {
      op_is = h.op_is;
      a_in = operand_in (length terms) t a 0 op (take t terms) h.first e l;
      b_in = operand_in (length terms) t b 1 op (take t terms) h.second e l;
      c_in = operand_in (length terms) t c 2 op (take t terms) h.third e l;
      a_before = first;
      b_before = second;
      c_before = third;
      fits = sym (fits_same op _ _ _ (bits_at terms a) (bits_at terms b) (bits_at terms c)
          (λ m. bits_take terms t a (first m)) (λ m. bits_take terms t b (second m)) (λ m. bits_take terms t c (third m))) ∙ h.fits;
    }

-- what a node of a problem has, by what its place holds
pub placed : (terms : List Term) (t : ℕ) (op : Op) (a b c : ℕ) (w : Width) → AreTerms terms → t < length terms → term_at terms t ≡ Node op a b c w
    → IsPlaced terms t op a b c w
placed terms t op a b c w h l e = node_placed terms t op a b c w (subst (IsFitting (take t terms)) e (h t l).fitting) l
