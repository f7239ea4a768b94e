-- What is propagated to a step's target fits it, and cells stay cells of the problem.
use Rattle.std.proofs.Common.{◌≡◌, ◌≢◌, ℕ, zero, suc, ◌<◌, Bool, List, length, get_or, set, Some, refl, sym, ap, ◌∙◌, subst, ⊎_elim, ◌⊎◌, inl, inr, ◌≤◌, ltb, arith, get_or-set_same, get_or-set_other, length-set}
use Rattle.std.proofs.lemmas.Bool.{cases_eq, cases_lt, lt-ltb, le-ltb, cond-true, cond-false}
use Rattle.dt_bits.specs.Bits.{width}
use Rattle.dt_bits.specs.Ops.{arity_of, fits_of}
use Rattle.dt_bits.specs.declared.op.Op.{Op}
use Rattle.dt_bits.specs.declared.value.Width.{Width}
use Rattle.dt_bits.proofs.Operators.{fits_same}
use Rattle.dt_domain.specs.Domain.{DomainOps, DomainLaws, Fitting, FittingAt, AreAlike, bits_of, operand, result_width}
use Rattle.dt_terms.specs.declared.term.Term.{Term}
use Rattle.dt_terms.specs.declared.term.Term.TheVariants.{Choice, Node}
use Rattle.dt_terms.specs.Terms.{width_of_term, term_at, bits_at, AreTerms}
use Rattle.dt_terms.proofs.Placed.{IsPlaced, placed, fits_parts}
use Rattle.dt_box.specs.declared.step.Step.{Step}
use Rattle.dt_box.specs.declared.step.Step.TheVariants.{Forward, Backward}
use Rattle.dt_box.specs.Cells.{cell_at, AreCells}
use Rattle.dt_box.specs.Steps.{IsNodeTerm, HasPlace, IsStep, operand_at, target, operand_cell, propagated_forward, propagated_backward, propagated, narrowed, after_step, after_bit}

pub operand_in : (P : ℕ → Type 0) (k a b c : ℕ) → P a → P b → P c → P (operand k a b c)
operand_in P zero a b c p q r = p
operand_in P (suc zero) a b c p q r = q
operand_in P (suc (suc k)) a b c p q r = r

module _ (D : Type 0) (ops : DomainOps D) (laws : DomainLaws ops) (terms : List Term) (right : AreTerms terms) where
  -- the cell of an operand that the operator has
  pub used_cell : (op : Op) (k a : ℕ) (cells : List D) → k < arity_of op → operand_cell ops cells op k a ≡ cell_at ops cells a
  used_cell op k a cells l = cond-true (ltb k (arity_of op)) (cell_at ops cells a) (ops.full (width 1)) (lt-ltb k (arity_of op) l)

  unused_cell : (op : Op) (k a : ℕ) (cells : List D) → arity_of op ≤ k → operand_cell ops cells op k a ≡ ops.full (width 1)
  unused_cell op k a cells l = cond-false (ltb k (arity_of op)) (cell_at ops cells a) (ops.full (width 1)) (le-ltb k (arity_of op) l)

  pub place_cell : (op : Op) (k a b c : ℕ) (cells : List D) → k < arity_of op
      → operand k (operand_cell ops cells op 0 a) (operand_cell ops cells op 1 b) (operand_cell ops cells op 2 c) ≡ cell_at ops cells (operand k a b c)
  place_cell op zero a b c cells l = used_cell op 0 a cells l
  place_cell op (suc zero) a b c cells l = used_cell op 1 b cells l
  place_cell op (suc (suc k)) a b c cells l = used_cell op 2 c cells (omega arith)

  -- what is handed in at each place is a domain
  operand_domain : (op : Op) (k a : ℕ) (cells : List D) → AreCells ops terms cells → a < length terms → ops.IsDomain (operand_cell ops cells op k a)
  operand_domain op k a cells h l = by_order (cases_lt k (arity_of op))
    where
      by_order : (k < arity_of op) ⊎ (arity_of op ≤ k) → ops.IsDomain (operand_cell ops cells op k a)
      by_order (inl m) = subst ops.IsDomain (sym (used_cell op k a cells m)) (h.domains a l)
      by_order (inr m) = subst ops.IsDomain (sym (unused_cell op k a cells m)) (laws.full_is (width 1) (omega arith, omega arith)).0

  -- a cell has as many bits as its term
  bits_are : (cells : List D) (t : ℕ) → AreCells ops terms cells → t < length terms → bits_of ops (cell_at ops cells t) ≡ bits_at terms t
  bits_are cells t h l = ap (λ w. w.0) (h.widths t l)

  -- where it is used, an operand's cell has as many bits as the operand
  bits_used : (op : Op) (k a : ℕ) (cells : List D) → AreCells ops terms cells → a < length terms → k < arity_of op
      → bits_of ops (operand_cell ops cells op k a) ≡ bits_at terms a
  bits_used op k a cells h l m = ap (bits_of ops) (used_cell op k a cells m) ∙ bits_are cells a h l

  pub cells_fit : (t : ℕ) (op : Op) (a b c : ℕ) (w : Width) (cells : List D) → AreCells ops terms cells → IsPlaced terms t op a b c w
      → fits_of op (bits_of ops (operand_cell ops cells op 0 a)) (bits_of ops (operand_cell ops cells op 1 b)) (bits_of ops (operand_cell ops cells op 2 c)) ≡ Some w
  cells_fit t op a b c w cells h p =
      fits_same op _ _ _ (bits_at terms a) (bits_at terms b) (bits_at terms c) (bits_used op 0 a cells h p.a_in) (bits_used op 1 b cells h p.b_in) (bits_used op 2 c cells h p.c_in)
      ∙ p.fits

  pub fitting : (t : ℕ) (op : Op) (a b c : ℕ) (w : Width) (cells : List D) → AreCells ops terms cells → IsPlaced terms t op a b c w
      → Fitting ops op (operand_cell ops cells op 0 a) (operand_cell ops cells op 1 b) (operand_cell ops cells op 2 c)
  fitting t op a b c w cells h p = record {
    op_is = p.op_is;
    a_is = operand_domain op 0 a cells h p.a_in;
    b_is = operand_domain op 1 b cells h p.b_in;
    c_is = operand_domain op 2 c cells h p.c_in;
    fits = (fits_parts op _ _ _ w (cells_fit t op a b c w cells h p)).0;
  }

  -- a node's cell is as wide as its operator's values
  pub node_width : (t : ℕ) (op : Op) (a b c : ℕ) (w : Width) (cells : List D) → AreCells ops terms cells → IsPlaced terms t op a b c w → t < length terms
      → width_of_term (term_at terms t) ≡ w
      → ops.width (cell_at ops cells t) ≡ result_width ops op (operand_cell ops cells op 0 a) (operand_cell ops cells op 1 b) (operand_cell ops cells op 2 c)
  node_width t op a b c w cells h p m e = h.widths t m ∙ e ∙ sym (fits_parts op _ _ _ w (cells_fit t op a b c w cells h p)).1

  pub fitting_at : (t k : ℕ) (op : Op) (a b c : ℕ) (w : Width) (cells : List D) → AreCells ops terms cells → IsPlaced terms t op a b c w → k < arity_of op → t < length terms
      → width_of_term (term_at terms t) ≡ w
      → FittingAt ops op k (cell_at ops cells t) (operand_cell ops cells op 0 a) (operand_cell ops cells op 1 b) (operand_cell ops cells op 2 c)
  fitting_at t k op a b c w cells h p l m e = record {
    operands = fitting t op a b c w cells h p;
    place = l;
    r_is = h.domains t m;
    r_width = node_width t op a b c w cells h p m e;
  }

  -- d may narrow the cell of term t
  pub record Narrows (d : D) (t : ℕ) : Type 0 where
    pub within : t < length terms
    pub domain : ops.IsDomain d
    pub width : ops.width d ≡ width_of_term (term_at terms t)

  forward_narrows : (t : ℕ) (cells : List D) (node : Term) → term_at terms t ≡ node → IsNodeTerm node → t < length terms → AreCells ops terms cells
      → Narrows (propagated_forward ops cells node) t
  forward_narrows t cells (Choice w) e n m h = absurd n
  forward_narrows t cells (Node op a b c w) e n m h =
      let p = placed terms t op a b c w right m e in
      let f = laws.forward_is op _ _ _ (fitting t op a b c w cells h p) in
      record {
        within = m;
        domain = f.0;
        width = f.1 ∙ (fits_parts op _ _ _ w (cells_fit t op a b c w cells h p)).1 ∙ sym (ap width_of_term e);
      }

  backward_narrows : (t k : ℕ) (cells : List D) (node : Term) → term_at terms t ≡ node → HasPlace node k → t < length terms → AreCells ops terms cells
      → Narrows (propagated_backward ops cells k (cell_at ops cells t) node) (operand_at node k)
  backward_narrows t k cells (Choice w) e n m h = absurd n
  backward_narrows t k cells (Node op a b c w) e n m h =
      let p = placed terms t op a b c w right m e in
      let i = operand_in (λ u. u < length terms) k a b c p.a_in p.b_in p.c_in in
      let f = laws.backward_is op k _ _ _ _ (fitting_at t k op a b c w cells h p n m (ap width_of_term e)) in
      record {
        within = i;
        domain = f.0;
        width = f.1 ∙ ap ops.width (place_cell op k a b c cells n) ∙ h.widths (operand k a b c) i;
      }

  -- what the neighbours' cells say may narrow the target's cell
  pub step_narrows : (s : Step) (cells : List D) → AreCells ops terms cells → IsStep terms s → Narrows (propagated ops terms s cells) (target terms s)
  step_narrows (Forward t) cells h s = forward_narrows t cells (term_at terms t) refl s.1 s.0 h
  step_narrows (Backward t k) cells h s = backward_narrows t k cells (term_at terms t) refl s.1 s.0 h

  pub step_alike : (s : Step) (cells : List D) → AreCells ops terms cells → IsStep terms s
      → AreAlike ops (cell_at ops cells (target terms s)) (propagated ops terms s cells)
  step_alike s cells h i =
      let n = step_narrows s cells h i in
      record { a_is = h.domains (target terms s) n.within; b_is = n.domain; widths = h.widths (target terms s) n.within ∙ sym n.width }

  pub narrowed_is : (s : Step) (cells : List D) → AreCells ops terms cells → IsStep terms s → ops.IsDomain (narrowed ops terms s cells)
  narrowed_is s cells h i = (laws.meet_is _ _ (step_alike s cells h i)).0

  -- a fact of each cell, where one was replaced
  pub at_set : (cells : List D) (u t : ℕ) (m : D) (P : D → Type 0) → u < length cells → (t ≡ u → P m) → (t ≢ u → P (cell_at ops cells t))
      → P (cell_at ops (set cells u m) t)
  at_set cells u t m P l p q =
      ⊎_elim
      (λ (e : t ≡ u). subst (λ n. P (get_or (set cells u m) n (ops.full (width 1)))) (sym e) (subst P (sym (get_or-set_same cells u m (ops.full (width 1)) l)) (p e)))
      (λ (n : t ≢ u). subst P (sym (get_or-set_other cells u t m (ops.full (width 1)) n)) (q n))
      (cases_eq t u)

  pub set_cells : (cells : List D) (u : ℕ) (m : D) → AreCells ops terms cells → u < length terms → ops.IsDomain m → ops.width m ≡ width_of_term (term_at terms u)
      → AreCells ops terms (set cells u m)
  set_cells cells u m h l i w = record {
    count = length-set cells u m ∙ h.count;
    domains = λ t n. at_set cells u t m ops.IsDomain (omega (arith, h.count)) (λ e. i) (λ _. h.domains t n);
    widths = λ t n. at_set cells u t m (λ d. ops.width d ≡ width_of_term (term_at terms t)) (omega (arith, h.count)) (λ e. w ∙ ap (λ v. width_of_term (term_at terms v)) (sym e)) (λ _. h.widths t n);
  }

  -- a step of the problem gives cells of it
  pub step_cells : (s : Step) (cells : List D) → AreCells ops terms cells → IsStep terms s → AreCells ops terms (after_step ops terms s cells)
  step_cells s cells h i =
      let n = step_narrows s cells h i in
      let m = laws.meet_is _ _ (step_alike s cells h i) in
      set_cells cells (target terms s) _ h n.within m.0 (m.1 ∙ h.widths (target terms s) n.within)

  -- so does setting a bit
  pub bit_cells : (t i : ℕ) (v : Bool) (cells : List D) → AreCells ops terms cells → t < length terms → i < bits_at terms t → AreCells ops terms (after_bit ops t i v cells)
  bit_cells t i v cells h l m =
      let b = laws.with_bit_is (cell_at ops cells t) i v (h.domains t l) (omega (arith, bits_are cells t h l)) in
      set_cells cells t _ h l b.0 (b.1 ∙ h.widths t l)
