-- Root cells hold every assignment that solves the problem; steps and fitting bits keep what cells
-- hold. All is from the laws of domains alone.
use Rattle.std.proofs.Common.{◌≡◌, ℕ, zero, suc, ◌<◌, Bool, true, false, cond, List, length, take, get_or, set, refl, sym, ap, ◌∙◌, subst, ⊎_elim, arith, length-set, eqb}
use Rattle.std.proofs.lemmas.List.{get_or-take}
use Rattle.std.proofs.lemmas.List.Sums.{AllPass-from_list_all}
use Rattle.dt_lemmas.proofs.Lists.{holds_among}
use Rattle.std.proofs.lemmas.Bool.{cases_Bool, eqb-true, false≢true}
use Rattle.dt_bits.specs.Bits.{bit, width}
use Rattle.dt_bits.specs.Ops.{arity_of, value_of}
use Rattle.dt_bits.specs.declared.op.Op.{Op}
use Rattle.dt_bits.specs.declared.value.Bv.{Bv}
use Rattle.dt_bits.specs.declared.value.Width.{Width}
use Rattle.dt_bits.proofs.Operators.{value_used}
use Rattle.dt_domain.specs.Domain.{DomainOps, DomainLaws, HoldUsed, Holds, operand, value_at}
use Rattle.dt_terms.specs.declared.term.Term.{Term}
use Rattle.dt_terms.specs.declared.term.Term.TheVariants.{Choice, Node}
use Rattle.dt_terms.specs.Terms.{width_of_term, term_at, bits_at, AreTerms}
use Rattle.dt_terms.specs.Problem.{ProblemData, IsProblem}
use Rattle.dt_terms.specs.Values.{IsAssignment, value_of_term, values_of, solves}
use Rattle.dt_terms.proofs.Placed.{IsPlaced, placed}
use Rattle.dt_terms.proofs.Valued.{value_is, values_fit, length-values_of}
use Rattle.dt_box.specs.declared.step.Step.{Step}
use Rattle.dt_box.specs.declared.step.Step.TheVariants.{Forward, Backward}
use Rattle.dt_box.specs.Cells.{cell_at, AreCells, certain, is_required, root_cells, HoldValues, HoldAssignment}
use Rattle.dt_box.specs.Steps.{IsNodeTerm, HasPlace, IsStep, operand_at, operand_cell, target, propagated_forward, propagated_backward, propagated, after_step, after_bit}
use Rattle.dt_box.proofs.Steps.{fitting, fitting_at, step_alike, step_narrows, at_set, used_cell}
use Rattle.dt_box.proofs.Roots.{root_cell_at, length-root_cells}

module _ (D : Type 0) (ops : DomainOps D) (laws : DomainLaws ops) where
  root_holds_at : (p : ProblemData) (numbers : List ℕ) (t : ℕ) (b : Bool) → IsProblem p → IsAssignment p.terms numbers → solves p numbers ≡ true → t < length p.terms → is_required p t ≡ b
      → Holds ops (cond b (certain ops) (ops.full (width_of_term (term_at p.terms t)))) (get_or (values_of p.terms numbers) t 0)
  root_holds_at p numbers t true h i s l e =
      let one : get_or (values_of p.terms numbers) t 0 ≡ 1 =
      eqb-true _ _ (holds_among (λ r. eqb (get_or (values_of p.terms numbers) r 0) 1 ≡ true) p.required t (AllPass-from_list_all _ p.required s) e) in
      let v : Bv = record { width = width 1; bits = 1 } in
      (laws.one_holds v (get_or (values_of p.terms numbers) t 0) ((omega arith, omega arith), omega arith)).1 one
  root_holds_at p numbers t false h i s l e =
      laws.full_holds (width_of_term (term_at p.terms t)) (get_or (values_of p.terms numbers) t 0) (h.terms t l).width_is
      (values_fit p.terms numbers h.terms i t (omega (arith, length-values_of p.terms numbers)))

  -- the root cells hold every assignment that solves the problem
  pub root_holds : (p : ProblemData) (numbers : List ℕ) → IsProblem p → IsAssignment p.terms numbers → solves p numbers ≡ true
      → HoldAssignment ops p.terms (root_cells ops p) numbers
  root_holds p numbers h i s t l =
      let m : t < length p.terms = omega (arith, length-root_cells D ops p) in
      subst (λ d. Holds ops d (get_or (values_of p.terms numbers) t 0)) (sym (root_cell_at D ops p t m))
      (root_holds_at p numbers t (is_required p t) h i s m refl)

  module _ (terms : List Term) (right : AreTerms terms) where
    held_at : (values : List ℕ) (cells : List D) (t : ℕ) → AreCells ops terms cells → HoldValues ops cells values → t < length terms
        → Holds ops (cell_at ops cells t) (get_or values t 0)
    held_at values cells t h all l = all t (omega (arith, h.count))

    -- a value among those of the terms before is the term's value
    held_before : (values : List ℕ) (cells : List D) (t a : ℕ) → AreCells ops terms cells → HoldValues ops cells values → t < length terms → a < t
        → Holds ops (cell_at ops cells a) (get_or (take t values) a 0)
    held_before values cells t a h all l m =
        subst (Holds ops (cell_at ops cells a)) (sym (get_or-take t values a 0 m)) (held_at values cells a h all (omega arith))

    held_used : (values : List ℕ) (cells : List D) (t : ℕ) (op : Op) (a b c : ℕ) (w : Width) → AreCells ops terms cells → HoldValues ops cells values → t < length terms
        → IsPlaced terms t op a b c w
        → HoldUsed ops op (operand_cell ops cells op 0 a) (operand_cell ops cells op 1 b) (operand_cell ops cells op 2 c) (get_or (take t values) a 0) (get_or (take t values) b 0) (get_or (take t values) c 0)
    held_used values cells t op a b c w h all l p = record {
      first = λ m. subst (λ d. Holds ops d (get_or (take t values) a 0)) (sym (used_cell D ops laws terms right op 0 a cells m)) (held_before values cells t a h all l (p.a_before m));
      second = λ m. subst (λ d. Holds ops d (get_or (take t values) b 0)) (sym (used_cell D ops laws terms right op 1 b cells m)) (held_before values cells t b h all l (p.b_before m));
      third = λ m. subst (λ d. Holds ops d (get_or (take t values) c 0)) (sym (used_cell D ops laws terms right op 2 c cells m)) (held_before values cells t c h all l (p.c_before m));
    }

    -- the operator's value, with the widths of the cells
    cell_value : (values : List ℕ) (cells : List D) (op : Op) (a b c x y z : ℕ) → AreCells ops terms cells → a < length terms → b < length terms → c < length terms
        → value_at ops op (operand_cell ops cells op 0 a) (operand_cell ops cells op 1 b) (operand_cell ops cells op 2 c) x y z
        ≡ value_of op (record { width = width_of_term (term_at terms a); bits = x }) (record { width = width_of_term (term_at terms b); bits = y }) (record { width = width_of_term (term_at terms c); bits = z })
    cell_value values cells op a b c x y z h l m n =
        let at : ℕ → Width → Bv = λ n w. record { width = w; bits = n } in
        value_used op (at x (ops.width (operand_cell ops cells op 0 a))) (at y (ops.width (operand_cell ops cells op 1 b))) (at z (ops.width (operand_cell ops cells op 2 c)))
        (at x (width_of_term (term_at terms a))) (at y (width_of_term (term_at terms b))) (at z (width_of_term (term_at terms c)))
        (λ u. ap (at x) (ap ops.width (used_cell D ops laws terms right op 0 a cells u) ∙ h.widths a l))
        (λ u. ap (at y) (ap ops.width (used_cell D ops laws terms right op 1 b cells u) ∙ h.widths b m))
        (λ u. ap (at z) (ap ops.width (used_cell D ops laws terms right op 2 c cells u) ∙ h.widths c n))

    module _ (numbers : List ℕ) where
      pub node_value : (cells : List D) (t : ℕ) (op : Op) (a b c : ℕ) (w : Width) → AreCells ops terms cells → t < length terms → term_at terms t ≡ Node op a b c w → IsPlaced terms t op a b c w
          → value_at ops op (operand_cell ops cells op 0 a) (operand_cell ops cells op 1 b) (operand_cell ops cells op 2 c) (get_or (take t (values_of terms numbers)) a 0) (get_or (take t (values_of terms numbers)) b 0) (get_or (take t (values_of terms numbers)) c 0)
          ≡ get_or (values_of terms numbers) t 0
      node_value cells t op a b c w h l e p =
          let values = values_of terms numbers in
          cell_value values cells op a b c (get_or (take t values) a 0) (get_or (take t values) b 0) (get_or (take t values) c 0) h p.a_in p.b_in p.c_in
          ∙ sym (value_is terms numbers t l ∙ ap (value_of_term terms numbers (take t values) t) e)

      forward_told : (cells : List D) (t : ℕ) (node : Term) → term_at terms t ≡ node → IsNodeTerm node → AreCells ops terms cells → HoldAssignment ops terms cells numbers → t < length terms
          → Holds ops (propagated_forward ops cells node) (get_or (values_of terms numbers) t 0)
      forward_told cells t (Choice w) e n h all l = absurd n
      forward_told cells t (Node op a b c w) e n h all l =
          let p = placed terms t op a b c w right l e in
          subst (Holds ops (propagated_forward ops cells (Node op a b c w))) (node_value cells t op a b c w h l e p)
          (laws.forward_holds op _ _ _ _ _ _ (fitting D ops laws terms right t op a b c w cells h p) (held_used (values_of terms numbers) cells t op a b c w h all l p))

      operand_value : (t k a b c : ℕ) (op : Op) (w : Width) → IsPlaced terms t op a b c w → k < arity_of op
          → operand k (get_or (take t (values_of terms numbers)) a 0) (get_or (take t (values_of terms numbers)) b 0) (get_or (take t (values_of terms numbers)) c 0)
          ≡ get_or (values_of terms numbers) (operand k a b c) 0
      operand_value t zero a b c op w p m = get_or-take t (values_of terms numbers) a 0 (p.a_before m)
      operand_value t (suc zero) a b c op w p m = get_or-take t (values_of terms numbers) b 0 (p.b_before m)
      operand_value t (suc (suc k)) a b c op w p m = get_or-take t (values_of terms numbers) c 0 (p.c_before (omega arith))

      backward_told : (cells : List D) (t k : ℕ) (node : Term) → term_at terms t ≡ node → HasPlace node k → AreCells ops terms cells → HoldAssignment ops terms cells numbers → t < length terms
          → Holds ops (propagated_backward ops cells k (cell_at ops cells t) node) (get_or (values_of terms numbers) (operand_at node k) 0)
      backward_told cells t k (Choice w) e n h all l = absurd n
      backward_told cells t k (Node op a b c w) e n h all l =
          let p = placed terms t op a b c w right l e in
          let r = held_at (values_of terms numbers) cells t h all l in
          subst (Holds ops (propagated_backward ops cells k (cell_at ops cells t) (Node op a b c w))) (operand_value t k a b c op w p n)
          (laws.backward_holds op k _ _ _ _ _ _ _ (fitting_at D ops laws terms right t k op a b c w cells h p n l (ap width_of_term e))
          (held_used (values_of terms numbers) cells t op a b c w h all l p)
          (subst (Holds ops (cell_at ops cells t)) (sym (node_value cells t op a b c w h l e p)) r))

      told_holds : (s : Step) (cells : List D) → AreCells ops terms cells → IsStep terms s → HoldAssignment ops terms cells numbers
          → Holds ops (propagated ops terms s cells) (get_or (values_of terms numbers) (target terms s) 0)
      told_holds (Forward t) cells h s all = forward_told cells t (term_at terms t) refl s.1 h all s.0
      told_holds (Backward t k) cells h s all = backward_told cells t k (term_at terms t) refl s.1 h all s.0

      set_holds : (cells : List D) (u : ℕ) (m : D) → u < length cells → Holds ops m (get_or (values_of terms numbers) u 0) → HoldAssignment ops terms cells numbers
          → HoldAssignment ops terms (set cells u m) numbers
      set_holds cells u m l s all t i =
          at_set D ops laws terms right cells u t m (λ a. Holds ops a (get_or (values_of terms numbers) t 0)) l
          (λ e. subst (λ n. Holds ops m (get_or (values_of terms numbers) n 0)) (sym e) s)
          (λ _. all t (omega (arith, length-set cells u m)))

      -- what cells hold they hold after a step of the problem
      pub step_holds : (s : Step) (cells : List D) → AreCells ops terms cells → IsStep terms s → HoldAssignment ops terms cells numbers
          → HoldAssignment ops terms (after_step ops terms s cells) numbers
      step_holds s cells h i all =
          let n = step_narrows D ops laws terms right s cells h i in
          let u = target terms s in
          set_holds cells u _ (omega (arith, h.count, n.within))
          (laws.meet_holds (cell_at ops cells u) (propagated ops terms s cells) (get_or (values_of terms numbers) u 0) (step_alike D ops laws terms right s cells h i)
          (held_at (values_of terms numbers) cells u h all n.within) (told_holds s cells h i all))
          all

      -- and after a bit of a term was set as its value has it
      pub bit_holds : (t i : ℕ) (v : Bool) (cells : List D) → AreCells ops terms cells → t < length terms → i < bits_at terms t → bit (get_or (values_of terms numbers) t 0) i ≡ v
          → HoldAssignment ops terms cells numbers → HoldAssignment ops terms (after_bit ops t i v cells) numbers
      bit_holds t i v cells h l m e all =
          let b : i < (ops.width (cell_at ops cells t)).0 = omega (arith, ap (λ w. w.0) (h.widths t l)) in
          set_holds cells t _ (omega (arith, h.count))
          (laws.with_bit_holds (cell_at ops cells t) i v (get_or (values_of terms numbers) t 0) (h.domains t l) b e (held_at (values_of terms numbers) cells t h all l))
          all

      -- no cell is empty that holds a value
      pub held_not_empty : (t : ℕ) (cells : List D) → AreCells ops terms cells → t < length terms → HoldAssignment ops terms cells numbers → ops.is_empty (cell_at ops cells t) ≡ false
      held_not_empty t cells h l all =
          ⊎_elim
          (λ (e : ops.is_empty (cell_at ops cells t) ≡ true).
          absurd (false≢true (sym (laws.empty_holds_none (cell_at ops cells t) (get_or (values_of terms numbers) t 0) (h.domains t l) e) ∙ held_at (values_of terms numbers) cells t h all l)))
          (λ (e : ops.is_empty (cell_at ops cells t) ≡ false). e)
          (cases_Bool (ops.is_empty (cell_at ops cells t)))
