-- A step does the same in two lists of cells that agree on the terms that it is near.
use Rattle.std.proofs.Common.{◌≡◌, ℕ, zero, suc, ◌<◌, ◌≤◌, true, ◌&&◌, cond, eqb, ltb, List, refl, ap, ◌∙◌, inl, inr, ◌⊎◌, arith}
use Rattle.std.proofs.lemmas.Bool.{cases_lt, lt-ltb, le-ltb, eq-eqb, or_left, or_right, and_from}
use Rattle.dt_lemmas.proofs.Equalities.{two, three}
use Rattle.dt_bits.specs.Bits.{width}
use Rattle.dt_bits.specs.Ops.{arity_of}
use Rattle.dt_bits.specs.declared.op.Op.{Op}
use Rattle.dt_bits.specs.declared.value.Width.{Width}
use Rattle.dt_domain.specs.Domain.{DomainOps}
use Rattle.dt_terms.specs.declared.term.Term.{Term}
use Rattle.dt_terms.specs.declared.term.Term.TheVariants.{Choice, Node}
use Rattle.dt_terms.specs.Terms.{term_at}
use Rattle.dt_box.specs.declared.step.Step.{Step}
use Rattle.dt_box.specs.declared.step.Step.TheVariants.{Forward, Backward}
use Rattle.dt_box.specs.Cells.{cell_at}
use Rattle.dt_box.specs.Steps.{IsStep, HasPlace, operand_at, operand_cell, target, propagated_forward, propagated_backward, narrowed}
use Rattle.dt_box.specs.Changes.{has_news}
use Rattle.dt_box.specs.Stillness.{origin}
use Rattle.dt_box.specs.Neighbours.{uses, AgreeNear, IsAlike}

module _ (op : Op) (a b c : ℕ) (w : Width) where
  named : (k x t : ℕ) → k < arity_of op → x ≡ t → (ltb k (arity_of op) && eqb x t) ≡ true
  named k x t l e = and_from (ltb k (arity_of op)) (eqb x t) (lt-ltb k (arity_of op) l) (eq-eqb x t e)

  uses_first : 0 < arity_of op → uses (Node op a b c w) a ≡ true
  uses_first l = or_left (ltb 0 (arity_of op) && eqb a a) _ (named 0 a a l refl)

  uses_second : 1 < arity_of op → uses (Node op a b c w) b ≡ true
  uses_second l = or_right (ltb 0 (arity_of op) && eqb a b) _ (or_left (ltb 1 (arity_of op) && eqb b b) _ (named 1 b b l refl))

  uses_third : 2 < arity_of op → uses (Node op a b c w) c ≡ true
  uses_third l = or_right (ltb 0 (arity_of op) && eqb a c) _ (or_right (ltb 1 (arity_of op) && eqb b c) _ (named 2 c c l refl))

module _ (D : Type 0) (ops : DomainOps D) (cells others : List D) where
  -- the operands of a node have the same cells
  AgreeUsed : Term → Type 0
  AgreeUsed node = (t : ℕ) → uses node t ≡ true → cell_at ops cells t ≡ cell_at ops others t

  operand_same : (op : Op) (k a : ℕ) → (k < arity_of op → cell_at ops cells a ≡ cell_at ops others a)
      → operand_cell ops cells op k a ≡ operand_cell ops others op k a
  operand_same op k a h = by_order (cases_lt k (arity_of op))
    where
      by_order : (k < arity_of op) ⊎ (arity_of op ≤ k)
          → cond (ltb k (arity_of op)) (cell_at ops cells a) (ops.full (width 1)) ≡ cond (ltb k (arity_of op)) (cell_at ops others a) (ops.full (width 1))
      by_order (inl l) = rw (lt-ltb k (arity_of op) l) (h l)
      by_order (inr l) = rw (le-ltb k (arity_of op) l) refl

  forward_same : (node : Term) → AgreeUsed node → propagated_forward ops cells node ≡ propagated_forward ops others node
  unfolding AgreeUsed
  forward_same (Choice w) h = refl
  forward_same (Node op a b c w) h =
      three (ops.forward op) (operand_same op 0 a (λ l. h a (uses_first op a b c w l))) (operand_same op 1 b (λ l. h b (uses_second op a b c w l)))
      (operand_same op 2 c (λ l. h c (uses_third op a b c w l)))

  backward_same : (node : Term) (k : ℕ) (r : D) → AgreeUsed node → propagated_backward ops cells k r node ≡ propagated_backward ops others k r node
  unfolding AgreeUsed
  backward_same (Choice w) k r h = refl
  backward_same (Node op a b c w) k r h =
      three (ops.backward op k r) (operand_same op 0 a (λ l. h a (uses_first op a b c w l))) (operand_same op 1 b (λ l. h b (uses_second op a b c w l)))
      (operand_same op 2 c (λ l. h c (uses_third op a b c w l)))

  place_same : (node : Term) (k : ℕ) → HasPlace node k → AgreeUsed node → cell_at ops cells (operand_at node k) ≡ cell_at ops others (operand_at node k)
  unfolding AgreeUsed
  place_same (Choice w) k l h = absurd l
  place_same (Node op a b c w) zero l h = h a (uses_first op a b c w l)
  place_same (Node op a b c w) (suc zero) l h = h b (uses_second op a b c w l)
  place_same (Node op a b c w) (suc (suc k)) l h = h c (uses_third op a b c w (omega arith))

  module _ (terms : List Term) where
    origin_same : (s : Step) → AgreeNear ops terms s cells others → cell_at ops cells (origin s) ≡ cell_at ops others (origin s)
    origin_same s h = h (origin s) (or_left (eqb (origin s) (origin s)) _ (eq-eqb (origin s) (origin s) refl))

    used_same : (s : Step) → AgreeNear ops terms s cells others → AgreeUsed (term_at terms (origin s))
    unfolding AgreeUsed
    used_same s h = λ t u. h t (or_right (eqb (origin s) t) _ u)

    target_same : (s : Step) → IsStep terms s → AgreeNear ops terms s cells others → cell_at ops cells (target terms s) ≡ cell_at ops others (target terms s)
    target_same (Forward t) i h = origin_same (Forward t) h
    target_same (Backward t k) i h = place_same (term_at terms t) k i.1 (used_same (Backward t k) h)

    narrowed_same : (s : Step) → IsStep terms s → AgreeNear ops terms s cells others → narrowed ops terms s cells ≡ narrowed ops terms s others
    narrowed_same (Forward t) i h = two ops.meet (target_same (Forward t) i h) (forward_same (term_at terms t) (used_same (Forward t) h))
    narrowed_same (Backward t k) i h =
        two ops.meet (target_same (Backward t k) i h)
        (ap (λ r. propagated_backward ops cells k r (term_at terms t)) (origin_same (Backward t k) h)
        ∙ backward_same (term_at terms t) k (cell_at ops others t) (used_same (Backward t k) h))

    pub step_same : (s : Step) → IsStep terms s → AgreeNear ops terms s cells others → IsAlike ops terms s cells others
    step_same s i h =
        let e = narrowed_same s i h in
        record { cell = e; news = two (has_news ops) (target_same s i h) e }
