-- A node tells nothing new where all bits near it are known, and its value is its operator's.
use Rattle.std.proofs.Common.{◌≡◌, ℕ, zero, suc, ◌-◌, ◌^◌, ◌%◌, ◌<◌, ◌≤◌, Bool, true, false, not, ◌&&◌, ◌⊎◌, inl, inr, List, length, get_or, bit_and, refl, sym, ap, ◌∙◌, subst, ⊎_elim, arith}
use Rattle.std.proofs.lemmas.Bool.{cases_Bool, cases_lt, false≢true, or_from}
use Rattle.std.proofs.lemmas.Nat.{and_mask}
use Rattle.dt_lemmas.proofs.Powers.{one_below}
use Rattle.std.proofs.lemmas.List.{get_or_read}
use Rattle.dt_bits.specs.Bits.{bit, IsWidth, IsValue, width}
use Rattle.dt_bits.specs.Ops.{arity_of, fits_at, value_of}
use Rattle.dt_bits.specs.declared.op.Op.{Op}
use Rattle.dt_bits.specs.declared.value.Bv.{Bv}
use Rattle.dt_bits.specs.declared.value.Width.{Width}
use Rattle.dt_bits.proofs.Operators.{value_used, fits_same}
use Rattle.dt_bits.proofs.BitLemmas.{bit_above, bit_of_ones}
use Rattle.dt_bits.proofs.Below.{none_below_from}
use Rattle.dt_domain.specs.Domain.{DomainOps, DomainLaws, HoldUsed, Holds, AreAlike, bits_of, operand, value_at}
use Rattle.dt_terms.specs.declared.term.Term.{Term}
use Rattle.dt_terms.specs.declared.term.Term.TheVariants.{Choice, Node}
use Rattle.dt_terms.specs.Terms.{term_at, width_of_term, bits_at, AreTerms}
use Rattle.dt_terms.proofs.Placed.{IsPlaced, placed, fits_parts}
use Rattle.dt_box.specs.declared.step.Step.TheVariants.{Forward, Backward}
use Rattle.dt_box.specs.Cells.{cell_at, AreCells}
use Rattle.dt_box.specs.Changes.{has_news, knows_more}
use Rattle.dt_box.specs.Steps.{IsStep, IsNodeTerm, HasPlace, operand_at, operand_cell, target, propagated_forward, propagated_backward, propagated}
use Rattle.dt_box.specs.Stillness.{tells}
use Rattle.dt_box.specs.Fixed.{IsOnly, IsOperandNumber, IsOperatorValue, ComesTo, Fixes}
use Rattle.dt_box.proofs.Steps.{fitting, fitting_at, step_alike, used_cell}
use Rattle.dt_box.proofs.Stillness.{still_node}

module _ (D : Type 0) (ops : DomainOps D) (laws : DomainLaws ops) where
  held_is : (d : D) (x : ℕ) → ops.IsDomain d → ops.known_mask d ≡ 2 ^ bits_of ops d - 1 → Holds ops d x → x ≡ ops.known_value d
  held_is d x i m h =
      let l : x < 2 ^ bits_of ops d = laws.held_fits d x i h in
      let e : x % 2 ^ bits_of ops d ≡ x = grind arith in
      sym e ∙ sym (and_mask x (bits_of ops d)) ∙ ap (bit_and x) (sym m) ∙ laws.held_agrees d x i h

  full_not_empty : (d : D) → ops.IsDomain d → ops.known_mask d ≡ 2 ^ bits_of ops d - 1 → ops.is_empty d ≡ true → ⊥
  full_not_empty d i m e =
      let z : ops.known_mask d ≡ 0 = (laws.empty_known d i e).0 in
      let w = laws.width_is d i in
      let p : 1 < 2 ^ bits_of ops d = one_below (bits_of ops d) w.0 in
      absurd (omega arith)

  -- a domain whose bits are all known holds the number of these bits
  pub only : (d : D) → ops.IsDomain d → ops.known_mask d ≡ 2 ^ bits_of ops d - 1 → Holds ops d (ops.known_value d)
  only d i m =
      ⊎_elim
      (λ (e : ops.is_empty d ≡ true). absurd (full_not_empty d i m e))
      (λ (e : ops.is_empty d ≡ false). let s = laws.holds_some d i e in subst (Holds ops d) (held_is d s.0 i m s.1) s.1)
      (cases_Bool (ops.is_empty d))

  held_not_empty : (d : D) (x : ℕ) → ops.IsDomain d → Holds ops d x → ops.is_empty d ≡ false
  held_not_empty d x i h =
      ⊎_elim
      (λ (e : ops.is_empty d ≡ true). absurd (false≢true (sym (laws.empty_holds_none d x i e) ∙ h)))
      (λ (e : ops.is_empty d ≡ false). e)
      (cases_Bool (ops.is_empty d))

  -- it holds no other number
  pub same_number : (d : D) (v w : Bv) → ops.IsDomain d → IsOnly ops d v → IsOnly ops d w → v ≡ w
  same_number d v w i p q =
      let b : v.bits ≡ w.bits = held_is d v.bits i p.full p.holds ∙ sym (held_is d w.bits i q.full q.holds) in
      let e : v.width ≡ w.width = sym p.width ∙ q.width in
      let at : ℕ → Width → Bv = λ n u. record { width = u; bits = n } in
      ap (λ n. at n v.width) b ∙ ap (at w.bits) e

  -- no further bit is known than all
  no_more : (d e : D) → ops.IsDomain e → ops.width e ≡ ops.width d → ops.known_mask d ≡ 2 ^ bits_of ops d - 1 → knows_more ops d e ≡ false
  no_more d e i w m = none_below_from 128 (λ k. bit (ops.known_mask e) k && not (bit (ops.known_mask d) k)) (λ k _. at k (cases_lt k (bits_of ops d)))
    where
      none : (v : Bool) → (v && false) ≡ false
      none true = refl
      none false = refl

      at : (k : ℕ) → (k < bits_of ops d) ⊎ (bits_of ops d ≤ k) → (bit (ops.known_mask e) k && not (bit (ops.known_mask d) k)) ≡ false
      at k (inl l) = rw (m, bit_of_ones (bits_of ops d) k l) (none (bit (ops.known_mask e) k))
      at k (inr l) = rw (bit_above (ops.known_mask e) (bits_of ops d) k (subst (λ v. ops.known_mask e < 2 ^ v.0) w (laws.mask_fits e i)) l) refl

  -- where both hold a number, and the first one holds no other, the meet isn't news
  no_news : (d e : D) (x : ℕ) → AreAlike ops d e → ops.known_mask d ≡ 2 ^ bits_of ops d - 1 → Holds ops d x → Holds ops e x → has_news ops d (ops.meet d e) ≡ false
  no_news d e x a m h g =
      let i = laws.meet_is d e a in
      or_from _ _ (held_not_empty (ops.meet d e) x i.0 (laws.meet_holds d e x a h g)) (no_more d (ops.meet d e) i.0 i.1 m)

  -- an operand's number is a value
  pub operand_value : (op : Op) (k : ℕ) (d : D) (v : Bv) → ops.IsDomain d → IsOperandNumber ops op k d v → IsValue v
  operand_value op k d v i o = (subst (λ (w : Width). IsWidth w.0) o.width (laws.width_is d i), o.fits)

  module _ (terms : List Term) (right : AreTerms terms) (cells : List D) (are : AreCells ops terms cells) where
    -- a cell that was read
    pub cell_here : (a : ℕ) (d : D) → a < length terms → d ≡ get_or cells a d → d ≡ cell_at ops cells a
    cell_here a d l e = get_or_read cells a d (omega (arith, are.count)) e (ops.full (width 1))

    one_value : (op : Op) (a b c x y : ℕ) → a < length terms → b < length terms → c < length terms → IsOperatorValue ops cells op a b c x → IsOperatorValue ops cells op a b c y → x ≡ y
    one_value op a b c x y l m n p q =
        sym p.value
        ∙ value_used op p.first p.second p.third q.first q.second q.third
        (λ u. same_number (cell_at ops cells a) p.first q.first (are.domains a l) (p.first_is.only u) (q.first_is.only u))
        (λ u. same_number (cell_at ops cells b) p.second q.second (are.domains b m) (p.second_is.only u) (q.second_is.only u))
        (λ u. same_number (cell_at ops cells c) p.third q.third (are.domains c n) (p.third_is.only u) (q.third_is.only u))
        ∙ q.value

    -- a node comes to one value
    pub comes_once : (t x y : ℕ) → t < length terms → ComesTo ops cells (term_at terms t) x → ComesTo ops cells (term_at terms t) y → x ≡ y
    comes_once t x y l = by_term (term_at terms t) refl
      where
        by_term : (n : Term) → term_at terms t ≡ n → ComesTo ops cells n x → ComesTo ops cells n y → x ≡ y
        by_term (Choice w) e p q = absurd p
        by_term (Node op a b c w) e p q = let k = placed terms t op a b c w right l e in one_value op a b c x y k.a_in k.b_in k.c_in p q

    module _ (t : ℕ) (op : Op) (a b c : ℕ) (w : Width) (within : t < length terms) (is : term_at terms t ≡ Node op a b c w) (x y z : Bv)
        (first : IsOperandNumber ops op 0 (cell_at ops cells a) x) (second : IsOperandNumber ops op 1 (cell_at ops cells b) y) (third : IsOperandNumber ops op 2 (cell_at ops cells c) z) where
      there : IsPlaced terms t op a b c w
      there = placed terms t op a b c w right within is

      held : HoldUsed ops op (operand_cell ops cells op 0 a) (operand_cell ops cells op 1 b) (operand_cell ops cells op 2 c) x.bits y.bits z.bits
      held = record {
        first = λ m. subst (λ d. Holds ops d x.bits) (sym (used_cell D ops laws terms right op 0 a cells m)) (first.only m).holds;
        second = λ m. subst (λ d. Holds ops d y.bits) (sym (used_cell D ops laws terms right op 1 b cells m)) (second.only m).holds;
        third = λ m. subst (λ d. Holds ops d z.bits) (sym (used_cell D ops laws terms right op 2 c cells m)) (third.only m).holds;
      }

      value : value_at ops op (operand_cell ops cells op 0 a) (operand_cell ops cells op 1 b) (operand_cell ops cells op 2 c) x.bits y.bits z.bits ≡ value_of op x y z
      value =
          let at : ℕ → Width → Bv = λ n v. record { width = v; bits = n } in
          value_used op (at x.bits (ops.width (operand_cell ops cells op 0 a))) (at y.bits (ops.width (operand_cell ops cells op 1 b))) (at z.bits (ops.width (operand_cell ops cells op 2 c))) x y z
          (λ u. ap (at x.bits) (ap ops.width (used_cell D ops laws terms right op 0 a cells u) ∙ first.width))
          (λ u. ap (at y.bits) (ap ops.width (used_cell D ops laws terms right op 1 b cells u) ∙ second.width))
          (λ u. ap (at z.bits) (ap ops.width (used_cell D ops laws terms right op 2 c cells u) ∙ third.width))

      -- the operator fits these operands
      pub operands_fit : fits_at op x.width.0 y.width.0 z.width.0 ≡ true
      operands_fit =
          (fits_parts op _ _ _ w
          (fits_same op x.width.0 y.width.0 z.width.0 (bits_at terms a) (bits_at terms b) (bits_at terms c)
          (λ _. ap (λ v. v.0) (sym first.width ∙ are.widths a there.a_in)) (λ _. ap (λ v. v.0) (sym second.width ∙ are.widths b there.b_in)) (λ _. ap (λ v. v.0) (sym third.width ∙ are.widths c there.c_in))
          ∙ there.fits)).0

      -- the operand at a place holds its number, and all its bits are known
      at_place : (k : ℕ) → k < arity_of op → Holds ops (cell_at ops cells (operand k a b c)) (operand k x.bits y.bits z.bits) × (ops.known_mask (cell_at ops cells (operand k a b c)) ≡ 2 ^ bits_of ops (cell_at ops cells (operand k a b c)) - 1)
      at_place zero l = ((first.only l).holds, (first.only l).full)
      at_place (suc zero) l = ((second.only l).holds, (second.only l).full)
      at_place (suc (suc k)) l = let o = third.only (omega arith) in (o.holds, o.full)

      module _ (v : Bv) (own : IsOnly ops (cell_at ops cells t) v) (same : v.bits ≡ value_of op x y z) where
        own_value : Holds ops (cell_at ops cells t) (value_at ops op (operand_cell ops cells op 0 a) (operand_cell ops cells op 1 b) (operand_cell ops cells op 2 c) x.bits y.bits z.bits)
        own_value = subst (Holds ops (cell_at ops cells t)) (same ∙ sym value) own.holds

        forward_step : IsStep terms (Forward t)
        forward_step = (within, subst IsNodeTerm (sym is) tt)

        forward_still : tells ops terms (Forward t) cells ≡ false
        forward_still =
            no_news (cell_at ops cells t) (propagated ops terms (Forward t) cells) (value_at ops op (operand_cell ops cells op 0 a) (operand_cell ops cells op 1 b) (operand_cell ops cells op 2 c) x.bits y.bits z.bits)
            (step_alike D ops laws terms right (Forward t) cells are forward_step) own.full own_value
            (subst (λ n. Holds ops (propagated_forward ops cells n) (value_at ops op (operand_cell ops cells op 0 a) (operand_cell ops cells op 1 b) (operand_cell ops cells op 2 c) x.bits y.bits z.bits)) (sym is)
            (laws.forward_holds op _ _ _ _ _ _ (fitting D ops laws terms right t op a b c w cells are there) held))

        backward_step : (k : ℕ) → k < arity_of op → IsStep terms (Backward t k)
        backward_step k l = (within, subst (λ n. HasPlace n k) (sym is) l)

        backward_told : (k : ℕ) → k < arity_of op → Holds ops (propagated_backward ops cells k (cell_at ops cells t) (Node op a b c w)) (operand k x.bits y.bits z.bits)
        backward_told k l = laws.backward_holds op k _ _ _ _ _ _ _ (fitting_at D ops laws terms right t k op a b c w cells are there l within (ap width_of_term is)) held own_value

        backward_still : (k : ℕ) → k < arity_of op → tells ops terms (Backward t k) cells ≡ false
        backward_still k l =
            let p = at_place k l in
            let i = operand k x.bits y.bits z.bits in
            no_news (cell_at ops cells (target terms (Backward t k))) (propagated ops terms (Backward t k) cells) i
            (step_alike D ops laws terms right (Backward t k) cells are (backward_step k l))
            (subst (λ n. ops.known_mask (cell_at ops cells (operand_at n k)) ≡ 2 ^ bits_of ops (cell_at ops cells (operand_at n k)) - 1) (sym is) p.1)
            (subst (λ n. Holds ops (cell_at ops cells (operand_at n k)) i) (sym is) p.0)
            (subst (λ n. Holds ops (propagated_backward ops cells k (cell_at ops cells t) n) i) (sym is) (backward_told k l))

      -- the operator's value fixes the node
      pub fixes : Fixes ops terms cells t (value_of op x y z)
      fixes v own same = still_node D ops terms cells t op a b c w is (forward_still v own same) (backward_still v own same)
