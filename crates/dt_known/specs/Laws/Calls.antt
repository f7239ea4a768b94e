-- Forward and backward make Knowns of the right widths, and hold what they must.
use Rattle.std.proofs.Common.{◌≡◌, ℕ, zero, suc, ◌^◌, ◌<◌, true, false, not, ◌||◌, refl, sym, subst, arith}
use Rattle.std.proofs.lemmas.Bool.{cond_both, cond-false, and_parts, or_from, not-true}
use Rattle.dt_bits.proofs.Operators.{none_used, result_is_width}
use Rattle.dt_bits.specs.Bits.{IsWidth}
use Rattle.dt_bits.specs.Ops.{arity_of}
use Rattle.dt_bits.specs.declared.op.Op.{Op}
use Rattle.dt_domain.specs.Domain.{Fitting, FittingAt, HoldUsed, value_at, operand, Holds, IsDomainOf}
use Rattle.dt_known.specs.declared.Known.{Known}
use Rattle.dt_known.specs.Known.{IsKnown, known_holds, from_bits, nothing}
use Rattle.dt_known.specs.Forward.{forward_bit, known_forward, some_used_empty, width_after}
use Rattle.dt_known.specs.Backward.{backward_bit, has_conflict, known_backward}
use Rattle.dt_known.specs.Ops.{known_ops}
use Rattle.dt_known.specs.Laws.Bits.{held, holds_from_bits, known_is_from_bits, known_is_nothing}
use Rattle.dt_known.specs.Laws.ForwardHolds.{forward_right}
use Rattle.dt_known.specs.Laws.BackwardHolds.{backward_keeps}

-- ---- widths

width_is : (op : Op) (a b c : Known) → Fitting known_ops op a b c → IsWidth (width_after op a b c).0
width_is op a b c f = result_is_width op a.width.0 b.width.0 c.width.0 f.op_is f.a_is.width f.b_is.width f.fits

-- ---- forward

full_held : (a : Known) (x : ℕ) → known_holds a x ≡ true → a.empty ≡ false
full_held a x h = not-true a.empty (and_parts (not a.empty) _ h).0

pub forward_is : (op : Op) (a b c : Known) → Fitting known_ops op a b c → IsDomainOf known_ops (width_after op a b c) (known_forward op a b c)
forward_is op a b c f =
    let w = width_is op a b c f in
    cond_both (some_used_empty op a b c) (nothing (width_after op a b c)) (from_bits (width_after op a b c) (forward_bit op a b c))
    (λ k. IsKnown k × (k.width ≡ width_after op a b c))
    (λ _. (known_is_nothing _ w, refl)) (λ _. (known_is_from_bits _ _ w, refl))

pub forward_holds : (op : Op) (a b c : Known) (x y z : ℕ) → Fitting known_ops op a b c → HoldUsed known_ops op a b c x y z
    → Holds known_ops (known_forward op a b c) (value_at known_ops op a b c x y z)
forward_holds op a b c x y z f u =
    let t = forward_right op a b c x y z f u in
    let e = none_used op a.empty b.empty c.empty (λ l. full_held a x (u.first l)) (λ l. full_held b y (u.second l)) (λ l. full_held c z (u.third l)) in
    subst (λ k. known_holds k (value_at known_ops op a b c x y z) ≡ true)
    (sym (cond-false (some_used_empty op a b c) (nothing (width_after op a b c)) (from_bits (width_after op a b c) (forward_bit op a b c)) e))
    (holds_from_bits (width_after op a b c) (forward_bit op a b c) _ t.fits t.agrees)

-- ---- backward

operand_width : (op : Op) (k : ℕ) (r a b c : Known) → FittingAt known_ops op k r a b c → IsWidth ((operand k a b c).width.0)
operand_width op zero r a b c f = f.operands.a_is.width
operand_width op (suc zero) r a b c f = f.operands.b_is.width
operand_width op (suc (suc k)) r a b c f = f.operands.c_is.width

pub backward_is : (op : Op) (k : ℕ) (r a b c : Known) → FittingAt known_ops op k r a b c
    → IsDomainOf known_ops (operand k a b c).width (known_backward op k r a b c)
backward_is op k r a b c f =
    let w = operand_width op k r a b c f in
    let v = (operand k a b c).width in
    cond_both (r.empty || (some_used_empty op a b c || has_conflict op k r a b c)) (nothing v) (from_bits v (backward_bit op k r a b c))
    (λ d. IsKnown d × (d.width ≡ v)) (λ _. (known_is_nothing v w, refl)) (λ _. (known_is_from_bits v _ w, refl))

operand_fits : (op : Op) (k : ℕ) (a b c : Known) (x y z : ℕ) → k < arity_of op → Fitting known_ops op a b c → HoldUsed known_ops op a b c x y z
    → operand k x y z < 2 ^ (operand k a b c).width.0
operand_fits op zero a b c x y z l f u = (held a x f.a_is (u.first l)).fits
operand_fits op (suc zero) a b c x y z l f u = (held b y f.b_is (u.second l)).fits
operand_fits op (suc (suc k)) a b c x y z l f u = (held c z f.c_is (u.third (omega arith))).fits

pub backward_holds : (op : Op) (k : ℕ) (r a b c : Known) (x y z : ℕ) → FittingAt known_ops op k r a b c → HoldUsed known_ops op a b c x y z
    → Holds known_ops r (value_at known_ops op a b c x y z)
    → Holds known_ops (known_backward op k r a b c) (operand k x y z)
backward_holds op k r a b c x y z f u t =
    let v = (operand k a b c).width in
    let g = backward_keeps op k r a b c x y z f u t in
    let e = none_used op a.empty b.empty c.empty (λ l. full_held a x (u.first l)) (λ l. full_held b y (u.second l)) (λ l. full_held c z (u.third l)) in
    let d = or_from r.empty _ (full_held r _ t) (or_from (some_used_empty op a b c) (has_conflict op k r a b c) e g.0) in
    subst (λ m. known_holds m (operand k x y z) ≡ true)
    (sym (cond-false (r.empty || (some_used_empty op a b c || has_conflict op k r a b c)) (nothing v) (from_bits v (backward_bit op k r a b c)) d))
    (holds_from_bits v (backward_bit op k r a b c) _ (operand_fits op k a b c x y z f.place f.operands u) g.1)
