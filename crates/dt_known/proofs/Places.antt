-- What the answers for Eq and Ite say of an operator that is Eq or Ite.
use Rattle.std.proofs.Common.{◌≡◌, true, ◌&&◌, cond, eqb, sym, ap, subst}
use Rattle.std.proofs.lemmas.Bool.{and_parts, eqb-true}
use Rattle.dt_bits.specs.Bits.{width}
use Rattle.dt_bits.specs.Ops.{fits_at}
use Rattle.dt_bits.specs.declared.op.Op.{Op}
use Rattle.dt_bits.specs.declared.op.Op.TheVariants.{Eq, Ite}
use Rattle.dt_bits.specs.declared.value.Width.{Width}
use Rattle.dt_known.specs.declared.Known.{Known}
use Rattle.dt_known.specs.Known.{known_bit, from_bits, nothing, are_apart}
use Rattle.dt_known.specs.Backward.{backward_bit, has_conflict, eq_back, eq_conflict, test_bit}

pub first_eq : (o : Op) (r a b c k : Known) → o ≡ Eq
    → k ≡ cond (eq_conflict (known_bit r 0) a b) (nothing a.width) (from_bits a.width (eq_back (known_bit r 0) a b))
    → k ≡ cond (has_conflict o 0 r a b c) (nothing a.width) (from_bits a.width (backward_bit o 0 r a b c))
first_eq o r a b c k e h = subst (λ o. k ≡ cond (has_conflict o 0 r a b c) (nothing a.width) (from_bits a.width (backward_bit o 0 r a b c))) (sym e) h

pub second_eq : (o : Op) (r a b c k : Known) → o ≡ Eq
    → k ≡ cond (eq_conflict (known_bit r 0) b a) (nothing b.width) (from_bits b.width (eq_back (known_bit r 0) b a))
    → k ≡ cond (has_conflict o 1 r a b c) (nothing b.width) (from_bits b.width (backward_bit o 1 r a b c))
second_eq o r a b c k e h = subst (λ o. k ≡ cond (has_conflict o 1 r a b c) (nothing b.width) (from_bits b.width (backward_bit o 1 r a b c))) (sym e) h

-- the test is one bit wide
pub test_width : (o : Op) (a b c : Known) → o ≡ Ite → fits_at o a.width.0 b.width.0 c.width.0 ≡ true → width 1 ≡ a.width
test_width o a b c e f =
    let g : fits_at Ite a.width.0 b.width.0 c.width.0 ≡ true = subst (λ o. fits_at o a.width.0 b.width.0 c.width.0 ≡ true) e f in
    ap width (sym (eqb-true a.width.0 1 (and_parts (eqb a.width.0 1) (eqb b.width.0 c.width.0) g).0))

pub first_ite : (o : Op) (r a b c k : Known) → o ≡ Ite → fits_at o a.width.0 b.width.0 c.width.0 ≡ true
    → k ≡ cond (are_apart r b && are_apart r c) (nothing (width 1)) (from_bits (width 1) (λ i. test_bit r b c))
    → k ≡ cond (has_conflict o 0 r a b c) (nothing a.width) (from_bits a.width (backward_bit o 0 r a b c))
first_ite o r a b c k e f h =
    subst (λ o. k ≡ cond (has_conflict o 0 r a b c) (nothing a.width) (from_bits a.width (backward_bit o 0 r a b c))) (sym e)
    (subst (λ (w : Width). k ≡ cond (are_apart r b && are_apart r c) (nothing w) (from_bits w (λ i. test_bit r b c))) (test_width o a b c e f) h)
