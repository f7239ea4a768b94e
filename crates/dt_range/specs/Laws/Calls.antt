-- Forward and backward make ranges of the right widths, and hold what they must.
use Rattle.std.proofs.Common.{◌≡◌, ℕ, zero, suc, ◌+◌, ◌-◌, ◌*◌, ◌/◌, ◌%◌, ◌^◌, ◌<◌, Bool, true, false, not, ◌&&◌, ◌||◌, cond, eqb, ltb, leb, refl, sym, ap, ◌∙◌, subst, min, max, arith}
use Rattle.std.proofs.lemmas.Bool.{cond-true, cond-false, and_parts, and_from, or_from, ltb-true, leb-true, eqb-true, eq-eqb, false≢true}
use Rattle.std.proofs.lemmas.Nat.{pow_pos, mod_below, shr_below}
use Rattle.dt_lemmas.proofs.Powers.{largest_shifted, spread_fits}
use Rattle.dt_lemmas.proofs.Booleans.{not_or_where, not_or_then}
use Rattle.dt_bits.specs.Bits.{IsWidth, IsValue, width}
use Rattle.dt_bits.specs.Ops.{arity_of, value_of, applied}
use Rattle.dt_bits.specs.declared.op.Op.{Op}
use Rattle.dt_bits.specs.declared.op.Op.TheVariants.{Const, Not, And, Or, Xor, Add, Sub, Slice, Concat, SignExt, Shl, Shr, Eq, Ltu, Ite}
use Rattle.dt_bits.specs.declared.value.Bv.{Bv}
use Rattle.dt_bits.specs.declared.value.Width.{Width}
use Rattle.dt_domain.specs.Domain.{Fitting, FittingAt, HoldUsed, AreUsedKnown, IsAllKnown, value_at, value_in, operand, Holds, IsDomainOf}
use Rattle.dt_range.specs.declared.Range.{Range}
use Rattle.dt_range.specs.Range.{IsRange, is_single, range_is_empty, no_range, range_between, largest, range_full, range_one}
use Rattle.dt_range.specs.Forward.{low_end, high_end, width_after, both_ends, not_range, sum_range, difference_range, are_disjoint, flag, range_hull, top_bit, forward_table, is_used, some_used_empty, all_used_single, range_forward}
use Rattle.dt_range.specs.Backward.{is_value, without, eq_back, below_some, ltu_first, ltu_second, are_apart, test_back, backward_table, range_backward}
use Rattle.dt_range.specs.Ops.{range_ops}
use Rattle.dt_range.specs.Laws.Between.{Held, held, held_full, IsOf, either_is, no_range_is, between_is, full_is, one_is, flag_is, bit_width, either_holds, one_of_holds}
use Rattle.dt_bits.proofs.Operators.{value_used, value_fits, result_is_width, none_used}
use Rattle.dt_range.specs.Laws.KnownBits.{all_single, one_all}
use Rattle.dt_range.specs.Laws.ForwardHolds as Forward
use Rattle.dt_range.specs.Laws.BackwardHolds as Backward

-- ---- the operands that are used

used : (k n : ℕ) → k < n → ltb k n ≡ true
used k n h = grind arith

held_not_empty : (op : Op) (a b c : Range) (x y z : ℕ) → HoldUsed range_ops op a b c x y z → some_used_empty op a b c ≡ false
held_not_empty op a b c x y z u = none_used op (range_is_empty a) (range_is_empty b) (range_is_empty c)
    (λ l. held_full a x (held a x (u.first l))) (λ l. held_full b y (held b y (u.second l))) (λ l. held_full c z (held c z (u.third l)))

-- ---- validity

low_is : (a : Range) → IsRange a → IsValue (low_end a)
low_is a p = (p.width, p.lo_fits)

high_is : (a : Range) → IsRange a → IsValue (high_end a)
high_is a p = (p.width, p.hi_fits)

width_is : (op : Op) (a b c : Range) → Fitting range_ops op a b c → IsWidth (width_after op a b c).0
width_is op a b c f = result_is_width op a.width.0 b.width.0 c.width.0 f.op_is f.a_is.width f.b_is.width f.fits

ends_is : (op : Op) (a b c : Range) → Fitting range_ops op a b c → IsOf (width_after op a b c) (both_ends op a b c)
ends_is op a b c f = between_is (width_after op a b c) _ _ (width_is op a b c f)
    (value_fits op (high_end a) (high_end b) (high_end c) f.op_is (high_is a f.a_is) (high_is b f.b_is) (high_is c f.c_is) f.fits)

value_is : (op : Op) (a b c : Range) → Fitting range_ops op a b c → IsOf (width_after op a b c) (range_one (applied op (low_end a) (low_end b) (low_end c)))
value_is op a b c f = one_is (applied op (low_end a) (low_end b) (low_end c))
    (width_is op a b c f, value_fits op (low_end a) (low_end b) (low_end c) f.op_is (low_is a f.a_is) (low_is b f.b_is) (low_is c f.c_is) f.fits)

-- equal widths
same_width : (a b : Range) → eqb a.width.0 b.width.0 ≡ true → a.width ≡ b.width
same_width a b e = ap width (eqb-true _ _ e)

not_is : (a : Range) → IsRange a → IsOf a.width (not_range a)
not_is a p = between_is a.width (largest a.width - a.hi) (largest a.width - a.lo) p.width (omega (arith, pow_pos a.width.0))

sum_is : (a b : Range) → IsRange a → IsRange b → 2 ^ a.width.0 ≡ 2 ^ b.width.0 → IsOf a.width (sum_range a b)
sum_is a b p q e =
    let m = 2 ^ a.width.0 in
    let pos = pow_pos a.width.0 in
    either_is (leb (a.hi + b.hi) (largest a.width)) a.width (range_between a.width (a.lo + b.lo) (a.hi + b.hi)) _
    (λ t. let l = leb-true _ _ t in between_is a.width (a.lo + b.lo) (a.hi + b.hi) p.width (omega arith))
    (λ _. either_is (ltb (largest a.width) (a.lo + b.lo)) a.width (range_between a.width (a.lo + b.lo - m) (a.hi + b.hi - m)) (range_full a.width)
    (λ _. between_is a.width (a.lo + b.lo - m) (a.hi + b.hi - m) p.width (omega (arith, p.hi_fits, q.hi_fits)))
    (λ _. full_is a.width p.width))

difference_is : (a b : Range) → IsRange a → IsOf a.width (difference_range a b)
difference_is a b p =
    let m = 2 ^ a.width.0 in
    let pos = pow_pos a.width.0 in
    either_is (leb b.hi a.lo) a.width (range_between a.width (a.lo - b.hi) (a.hi - b.lo)) _
    (λ _. between_is a.width (a.lo - b.hi) (a.hi - b.lo) p.width (omega (arith, p.hi_fits)))
    (λ _. either_is (ltb a.hi b.lo) a.width (range_between a.width (a.lo + m - b.hi) (a.hi + m - b.lo)) (range_full a.width)
    (λ t. let l = ltb-true _ _ t in between_is a.width (a.lo + m - b.hi) (a.hi + m - b.lo) p.width (omega arith))
    (λ _. full_is a.width p.width))

largest_fits : (w : Width) → largest w < 2 ^ w.0
largest_fits w = omega (arith, pow_pos w.0)

table_is : (op : Op) (a b c : Range) → Fitting range_ops op a b c → IsOf (width_after op a b c) (forward_table op a b c)
table_is (Const value) a b c f = full_is value.width f.op_is.0
table_is Not a b c f = not_is a f.a_is
table_is And a b c f = between_is a.width 0 (min a.hi b.hi) f.a_is.width (omega (arith, f.a_is.hi_fits))
table_is Or a b c f = between_is a.width (max a.lo b.lo) (largest a.width) f.a_is.width (largest_fits a.width)
table_is Xor a b c f = full_is a.width f.a_is.width
table_is Add a b c f = sum_is a b f.a_is f.b_is (ap (λ n. 2 ^ n) (eqb-true _ _ f.fits))
table_is Sub a b c f = difference_is a b f.a_is
table_is (Slice hi lo) a b c f =
    either_is (eqb (a.lo / 2 ^ (hi + 1)) (a.hi / 2 ^ (hi + 1))) (width (hi - lo + 1)) (both_ends (Slice hi lo) a b c) (range_full (width (hi - lo + 1)))
    (λ _. ends_is (Slice hi lo) a b c f) (λ _. full_is (width (hi - lo + 1)) (width_is (Slice hi lo) a b c f))
table_is Concat a b c f = ends_is Concat a b c f
table_is (SignExt to) a b c f =
    either_is (eqb (top_bit a.width a.lo) (top_bit a.width a.hi)) (width to) (both_ends (SignExt to) a b c) (range_full (width to))
    (λ _. ends_is (SignExt to) a b c f) (λ _. full_is (width to) (width_is (SignExt to) a b c f))
table_is (Shl by) a b c f =
    either_is (leb (a.hi * 2 ^ by) (largest a.width)) a.width (both_ends (Shl by) a b c) (range_full a.width)
    (λ _. ends_is (Shl by) a b c f) (λ _. full_is a.width f.a_is.width)
table_is (Shr by) a b c f = ends_is (Shr by) a b c f
table_is Eq a b c f = either_is (are_disjoint a b) (width 1) (flag false) (range_full (width 1)) (λ _. flag_is false) (λ _. full_is (width 1) bit_width)
table_is Ltu a b c f =
    either_is (ltb a.hi b.lo) (width 1) (flag true) _ (λ _. flag_is true)
    (λ _. either_is (leb b.hi a.lo) (width 1) (flag false) (range_full (width 1)) (λ _. flag_is false) (λ _. full_is (width 1) bit_width))
table_is Ite a b c f =
    let s = and_parts (eqb a.width.0 1) (eqb b.width.0 c.width.0) f.fits in
    let w = same_width b c s.1 in
    let e : 2 ^ b.width.0 ≡ 2 ^ c.width.0 = ap (λ (v : Width). 2 ^ v.0) w in
    either_is (is_single a) b.width (cond (eqb a.lo 1) b c) (range_hull b c)
    (λ _. either_is (eqb a.lo 1) b.width b c (λ _. (f.b_is, refl)) (λ _. (f.c_is, sym w)))
    (λ _. between_is b.width (min b.lo c.lo) (max b.hi c.hi) f.b_is.width (omega (arith, f.b_is.hi_fits, f.c_is.hi_fits)))

pub forward_is : (op : Op) (a b c : Range) → Fitting range_ops op a b c → IsDomainOf range_ops (width_after op a b c) (range_forward op a b c)
forward_is op a b c f =
    either_is (some_used_empty op a b c) (width_after op a b c) (no_range (width_after op a b c)) _
    (λ _. no_range_is (width_after op a b c) (width_is op a b c f))
    (λ _. either_is (all_used_single op a b c) (width_after op a b c) (range_one (applied op (low_end a) (low_end b) (low_end c))) (forward_table op a b c)
    (λ _. value_is op a b c f) (λ _. table_is op a b c f))

-- ---- forward

-- the only number of a single value
only : (a : Range) (x : ℕ) → is_single a ≡ true → Held a x → value_in range_ops a x ≡ low_end a
only a x e h =
    let s = eqb-true _ _ e in
    let d : x ≡ a.lo = omega (arith, h.above, h.below) in
    ap (λ n. let v : Bv = record { width = a.width; bits = n } in v) d

-- where all used operands are single values, the value is that of the ends
single_value : (op : Op) (a b c : Range) (x y z : ℕ) → all_used_single op a b c ≡ true → HoldUsed range_ops op a b c x y z
    → value_at range_ops op a b c x y z ≡ value_of op (low_end a) (low_end b) (low_end c)
single_value op a b c x y z e u =
    let p = and_parts (not (is_used op 0) || is_single a) _ e in
    let q = and_parts (not (is_used op 1) || is_single b) (not (is_used op 2) || is_single c) p.1 in
    value_used op _ _ _ _ _ _
    (λ l. only a x (not_or_then (is_used op 0) (is_single a) p.0 (used 0 (arity_of op) l)) (held a x (u.first l)))
    (λ l. only b y (not_or_then (is_used op 1) (is_single b) q.0 (used 1 (arity_of op) l)) (held b y (u.second l)))
    (λ l. only c z (not_or_then (is_used op 2) (is_single c) q.1 (used 2 (arity_of op) l)) (held c z (u.third l)))

pub forward_holds : (op : Op) (a b c : Range) (x y z : ℕ) → Fitting range_ops op a b c → HoldUsed range_ops op a b c x y z
    → Holds range_ops (range_forward op a b c) (value_at range_ops op a b c x y z)
forward_holds op a b c x y z f u =
    let n = value_at range_ops op a b c x y z in
    either_holds (some_used_empty op a b c) (no_range (width_after op a b c)) _ n
    (λ t. absurd (false≢true (sym (held_not_empty op a b c x y z u) ∙ t)))
    (λ _. either_holds (all_used_single op a b c) (range_one (applied op (low_end a) (low_end b) (low_end c))) (forward_table op a b c) n
    (λ t. one_of_holds (applied op (low_end a) (low_end b) (low_end c)) n (single_value op a b c x y z t u))
    (λ _. Forward.table_holds op a b c x y z f u))

-- an operand whose bits are all known is a single value
known_single : (a : Range) → IsRange a → IsAllKnown range_ops a → is_single a ≡ true
known_single a p h = eq-eqb a.lo a.hi (all_single a p.width.0 h)

pub forward_known : (op : Op) (a b c : Range) → Fitting range_ops op a b c → AreUsedKnown range_ops op a b c → IsAllKnown range_ops (range_forward op a b c)
forward_known op a b c f u =
    let e = none_used op (range_is_empty a) (range_is_empty b) (range_is_empty c) (λ l. (u.first l).0) (λ l. (u.second l).0) (λ l. (u.third l).0) in
    let s = and_from (not (is_used op 0) || is_single a) _ (not_or_where (is_used op 0) (is_single a) (λ t. known_single a f.a_is (u.first (ltb-true _ _ t))))
    (and_from (not (is_used op 1) || is_single b) (not (is_used op 2) || is_single c)
    (not_or_where (is_used op 1) (is_single b) (λ t. known_single b f.b_is (u.second (ltb-true _ _ t))))
    (not_or_where (is_used op 2) (is_single c) (λ t. known_single c f.c_is (u.third (ltb-true _ _ t))))) in
    let v = applied op (low_end a) (low_end b) (low_end c) in
    subst (IsAllKnown range_ops)
    (sym (cond-false (some_used_empty op a b c) (no_range (width_after op a b c)) _ e ∙ cond-true (all_used_single op a b c) (range_one v) (forward_table op a b c) s))
    (one_all v)

-- ---- backward

operand_width : (k : ℕ) (a b c : Range) → IsRange a → IsRange b → IsRange c → IsWidth ((operand k a b c).width.0)
operand_width zero a b c p q r = p.width
operand_width (suc zero) a b c p q r = q.width
operand_width (suc (suc k)) a b c p q r = r.width

operand_full : (k : ℕ) (a b c : Range) → IsRange a → IsRange b → IsRange c → IsOf (operand k a b c).width (range_full (operand k a b c).width)
operand_full k a b c p q r = full_is (operand k a b c).width (operand_width k a b c p q r)

-- a range of the width w, as one of the width v
of_as : (v w : Width) (r : Range) → w ≡ v → IsOf w r → IsOf v r
of_as v w r e h = subst (λ n. IsOf n r) e h

without_is : (a : Range) (c : ℕ) → IsRange a → IsOf a.width (without a c)
without_is a c p = either_is (eqb a.lo c) a.width (range_between a.width (c + 1) a.hi) _
    (λ _. between_is a.width (c + 1) a.hi p.width p.hi_fits)
    (λ _. either_is (eqb a.hi c) a.width (range_between a.width a.lo (c - 1)) (range_full a.width)
    (λ t. let e = eqb-true _ _ t in between_is a.width a.lo (c - 1) p.width (omega (arith, p.hi_fits)))
    (λ _. full_is a.width p.width))

eq_is : (r a d : Range) → IsRange a → IsRange d → d.width ≡ a.width → IsOf a.width (eq_back r a d)
eq_is r a d p q e = either_is (is_value r 1) a.width d _ (λ _. (q, e))
    (λ _. either_is (is_value r 0 && is_single d) a.width (without a d.lo) (range_full a.width) (λ _. without_is a d.lo p) (λ _. full_is a.width p.width))

below_some_is : (b : Range) → IsRange b → IsOf b.width (below_some b)
below_some_is b p = either_is (eqb b.hi 0) b.width (no_range b.width) (range_between b.width 0 (b.hi - 1))
    (λ _. no_range_is b.width p.width) (λ _. between_is b.width 0 (b.hi - 1) p.width (omega (arith, p.hi_fits)))

ltu_first_is : (r a b : Range) → IsRange a → IsRange b → b.width ≡ a.width → IsOf a.width (ltu_first r a b)
ltu_first_is r a b p q e = either_is (is_value r 1) a.width (below_some b) _ (λ _. of_as a.width b.width (below_some b) e (below_some_is b q))
    (λ _. either_is (is_value r 0) a.width (range_between a.width b.lo (largest a.width)) (range_full a.width)
    (λ _. between_is a.width b.lo (largest a.width) p.width (largest_fits a.width)) (λ _. full_is a.width p.width))

ltu_second_is : (r a b : Range) → IsRange a → IsRange b → b.width ≡ a.width → IsOf b.width (ltu_second r a b)
ltu_second_is r a b p q e = either_is (is_value r 1) b.width (range_between b.width (a.lo + 1) (largest b.width)) _
    (λ _. between_is b.width (a.lo + 1) (largest b.width) q.width (largest_fits b.width))
    (λ _. either_is (is_value r 0) b.width (range_between b.width 0 a.hi) (range_full b.width)
    (λ _. between_is b.width 0 a.hi q.width (let d : 2 ^ b.width.0 ≡ 2 ^ a.width.0 = ap (λ (w : Width). 2 ^ w.0) e in omega (arith, p.hi_fits)))
    (λ _. full_is b.width q.width))

test_is : (r b c : Range) → IsOf (width 1) (test_back r b c)
test_is r b c = either_is (are_apart r b) (width 1) _ _
    (λ _. either_is (are_apart r c) (width 1) (no_range (width 1)) (flag false) (λ _. no_range_is (width 1) bit_width) (λ _. flag_is false))
    (λ _. either_is (are_apart r c) (width 1) (flag true) (range_full (width 1)) (λ _. flag_is true) (λ _. full_is (width 1) bit_width))

branch_is : (t : Bool) (r : Range) (w : Width) → IsRange r → r.width ≡ w → IsWidth w.0 → IsOf w (cond t r (range_full w))
branch_is t r w p e h = either_is t w r (range_full w) (λ _. (p, e)) (λ _. full_is w h)

back_table_is : (op : Op) (k : ℕ) (r a b c : Range) → FittingAt range_ops op k r a b c → IsOf (operand k a b c).width (backward_table op k r a b c)
back_table_is (Const value) k r a b c f = absurd (omega (arith, f.place))
back_table_is Not zero r a b c f = of_as a.width r.width (not_range r) f.r_width (not_is r f.r_is)
back_table_is Not (suc k) r a b c f = absurd (omega (arith, f.place))
back_table_is And zero r a b c f = of_as a.width r.width _ f.r_width (between_is r.width r.lo (largest r.width) f.r_is.width (largest_fits r.width))
back_table_is And (suc zero) r a b c f =
    of_as b.width r.width _ (f.r_width ∙ same_width a b f.operands.fits) (between_is r.width r.lo (largest r.width) f.r_is.width (largest_fits r.width))
back_table_is And (suc (suc k)) r a b c f = absurd (omega (arith, f.place))
back_table_is Or zero r a b c f = of_as a.width r.width _ f.r_width (between_is r.width 0 r.hi f.r_is.width f.r_is.hi_fits)
back_table_is Or (suc zero) r a b c f = of_as b.width r.width _ (f.r_width ∙ same_width a b f.operands.fits) (between_is r.width 0 r.hi f.r_is.width f.r_is.hi_fits)
back_table_is Or (suc (suc k)) r a b c f = absurd (omega (arith, f.place))
back_table_is Xor k r a b c f = operand_full k a b c f.operands.a_is f.operands.b_is f.operands.c_is
back_table_is Add zero r a b c f = of_as a.width r.width (difference_range r b) f.r_width (difference_is r b f.r_is)
back_table_is Add (suc zero) r a b c f = of_as b.width r.width (difference_range r a) (f.r_width ∙ same_width a b f.operands.fits) (difference_is r a f.r_is)
back_table_is Add (suc (suc k)) r a b c f = absurd (omega (arith, f.place))
back_table_is Sub zero r a b c f =
    of_as a.width r.width (sum_range r b) f.r_width (sum_is r b f.r_is f.operands.b_is (ap (λ (w : Width). 2 ^ w.0) (f.r_width ∙ same_width a b f.operands.fits)))
back_table_is Sub (suc zero) r a b c f = of_as b.width a.width (difference_range a r) (same_width a b f.operands.fits) (difference_is a r f.operands.a_is)
back_table_is Sub (suc (suc k)) r a b c f = absurd (omega (arith, f.place))
back_table_is (Slice hi lo) zero r a b c f =
    let o = leb-true _ _ (and_parts (leb lo hi) (ltb hi a.width.0) f.operands.fits).0 in
    let e : 2 ^ r.width.0 ≡ 2 ^ (hi - lo + 1) = ap (λ (w : Width). 2 ^ w.0) f.r_width in
    either_is (eqb (hi + 1) a.width.0) a.width (range_between a.width (r.lo * 2 ^ lo) (r.hi * 2 ^ lo + 2 ^ lo - 1)) (range_full a.width)
    (λ t. let d = eqb-true _ _ t in
    between_is a.width (r.lo * 2 ^ lo) (r.hi * 2 ^ lo + 2 ^ lo - 1) f.operands.a_is.width
    (spread_fits r.hi (hi - lo + 1) lo a.width.0 (omega (arith, f.r_is.hi_fits)) (omega arith)))
    (λ _. full_is a.width f.operands.a_is.width)
back_table_is (Slice hi lo) (suc k) r a b c f = absurd (omega (arith, f.place))
back_table_is Concat zero r a b c f =
    between_is a.width (r.lo / 2 ^ b.width.0) (r.hi / 2 ^ b.width.0) f.operands.a_is.width
    (shr_below r.hi a.width.0 b.width.0 (subst (λ (w : Width). r.hi < 2 ^ w.0) f.r_width f.r_is.hi_fits))
back_table_is Concat (suc zero) r a b c f =
    either_is (eqb (r.lo / 2 ^ b.width.0) (r.hi / 2 ^ b.width.0)) b.width (range_between b.width (r.lo % 2 ^ b.width.0) (r.hi % 2 ^ b.width.0)) (range_full b.width)
    (λ _. between_is b.width (r.lo % 2 ^ b.width.0) (r.hi % 2 ^ b.width.0) f.operands.b_is.width (mod_below r.hi (2 ^ b.width.0) (pow_pos b.width.0)))
    (λ _. full_is b.width f.operands.b_is.width)
back_table_is Concat (suc (suc k)) r a b c f = absurd (omega (arith, f.place))
back_table_is (SignExt to) k r a b c f = operand_full k a b c f.operands.a_is f.operands.b_is f.operands.c_is
back_table_is (Shl by) k r a b c f = operand_full k a b c f.operands.a_is f.operands.b_is f.operands.c_is
back_table_is (Shr by) zero r a b c f =
    let l = ltb-true _ _ f.operands.fits in
    either_is (leb r.hi (largest a.width / 2 ^ by)) a.width (range_between a.width (r.lo * 2 ^ by) (r.hi * 2 ^ by + 2 ^ by - 1)) (range_full a.width)
    (λ t. between_is a.width (r.lo * 2 ^ by) (r.hi * 2 ^ by + 2 ^ by - 1) f.operands.a_is.width
    (spread_fits r.hi (a.width.0 - by) by a.width.0 (largest_shifted a.width.0 by r.hi (omega arith) (leb-true _ _ t)) (omega arith)))
    (λ _. full_is a.width f.operands.a_is.width)
back_table_is (Shr by) (suc k) r a b c f = absurd (omega (arith, f.place))
back_table_is Eq zero r a b c f = eq_is r a b f.operands.a_is f.operands.b_is (sym (same_width a b f.operands.fits))
back_table_is Eq (suc zero) r a b c f = eq_is r b a f.operands.b_is f.operands.a_is (same_width a b f.operands.fits)
back_table_is Eq (suc (suc k)) r a b c f = absurd (omega (arith, f.place))
back_table_is Ltu zero r a b c f = ltu_first_is r a b f.operands.a_is f.operands.b_is (sym (same_width a b f.operands.fits))
back_table_is Ltu (suc zero) r a b c f = ltu_second_is r a b f.operands.a_is f.operands.b_is (sym (same_width a b f.operands.fits))
back_table_is Ltu (suc (suc k)) r a b c f = absurd (omega (arith, f.place))
back_table_is Ite zero r a b c f =
    let s = eqb-true _ _ (and_parts (eqb a.width.0 1) (eqb b.width.0 c.width.0) f.operands.fits).0 in
    of_as a.width (width 1) (test_back r b c) (ap width (sym s)) (test_is r b c)
back_table_is Ite (suc zero) r a b c f = branch_is (is_value a 1) r b.width f.r_is f.r_width f.operands.b_is.width
back_table_is Ite (suc (suc k)) r a b c f =
    let s = same_width b c (and_parts (eqb a.width.0 1) (eqb b.width.0 c.width.0) f.operands.fits).1 in
    branch_is (is_value a 0) r c.width f.r_is (f.r_width ∙ s) f.operands.c_is.width

pub backward_is : (op : Op) (k : ℕ) (r a b c : Range) → FittingAt range_ops op k r a b c
    → IsDomainOf range_ops (operand k a b c).width (range_backward op k r a b c)
backward_is op k r a b c f =
    let v = (operand k a b c).width in
    either_is (range_is_empty r || some_used_empty op a b c) v (no_range v) (backward_table op k r a b c)
    (λ _. no_range_is v (operand_width k a b c f.operands.a_is f.operands.b_is f.operands.c_is)) (λ _. back_table_is op k r a b c f)

pub backward_holds : (op : Op) (k : ℕ) (r a b c : Range) (x y z : ℕ) → FittingAt range_ops op k r a b c → HoldUsed range_ops op a b c x y z
    → Holds range_ops r (value_at range_ops op a b c x y z)
    → Holds range_ops (range_backward op k r a b c) (operand k x y z)
backward_holds op k r a b c x y z f u t =
    let h = held r (value_at range_ops op a b c x y z) t in
    let e = or_from (range_is_empty r) (some_used_empty op a b c) (held_full r (value_at range_ops op a b c x y z) h) (held_not_empty op a b c x y z u) in
    either_holds (range_is_empty r || some_used_empty op a b c) (no_range (operand k a b c).width) (backward_table op k r a b c) (operand k x y z)
    (λ d. absurd (false≢true (sym e ∙ d)))
    (λ _. Backward.table_holds op k r a b c x y z f u h)
