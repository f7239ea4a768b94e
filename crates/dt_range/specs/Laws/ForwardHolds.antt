-- The tables of forward hold the operator's value of all held operands.
use Rattle.std.proofs.Common.{◌≡◌, ℕ, ◌+◌, ◌-◌, ◌*◌, ◌/◌, ◌%◌, ◌^◌, ◌<◌, ◌≤◌, Bool, true, false, cond, eqb, ltb, leb, bit_and, bit_or, bit_xor, sym, ◌∙◌, subst, ⊎_elim, min, max, lit<, arith}
use Rattle.std.proofs.lemmas.Bool.{and_parts, or_cases, eqb-true, leb-true, ltb-true, lt-ltb, le-ltb, ne_eqb}
use Rattle.std.proofs.lemmas.Nat.{pow_pos, and_le_l, and_le_r, or_lt, xor_lt, le_or_l, le_or_r, mod_below}
use Rattle.std.proofs.Math.Nat.{mod-eq_of_lt, mul-le-mul_right}
use Rattle.dt_lemmas.proofs.Powers.{quotient_le, quotient_between, part_le, joined_le, extended_le, extended_fits, flag_fits}
use Rattle.dt_lemmas.proofs.Moduli.{mod_once}
use Rattle.dt_bits.specs.Bits.{width}
use Rattle.dt_bits.specs.declared.op.Op.{Op}
use Rattle.dt_bits.specs.declared.op.Op.TheVariants.{Const, Not, And, Or, Xor, Add, Sub, Slice, Concat, SignExt, Shl, Shr, Eq, Ltu, Ite}
use Rattle.dt_domain.specs.Domain.{Fitting, HoldUsed, value_at}
use Rattle.dt_range.specs.declared.Range.{Range}
use Rattle.dt_range.specs.Range.{IsRange, is_single, range_holds, range_between, range_full, largest}
use Rattle.dt_range.specs.Forward.{width_after, both_ends, not_range, sum_range, difference_range, flag, are_disjoint, range_hull, top_bit, forward_table}
use Rattle.dt_range.specs.Ops.{range_ops}
use Rattle.dt_range.specs.Laws.Between.{Held, held, held_is, held_below, between_holds, full_holds, either_holds, flag_holds}

-- b's number fits a's width, where the widths are equal
pub alike : (a b : Range) (y : ℕ) → IsRange b → Held b y → eqb a.width.0 b.width.0 ≡ true → y < 2 ^ a.width.0
alike a b y p h e = subst (λ w. y < 2 ^ w) (sym (eqb-true _ _ e)) (held_below b y p h)

pub not_holds : (a : Range) (x : ℕ) → Held a x → range_holds (not_range a) (2 ^ a.width.0 - 1 - x) ≡ true
not_holds a x h = between_holds a.width (largest a.width - a.hi) (largest a.width - a.lo) _ (omega (arith, h.below)) (omega (arith, h.above))

pub sum_holds : (a b : Range) (x y : ℕ) → Held a x → Held b y → x < 2 ^ a.width.0 → y < 2 ^ a.width.0 → range_holds (sum_range a b) ((x + y) % 2 ^ a.width.0) ≡ true
sum_holds a b x y h k f g =
    let m = 2 ^ a.width.0 in
    let pos = pow_pos a.width.0 in
    let n = (x + y) % m in
    either_holds (leb (a.hi + b.hi) (largest a.width)) (range_between a.width (a.lo + b.lo) (a.hi + b.hi)) _ n
    (λ t. let l : a.hi + b.hi ≤ m - 1 = leb-true _ _ t in
    let s : n ≡ x + y = mod-eq_of_lt (let u : x + y < m = omega (arith, h.below, k.below) in u) in
    between_holds a.width (a.lo + b.lo) (a.hi + b.hi) n (omega (arith, h.above, k.above)) (omega (arith, h.below, k.below)))
    (λ _. either_holds (ltb (largest a.width) (a.lo + b.lo)) (range_between a.width (a.lo + b.lo - m) (a.hi + b.hi - m)) (range_full a.width) n
    (λ t. let l : m - 1 < a.lo + b.lo = ltb-true _ _ t in
    let s : n ≡ x + y - m = mod_once (x + y) m (omega (arith, h.above, k.above)) (omega arith) in
    between_holds a.width (a.lo + b.lo - m) (a.hi + b.hi - m) n (omega (arith, h.above, k.above)) (omega (arith, h.below, k.below)))
    (λ _. full_holds a.width n (mod_below (x + y) m pos)))

pub difference_holds : (a b : Range) (x y : ℕ) → Held a x → Held b y → x < 2 ^ a.width.0 → y < 2 ^ a.width.0
    → range_holds (difference_range a b) ((x + 2 ^ a.width.0 - y) % 2 ^ a.width.0) ≡ true
difference_holds a b x y h k f g =
    let m = 2 ^ a.width.0 in
    let pos = pow_pos a.width.0 in
    let n = (x + m - y) % m in
    either_holds (leb b.hi a.lo) (range_between a.width (a.lo - b.hi) (a.hi - b.lo)) _ n
    (λ t. let l : b.hi ≤ a.lo = leb-true _ _ t in
    let s : n ≡ x + m - y - m = mod_once (x + m - y) m (omega (arith, h.above, k.below)) (omega arith) in
    between_holds a.width (a.lo - b.hi) (a.hi - b.lo) n (omega (arith, h.above, k.below)) (omega (arith, h.below, k.above)))
    (λ _. either_holds (ltb a.hi b.lo) (range_between a.width (a.lo + m - b.hi) (a.hi + m - b.lo)) (range_full a.width) n
    (λ t. let l : a.hi < b.lo = ltb-true _ _ t in
    let s : n ≡ x + m - y = mod-eq_of_lt (let u : x + m - y < m = omega (arith, h.below, k.above) in u) in
    between_holds a.width (a.lo + m - b.hi) (a.hi + m - b.lo) n (omega (arith, h.above, k.below)) (omega (arith, h.below, k.above)))
    (λ _. full_holds a.width n (mod_below (x + m - y) m pos)))

-- a flag that is known to be v
flag_known : (v b : Bool) → b ≡ v → range_holds (flag v) (cond b 1 0) ≡ true
flag_known v b e = subst (λ t. range_holds (flag v) (cond t 1 0) ≡ true) (sym e) (flag_holds v)

eq_holds : (a b : Range) (x y : ℕ) → Held a x → Held b y → range_holds (cond (are_disjoint a b) (flag false) (range_full (width 1))) (cond (eqb x y) 1 0) ≡ true
eq_holds a b x y h k = either_holds (are_disjoint a b) (flag false) (range_full (width 1)) _
    (λ t. flag_known false (eqb x y) (ne_eqb x y (λ e. ⊎_elim
    (λ (l : ltb a.hi b.lo ≡ true). let p = ltb-true _ _ l in omega (arith, h.below, k.above))
    (λ (l : ltb b.hi a.lo ≡ true). let p = ltb-true _ _ l in omega (arith, h.above, k.below))
    (or_cases (ltb a.hi b.lo) (ltb b.hi a.lo) t))))
    (λ _. full_holds (width 1) _ (flag_fits (eqb x y)))

ltu_holds : (a b : Range) (x y : ℕ) → Held a x → Held b y
    → range_holds (cond (ltb a.hi b.lo) (flag true) (cond (leb b.hi a.lo) (flag false) (range_full (width 1)))) (cond (ltb x y) 1 0) ≡ true
ltu_holds a b x y h k = either_holds (ltb a.hi b.lo) (flag true) _ _
    (λ t. let l = ltb-true _ _ t in flag_known true (ltb x y) (lt-ltb x y (omega (arith, h.below, k.above))))
    (λ _. either_holds (leb b.hi a.lo) (flag false) (range_full (width 1)) _
    (λ t. let l = leb-true _ _ t in flag_known false (ltb x y) (le-ltb x y (omega (arith, h.above, k.below))))
    (λ _. full_holds (width 1) _ (flag_fits (ltb x y))))

hull_holds : (b c : Range) (y z : ℕ) (t : Bool) → Held b y → Held c z → range_holds (range_hull b c) (cond t y z) ≡ true
hull_holds b c y z true k l = between_holds b.width (min b.lo c.lo) (max b.hi c.hi) y (omega (arith, k.above)) (omega (arith, k.below))
hull_holds b c y z false k l = between_holds b.width (min b.lo c.lo) (max b.hi c.hi) z (omega (arith, l.above)) (omega (arith, l.below))

chosen_holds : (b c : Range) (y z : ℕ) (t : Bool) → Held b y → Held c z → range_holds (cond t b c) (cond t y z) ≡ true
chosen_holds b c y z true k l = held_is b y k.above k.below
chosen_holds b c y z false k l = held_is c z l.above l.below

ite_holds : (a b c : Range) (x y z : ℕ) → Held a x → Held b y → Held c z
    → range_holds (cond (is_single a) (cond (eqb a.lo 1) b c) (range_hull b c)) (cond (eqb x 1) y z) ≡ true
ite_holds a b c x y z h k l = either_holds (is_single a) (cond (eqb a.lo 1) b c) (range_hull b c) _
    (λ t. let s = eqb-true _ _ t in
    let e : a.lo ≡ x = omega (arith, h.above, h.below) in
    subst (λ n. range_holds (cond (eqb n 1) b c) (cond (eqb x 1) y z) ≡ true) (sym e) (chosen_holds b c y z (eqb x 1) k l))
    (λ _. hull_holds b c y z (eqb x 1) k l)

-- what the table gives holds the operator's value
pub table_holds : (op : Op) (a b c : Range) (x y z : ℕ) → Fitting range_ops op a b c → HoldUsed range_ops op a b c x y z
    → range_holds (forward_table op a b c) (value_at range_ops op a b c x y z) ≡ true
table_holds (Const value) a b c x y z f u = full_holds value.width value.bits f.op_is.1
table_holds Not a b c x y z f u = not_holds a x (held a x (u.first (lit< tt)))
table_holds And a b c x y z f u =
    let h = held a x (u.first (lit< tt)) in
    let k = held b y (u.second (lit< tt)) in
    between_holds a.width 0 (min a.hi b.hi) (bit_and x y) (omega arith) (omega (arith, and_le_l x y, and_le_r x y, h.below, k.below))
table_holds Or a b c x y z f u =
    let h = held a x (u.first (lit< tt)) in
    let k = held b y (u.second (lit< tt)) in
    let l = or_lt a.width.0 x y (held_below a x f.a_is h) (alike a b y f.b_is k f.fits) in
    between_holds a.width (max a.lo b.lo) (largest a.width) (bit_or x y) (omega (arith, le_or_l x y, le_or_r x y, h.above, k.above)) (omega arith)
table_holds Xor a b c x y z f u =
    let h = held a x (u.first (lit< tt)) in
    let k = held b y (u.second (lit< tt)) in
    full_holds a.width (bit_xor x y) (xor_lt a.width.0 x y (held_below a x f.a_is h) (alike a b y f.b_is k f.fits))
table_holds Add a b c x y z f u =
    let h = held a x (u.first (lit< tt)) in
    let k = held b y (u.second (lit< tt)) in
    sum_holds a b x y h k (held_below a x f.a_is h) (alike a b y f.b_is k f.fits)
table_holds Sub a b c x y z f u =
    let h = held a x (u.first (lit< tt)) in
    let k = held b y (u.second (lit< tt)) in
    difference_holds a b x y h k (held_below a x f.a_is h) (alike a b y f.b_is k f.fits)
table_holds (Slice hi lo) a b c x y z f u =
    let h = held a x (u.first (lit< tt)) in
    let o = leb-true _ _ (and_parts (leb lo hi) (ltb hi a.width.0) f.fits).0 in
    let n : lo + (hi - lo + 1) ≡ hi + 1 = omega arith in
    either_holds (eqb (a.lo / 2 ^ (hi + 1)) (a.hi / 2 ^ (hi + 1))) (both_ends (Slice hi lo) a b c) (range_full (width (hi - lo + 1))) _
    (λ t. let e : a.lo / 2 ^ (lo + (hi - lo + 1)) ≡ a.hi / 2 ^ (lo + (hi - lo + 1)) = subst (λ k. a.lo / 2 ^ k ≡ a.hi / 2 ^ k) (sym n) (eqb-true _ _ t) in
    let s = quotient_between a.lo x a.hi (lo + (hi - lo + 1)) h.above h.below e in
    between_holds (width (hi - lo + 1)) _ _ _ (part_le a.lo x lo (hi - lo + 1) h.above (sym s)) (part_le x a.hi lo (hi - lo + 1) h.below (s ∙ e)))
    (λ _. full_holds (width (hi - lo + 1)) _ (mod_below (x / 2 ^ lo) (2 ^ (hi - lo + 1)) (pow_pos (hi - lo + 1))))
table_holds Concat a b c x y z f u =
    let h = held a x (u.first (lit< tt)) in
    let k = held b y (u.second (lit< tt)) in
    between_holds (width_after Concat a b c) _ _ _ (joined_le a.lo x b.lo y b.width.0 h.above k.above) (joined_le x a.hi y b.hi b.width.0 h.below k.below)
table_holds (SignExt to) a b c x y z f u =
    let h = held a x (u.first (lit< tt)) in
    let l = leb-true _ _ (and_parts (leb a.width.0 to) (leb to 128) f.fits).0 in
    either_holds (eqb (top_bit a.width a.lo) (top_bit a.width a.hi)) (both_ends (SignExt to) a b c) (range_full (width to)) _
    (λ t. let e = eqb-true _ _ t in
    let s = quotient_between a.lo x a.hi (a.width.0 - 1) h.above h.below e in
    between_holds (width to) _ _ _ (extended_le a.width.0 to a.lo x h.above (sym s)) (extended_le a.width.0 to x a.hi h.below (s ∙ e)))
    (λ _. full_holds (width to) _ (extended_fits a.width.0 to x l (held_below a x f.a_is h)))
table_holds (Shl by) a b c x y z f u =
    let h = held a x (u.first (lit< tt)) in
    let m = 2 ^ a.width.0 in
    let pos = pow_pos a.width.0 in
    either_holds (leb (a.hi * 2 ^ by) (largest a.width)) (both_ends (Shl by) a b c) (range_full a.width) _
    (λ t. let l : a.hi * 2 ^ by ≤ m - 1 = leb-true _ _ t in
    let p : a.lo * 2 ^ by ≤ x * 2 ^ by = mul-le-mul_right (2 ^ by) h.above in
    let q : x * 2 ^ by ≤ a.hi * 2 ^ by = mul-le-mul_right (2 ^ by) h.below in
    let d : a.lo * 2 ^ by % m ≡ a.lo * 2 ^ by = mod-eq_of_lt (let u : a.lo * 2 ^ by < m = omega arith in u) in
    let e : x * 2 ^ by % m ≡ x * 2 ^ by = mod-eq_of_lt (let u : x * 2 ^ by < m = omega arith in u) in
    let g : a.hi * 2 ^ by % m ≡ a.hi * 2 ^ by = mod-eq_of_lt (let u : a.hi * 2 ^ by < m = omega arith in u) in
    between_holds a.width (a.lo * 2 ^ by % m) (a.hi * 2 ^ by % m) (x * 2 ^ by % m) (omega arith) (omega arith))
    (λ _. full_holds a.width _ (mod_below (x * 2 ^ by) m pos))
table_holds (Shr by) a b c x y z f u =
    let h = held a x (u.first (lit< tt)) in
    between_holds a.width _ _ _ (quotient_le a.lo x by h.above) (quotient_le x a.hi by h.below)
table_holds Eq a b c x y z f u = eq_holds a b x y (held a x (u.first (lit< tt))) (held b y (u.second (lit< tt)))
table_holds Ltu a b c x y z f u = ltu_holds a b x y (held a x (u.first (lit< tt))) (held b y (u.second (lit< tt)))
table_holds Ite a b c x y z f u = ite_holds a b c x y z (held a x (u.first (lit< tt))) (held b y (u.second (lit< tt))) (held c z (u.third (lit< tt)))
