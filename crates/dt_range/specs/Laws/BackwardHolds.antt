-- The tables of backward hold each operand that gives a held result.
use Rattle.std.proofs.Common.{◌≡◌, ℕ, zero, suc, ◌+◌, ◌-◌, ◌*◌, ◌/◌, ◌%◌, ◌^◌, ◌<◌, ◌≤◌, Bool, true, false, ◌&&◌, cond, eqb, ltb, leb, refl, sym, ap, ◌∙◌, subst, ⊎_elim, lit<, arith}
use Rattle.std.proofs.lemmas.Bool.{cases_lt, and_parts, eqb-true, eqb-false, leb-true, ltb-true, ltb-false, false≢true}
use Rattle.std.proofs.lemmas.Nat.{pow_pos, and_le_l, and_le_r, le_or_l, le_or_r, mod_below, shr_high, mod_low, div-add-mod', shr_below}
use Rattle.std.proofs.Math.Nat.{mod-eq_of_lt, mul-le-mul_right}
use Rattle.dt_lemmas.proofs.Powers.{quotient_le}
use Rattle.dt_lemmas.proofs.Numbers.{eqb_turned}
use Rattle.dt_lemmas.proofs.Booleans.{small_is}
use Rattle.dt_bits.specs.Bits.{width}
use Rattle.dt_bits.specs.declared.op.Op.{Op}
use Rattle.dt_bits.specs.declared.op.Op.TheVariants.{Const, Not, And, Or, Xor, Add, Sub, Slice, Concat, SignExt, Shl, Shr, Eq, Ltu, Ite}
use Rattle.dt_bits.specs.declared.value.Width.{Width}
use Rattle.dt_lemmas.proofs.Moduli.{sub_of_add, add_of_sub, sub_of_sub, remainder_le}
use Rattle.dt_domain.specs.Domain.{FittingAt, HoldUsed, value_at, operand}
use Rattle.dt_range.specs.declared.Range.{Range}
use Rattle.dt_range.specs.Range.{is_single, range_holds, no_range, range_between, range_full, range_meet, largest}
use Rattle.dt_range.specs.Forward.{flag, not_range, sum_range, difference_range}
use Rattle.dt_range.specs.Backward.{is_value, without, eq_back, below_some, ltu_first, ltu_second, are_apart, test_back, backward_table}
use Rattle.dt_range.specs.Ops.{range_ops}
use Rattle.dt_range.specs.Laws.Between.{Held, held, held_is, held_full, held_below, between_holds, full_holds, either_holds, flag_holds}
use Rattle.dt_range.specs.Laws.Meets.{meet_holds}
use Rattle.dt_range.specs.Laws.ForwardHolds.{alike, not_holds, sum_holds, difference_holds}

-- the same number, as n and as m
held_as : (r : Range) (n m : ℕ) → n ≡ m → range_holds r n ≡ true → range_holds r m ≡ true
held_as r n m e h = subst (λ k. range_holds r k ≡ true) e h

-- ---- the bits moved

-- x lies among the numbers whose quotient is between the ends of r
pub spread_holds : (w : Width) (r : Range) (x k : ℕ) → Held r (x / 2 ^ k) → range_holds (range_between w (r.lo * 2 ^ k) (r.hi * 2 ^ k + 2 ^ k - 1)) x ≡ true
spread_holds w r x k h =
    let p : r.lo * 2 ^ k ≤ x / 2 ^ k * 2 ^ k = mul-le-mul_right (2 ^ k) h.above in
    let q : x / 2 ^ k * 2 ^ k ≤ r.hi * 2 ^ k = mul-le-mul_right (2 ^ k) h.below in
    let s = div-add-mod' x (2 ^ k) in
    let l = mod_below x (2 ^ k) (pow_pos k) in
    between_holds w (r.lo * 2 ^ k) (r.hi * 2 ^ k + 2 ^ k - 1) x (omega arith) (omega arith)

slice_holds : (r : Range) (w : Width) (x hi lo : ℕ) → lo ≤ hi → x < 2 ^ w.0 → Held r (x / 2 ^ lo % 2 ^ (hi - lo + 1))
    → range_holds (cond (eqb (hi + 1) w.0) (range_between w (r.lo * 2 ^ lo) (r.hi * 2 ^ lo + 2 ^ lo - 1)) (range_full w)) x ≡ true
slice_holds r w x hi lo o f h = either_holds (eqb (hi + 1) w.0) _ (range_full w) x
    (λ t. let e : hi + 1 ≡ w.0 = eqb-true _ _ t in
    let d : w.0 ≡ (hi - lo + 1) + lo = omega arith in
    let s : x / 2 ^ lo < 2 ^ (hi - lo + 1) = shr_below x (hi - lo + 1) lo (subst (λ n. x < 2 ^ n) d f) in
    spread_holds w r x lo (subst (Held r) (mod-eq_of_lt s) h))
    (λ _. full_holds w x f)

high_holds : (r : Range) (w : Width) (x y k : ℕ) → y < 2 ^ k → Held r (x * 2 ^ k + y) → range_holds (range_between w (r.lo / 2 ^ k) (r.hi / 2 ^ k)) x ≡ true
high_holds r w x y k l h =
    let e = shr_high x k y l in
    let p = quotient_le r.lo (x * 2 ^ k + y) k h.above in
    let q = quotient_le (x * 2 ^ k + y) r.hi k h.below in
    between_holds w (r.lo / 2 ^ k) (r.hi / 2 ^ k) x (omega arith) (omega arith)

low_holds : (r : Range) (w : Width) (x y : ℕ) → y < 2 ^ w.0 → Held r (x * 2 ^ w.0 + y)
    → range_holds (cond (eqb (r.lo / 2 ^ w.0) (r.hi / 2 ^ w.0)) (range_between w (r.lo % 2 ^ w.0) (r.hi % 2 ^ w.0)) (range_full w)) y ≡ true
low_holds r w x y l h =
    let n = x * 2 ^ w.0 + y in
    let d = mod_low x w.0 y l in
    either_holds (eqb (r.lo / 2 ^ w.0) (r.hi / 2 ^ w.0)) _ (range_full w) y
    (λ t. let e = eqb-true _ _ t in
    let a = quotient_le r.lo n w.0 h.above in
    let b = quotient_le n r.hi w.0 h.below in
    let p = remainder_le r.lo n (2 ^ w.0) h.above (omega arith) in
    let q = remainder_le n r.hi (2 ^ w.0) h.below (omega arith) in
    between_holds w (r.lo % 2 ^ w.0) (r.hi % 2 ^ w.0) y (omega arith) (omega arith))
    (λ _. full_holds w y l)

-- ---- the tests

-- a flag that a single value tells
one_flag : (r : Range) (b : Bool) → Held r (cond b 1 0) → is_value r 1 ≡ true → b ≡ true
one_flag r true h e = refl
one_flag r false h e = let p = and_parts (eqb r.lo 1) (eqb r.hi 1) e in let s = eqb-true _ _ p.0 in absurd (omega (arith, h.above))

zero_flag : (r : Range) (b : Bool) → Held r (cond b 1 0) → is_value r 0 ≡ true → b ≡ false
zero_flag r true h e = let p = and_parts (eqb r.lo 0) (eqb r.hi 0) e in let s = eqb-true _ _ p.1 in absurd (omega (arith, h.below))
zero_flag r false h e = refl

without_holds : (a : Range) (x c : ℕ) → x < 2 ^ a.width.0 → Held a x → (x ≡ c → ⊥) → range_holds (without a c) x ≡ true
without_holds a x c f h ne = either_holds (eqb a.lo c) (range_between a.width (c + 1) a.hi) _ x
    (λ t. let e = eqb-true _ _ t in
    between_holds a.width (c + 1) a.hi x (⊎_elim (λ (l : x < c + 1). absurd (ne (omega (arith, h.above)))) (λ (l : c + 1 ≤ x). l) (cases_lt x (c + 1))) h.below)
    (λ _. either_holds (eqb a.hi c) (range_between a.width a.lo (c - 1)) (range_full a.width) x
    (λ t. let e = eqb-true _ _ t in
    between_holds a.width a.lo (c - 1) x h.above (⊎_elim (λ (l : x < c). omega arith) (λ (l : c ≤ x). absurd (ne (omega (arith, h.below)))) (cases_lt x c)))
    (λ _. full_holds a.width x f))

pub eq_holds : (r a d : Range) (x y : ℕ) → x < 2 ^ a.width.0 → Held a x → Held d y → Held r (cond (eqb x y) 1 0) → range_holds (eq_back r a d) x ≡ true
eq_holds r a d x y f h k t = either_holds (is_value r 1) d _ x
    (λ e. let s : x ≡ y = eqb-true _ _ (one_flag r (eqb x y) t e) in held_is d x (omega (arith, k.above)) (omega (arith, k.below)))
    (λ _. either_holds (is_value r 0 && is_single d) (without a d.lo) (range_full a.width) x
    (λ e. let p = and_parts (is_value r 0) (is_single d) e in
    let ne = eqb-false _ _ (zero_flag r (eqb x y) t p.0) in
    let s : d.lo ≡ d.hi = eqb-true _ _ p.1 in
    without_holds a x d.lo f h (λ q. ne (omega (arith, k.above, k.below))))
    (λ _. full_holds a.width x f))

below_some_holds : (b : Range) (x y : ℕ) → x < y → Held b y → range_holds (below_some b) x ≡ true
below_some_holds b x y l k = either_holds (eqb b.hi 0) (no_range b.width) (range_between b.width 0 (b.hi - 1)) x
    (λ e. let s = eqb-true _ _ e in absurd (omega (arith, k.below)))
    (λ _. between_holds b.width 0 (b.hi - 1) x (omega arith) (omega (arith, k.below)))

pub ltu_first_holds : (r a b : Range) (x y : ℕ) → x < 2 ^ a.width.0 → Held a x → Held b y → Held r (cond (ltb x y) 1 0) → range_holds (ltu_first r a b) x ≡ true
ltu_first_holds r a b x y f h k t = either_holds (is_value r 1) (below_some b) _ x
    (λ e. below_some_holds b x y (ltb-true _ _ (one_flag r (ltb x y) t e)) k)
    (λ _. either_holds (is_value r 0) (range_between a.width b.lo (largest a.width)) (range_full a.width) x
    (λ e. let l = ltb-false _ _ (zero_flag r (ltb x y) t e) in between_holds a.width b.lo (largest a.width) x (omega (arith, k.above)) (omega arith))
    (λ _. full_holds a.width x f))

pub ltu_second_holds : (r a b : Range) (x y : ℕ) → y < 2 ^ b.width.0 → Held a x → Held b y → Held r (cond (ltb x y) 1 0) → range_holds (ltu_second r a b) y ≡ true
ltu_second_holds r a b x y g h k t = either_holds (is_value r 1) (range_between b.width (a.lo + 1) (largest b.width)) _ y
    (λ e. let l = ltb-true _ _ (one_flag r (ltb x y) t e) in between_holds b.width (a.lo + 1) (largest b.width) y (omega (arith, h.above)) (omega arith))
    (λ _. either_holds (is_value r 0) (range_between b.width 0 a.hi) (range_full b.width) y
    (λ e. let l = ltb-false _ _ (zero_flag r (ltb x y) t e) in between_holds b.width 0 a.hi y (omega arith) (omega (arith, h.below)))
    (λ _. full_holds b.width y g))

-- ---- the choice

-- two ranges that hold one number aren't apart
not_apart : (a b : Range) (x : ℕ) → Held a x → Held b x → are_apart a b ≡ false
not_apart a b x h k = held_full (range_meet a b) x (held (range_meet a b) x (meet_holds a b x h k))

pub test_holds : (r b c : Range) (x y z : ℕ) → x < 2 → Held b y → Held c z → Held r (cond (eqb x 1) y z) → range_holds (test_back r b c) x ≡ true
test_holds r b c x y z f k l t = held_as (test_back r b c) (cond (eqb x 1) 1 0) x (small_is x f) (by_choice (eqb x 1) t)
  where
    by_choice : (v : Bool) → Held r (cond v y z) → range_holds (test_back r b c) (cond v 1 0) ≡ true
    by_choice true t = either_holds (are_apart r b) _ _ 1
        (λ e. absurd (false≢true (sym (not_apart r b y t k) ∙ e)))
        (λ _. either_holds (are_apart r c) (flag true) (range_full (width 1)) 1 (λ _. flag_holds true) (λ _. full_holds (width 1) 1 (lit< tt)))
    by_choice false t = either_holds (are_apart r b) _ _ 0
        (λ _. either_holds (are_apart r c) (no_range (width 1)) (flag false) 0
        (λ e. absurd (false≢true (sym (not_apart r c z t l) ∙ e))) (λ _. flag_holds false))
        (λ _. either_holds (are_apart r c) (flag true) (range_full (width 1)) 0
        (λ e. absurd (false≢true (sym (not_apart r c z t l) ∙ e))) (λ _. full_holds (width 1) 0 (lit< tt)))

-- a test that is the single value n is n
value_is : (a : Range) (x n : ℕ) → Held a x → is_value a n ≡ true → x ≡ n
value_is a x n h e =
    let p = and_parts (eqb a.lo n) (eqb a.hi n) e in
    let s = eqb-true _ _ p.0 in
    let t = eqb-true _ _ p.1 in
    omega (arith, h.above, h.below)

second_holds : (a r : Range) (w : Width) (x y z : ℕ) → y < 2 ^ w.0 → Held a x → Held r (cond (eqb x 1) y z) → range_holds (cond (is_value a 1) r (range_full w)) y ≡ true
second_holds a r w x y z f h t = either_holds (is_value a 1) r (range_full w) y
    (λ e. let s = subst (λ n. Held r (cond (eqb n 1) y z)) (value_is a x 1 h e) t in held_is r y s.above s.below)
    (λ _. full_holds w y f)

third_holds : (a r : Range) (w : Width) (x y z : ℕ) → z < 2 ^ w.0 → Held a x → Held r (cond (eqb x 1) y z) → range_holds (cond (is_value a 0) r (range_full w)) z ≡ true
third_holds a r w x y z f h t = either_holds (is_value a 0) r (range_full w) z
    (λ e. let s = subst (λ n. Held r (cond (eqb n 1) y z)) (value_is a x 0 h e) t in held_is r z s.above s.below)
    (λ _. full_holds w z f)

-- ---- all operators

-- an operand of a sum or a difference, by the other operand
difference_back : (a b : Range) (x w p q : ℕ) → a.width.0 ≡ w → Held a p → Held b q → p < 2 ^ w → q < 2 ^ w → (p + 2 ^ w - q) % 2 ^ w ≡ x
    → range_holds (difference_range a b) x ≡ true
difference_back a b x w p q e h k l m s =
    held_as (difference_range a b) ((p + 2 ^ a.width.0 - q) % 2 ^ a.width.0) x (ap (λ n. (p + 2 ^ n - q) % 2 ^ n) e ∙ s)
    (difference_holds a b p q h k (subst (λ n. p < 2 ^ n) (sym e) l) (subst (λ n. q < 2 ^ n) (sym e) m))

sum_back : (a b : Range) (x w p q : ℕ) → a.width.0 ≡ w → Held a p → Held b q → p < 2 ^ w → q < 2 ^ w → (p + q) % 2 ^ w ≡ x
    → range_holds (sum_range a b) x ≡ true
sum_back a b x w p q e h k l m s =
    held_as (sum_range a b) ((p + q) % 2 ^ a.width.0) x (ap (λ n. (p + q) % 2 ^ n) e ∙ s)
    (sum_holds a b p q h k (subst (λ n. p < 2 ^ n) (sym e) l) (subst (λ n. q < 2 ^ n) (sym e) m))

-- what the table gives holds the operand
pub table_holds : (op : Op) (k : ℕ) (r a b c : Range) (x y z : ℕ) → FittingAt range_ops op k r a b c → HoldUsed range_ops op a b c x y z
    → Held r (value_at range_ops op a b c x y z)
    → range_holds (backward_table op k r a b c) (operand k x y z) ≡ true
table_holds (Const value) k r a b c x y z f u t = absurd (omega (arith, f.place))
table_holds Not zero r a b c x y z f u t =
    let h = held a x (u.first (lit< tt)) in
    let l = held_below a x f.operands.a_is h in
    let w : r.width.0 ≡ a.width.0 = ap (λ (w : Width). w.0) f.r_width in
    let e : 2 ^ r.width.0 ≡ 2 ^ a.width.0 = ap (λ n. 2 ^ n) w in
    held_as (not_range r) (2 ^ r.width.0 - 1 - (2 ^ a.width.0 - 1 - x)) x (omega arith) (not_holds r _ t)
table_holds Not (suc k) r a b c x y z f u t = absurd (omega (arith, f.place))
table_holds And zero r a b c x y z f u t =
    let h = held a x (u.first (lit< tt)) in
    let l = held_below a x f.operands.a_is h in
    let e : 2 ^ r.width.0 ≡ 2 ^ a.width.0 = ap (λ (w : Width). 2 ^ w.0) f.r_width in
    between_holds r.width r.lo (largest r.width) x (omega (arith, t.above, and_le_l x y)) (omega arith)
table_holds And (suc zero) r a b c x y z f u t =
    let k = held b y (u.second (lit< tt)) in
    let l = alike a b y f.operands.b_is k f.operands.fits in
    let e : 2 ^ r.width.0 ≡ 2 ^ a.width.0 = ap (λ (w : Width). 2 ^ w.0) f.r_width in
    between_holds r.width r.lo (largest r.width) y (omega (arith, t.above, and_le_r x y)) (omega arith)
table_holds And (suc (suc k)) r a b c x y z f u t = absurd (omega (arith, f.place))
table_holds Or zero r a b c x y z f u t = between_holds r.width 0 r.hi x (omega arith) (omega (arith, t.below, le_or_l x y))
table_holds Or (suc zero) r a b c x y z f u t = between_holds r.width 0 r.hi y (omega arith) (omega (arith, t.below, le_or_r x y))
table_holds Or (suc (suc k)) r a b c x y z f u t = absurd (omega (arith, f.place))
table_holds Xor zero r a b c x y z f u t = full_holds a.width x (held_below a x f.operands.a_is (held a x (u.first (lit< tt))))
table_holds Xor (suc zero) r a b c x y z f u t = full_holds b.width y (held_below b y f.operands.b_is (held b y (u.second (lit< tt))))
table_holds Xor (suc (suc k)) r a b c x y z f u t = absurd (omega (arith, f.place))
table_holds Add zero r a b c x y z f u t =
    let h = held a x (u.first (lit< tt)) in
    let k = held b y (u.second (lit< tt)) in
    let l = held_below a x f.operands.a_is h in
    let m = alike a b y f.operands.b_is k f.operands.fits in
    let w : r.width.0 ≡ a.width.0 = ap (λ (w : Width). w.0) f.r_width in
    difference_back r b x a.width.0 ((x + y) % 2 ^ a.width.0) y w t k (mod_below (x + y) (2 ^ a.width.0) (pow_pos a.width.0)) m (sub_of_add x y (2 ^ a.width.0) l m)
table_holds Add (suc zero) r a b c x y z f u t =
    let h = held a x (u.first (lit< tt)) in
    let k = held b y (u.second (lit< tt)) in
    let l = held_below a x f.operands.a_is h in
    let m = alike a b y f.operands.b_is k f.operands.fits in
    let w : r.width.0 ≡ a.width.0 = ap (λ (w : Width). w.0) f.r_width in
    let e : (x + y) % 2 ^ a.width.0 ≡ (y + x) % 2 ^ a.width.0 = ap (λ n. n % 2 ^ a.width.0) (let d : x + y ≡ y + x = omega arith in d) in
    difference_back r a y a.width.0 ((y + x) % 2 ^ a.width.0) x w (subst (Held r) e t) h (mod_below (y + x) (2 ^ a.width.0) (pow_pos a.width.0)) l (sub_of_add y x (2 ^ a.width.0) m l)
table_holds Add (suc (suc k)) r a b c x y z f u t = absurd (omega (arith, f.place))
table_holds Sub zero r a b c x y z f u t =
    let h = held a x (u.first (lit< tt)) in
    let k = held b y (u.second (lit< tt)) in
    let l = held_below a x f.operands.a_is h in
    let m = alike a b y f.operands.b_is k f.operands.fits in
    let w : r.width.0 ≡ a.width.0 = ap (λ (w : Width). w.0) f.r_width in
    sum_back r b x a.width.0 ((x + 2 ^ a.width.0 - y) % 2 ^ a.width.0) y w t k (mod_below _ (2 ^ a.width.0) (pow_pos a.width.0)) m (add_of_sub x y (2 ^ a.width.0) l m)
table_holds Sub (suc zero) r a b c x y z f u t =
    let h = held a x (u.first (lit< tt)) in
    let k = held b y (u.second (lit< tt)) in
    let l = held_below a x f.operands.a_is h in
    let m = alike a b y f.operands.b_is k f.operands.fits in
    difference_back a r y a.width.0 x ((x + 2 ^ a.width.0 - y) % 2 ^ a.width.0) refl h t l (mod_below _ (2 ^ a.width.0) (pow_pos a.width.0)) (sub_of_sub x y (2 ^ a.width.0) l m)
table_holds Sub (suc (suc k)) r a b c x y z f u t = absurd (omega (arith, f.place))
table_holds (Slice hi lo) zero r a b c x y z f u t =
    let h = held a x (u.first (lit< tt)) in
    let o = leb-true _ _ (and_parts (leb lo hi) (ltb hi a.width.0) f.operands.fits).0 in
    slice_holds r a.width x hi lo o (held_below a x f.operands.a_is h) t
table_holds (Slice hi lo) (suc k) r a b c x y z f u t = absurd (omega (arith, f.place))
table_holds Concat zero r a b c x y z f u t =
    let k = held b y (u.second (lit< tt)) in
    high_holds r a.width x y b.width.0 (held_below b y f.operands.b_is k) t
table_holds Concat (suc zero) r a b c x y z f u t =
    let k = held b y (u.second (lit< tt)) in
    low_holds r b.width x y (held_below b y f.operands.b_is k) t
table_holds Concat (suc (suc k)) r a b c x y z f u t = absurd (omega (arith, f.place))
table_holds (SignExt to) zero r a b c x y z f u t = full_holds a.width x (held_below a x f.operands.a_is (held a x (u.first (lit< tt))))
table_holds (SignExt to) (suc k) r a b c x y z f u t = absurd (omega (arith, f.place))
table_holds (Shl by) zero r a b c x y z f u t = full_holds a.width x (held_below a x f.operands.a_is (held a x (u.first (lit< tt))))
table_holds (Shl by) (suc k) r a b c x y z f u t = absurd (omega (arith, f.place))
table_holds (Shr by) zero r a b c x y z f u t =
    let h = held a x (u.first (lit< tt)) in
    either_holds (leb r.hi (largest a.width / 2 ^ by)) _ (range_full a.width) x (λ _. spread_holds a.width r x by t) (λ _. full_holds a.width x (held_below a x f.operands.a_is h))
table_holds (Shr by) (suc k) r a b c x y z f u t = absurd (omega (arith, f.place))
table_holds Eq zero r a b c x y z f u t =
    let h = held a x (u.first (lit< tt)) in
    eq_holds r a b x y (held_below a x f.operands.a_is h) h (held b y (u.second (lit< tt))) t
table_holds Eq (suc zero) r a b c x y z f u t =
    let k = held b y (u.second (lit< tt)) in
    eq_holds r b a y x (held_below b y f.operands.b_is k) k (held a x (u.first (lit< tt))) (subst (λ v. Held r (cond v 1 0)) (eqb_turned x y) t)
table_holds Eq (suc (suc k)) r a b c x y z f u t = absurd (omega (arith, f.place))
table_holds Ltu zero r a b c x y z f u t =
    let h = held a x (u.first (lit< tt)) in
    ltu_first_holds r a b x y (held_below a x f.operands.a_is h) h (held b y (u.second (lit< tt))) t
table_holds Ltu (suc zero) r a b c x y z f u t =
    let k = held b y (u.second (lit< tt)) in
    ltu_second_holds r a b x y (held_below b y f.operands.b_is k) (held a x (u.first (lit< tt))) k t
table_holds Ltu (suc (suc k)) r a b c x y z f u t = absurd (omega (arith, f.place))
table_holds Ite zero r a b c x y z f u t =
    let h = held a x (u.first (lit< tt)) in
    let s = eqb-true _ _ (and_parts (eqb a.width.0 1) (eqb b.width.0 c.width.0) f.operands.fits).0 in
    test_holds r b c x y z (subst (λ w. x < 2 ^ w) s (held_below a x f.operands.a_is h)) (held b y (u.second (lit< tt))) (held c z (u.third (lit< tt))) t
table_holds Ite (suc zero) r a b c x y z f u t =
    second_holds a r b.width x y z (held_below b y f.operands.b_is (held b y (u.second (lit< tt)))) (held a x (u.first (lit< tt))) t
table_holds Ite (suc (suc k)) r a b c x y z f u t =
    third_holds a r c.width x y z (held_below c z f.operands.c_is (held c z (u.third (lit< tt)))) (held a x (u.first (lit< tt))) t
