-- What a meet holds and knows, and what is left where a bit is set.
use Rattle.std.proofs.Common.{◌≡◌, ℕ, ◌+◌, ◌-◌, ◌*◌, ◌/◌, ◌%◌, ◌^◌, ◌<◌, ◌≤◌, Bool, true, false, ◌&&◌, cond, leb, refl, sym, ap, ◌∙◌, subst, ◌⊎◌, ⊎_elim, min, max, arith}
use Rattle.std.specs.Cmp.{both_ways}
use Rattle.std.proofs.lemmas.Bool.{and_parts, and_from, cases_lt, cond_both, cond-true, eqb-true, eqb-false, eq-eqb, ltb-true, le-ltb, leb-true, false≢true}
use Rattle.std.proofs.lemmas.Nat.{pow_pos}
use Rattle.std.proofs.Math.Nat.{div-mul-le_self, lt-div-mul-add, mul-le-mul_right}
use Rattle.dt_lemmas.proofs.Powers.{quotient_le, quotient_between, halved}
use Rattle.dt_bits.specs.Bits.{bit, differs}
use Rattle.dt_bits.specs.declared.value.Width.{Width}
use Rattle.dt_bits.proofs.BitLemmas.{at_bit, same_bit}
use Rattle.dt_domain.specs.Domain.{AreAlike, KnowsBit}
use Rattle.dt_range.specs.declared.Range.{Range}
use Rattle.dt_range.specs.Range.{IsRange, range_holds, range_is_empty, no_range, range_between, range_meet, shares_from, half_at, half, range_with_bit}
use Rattle.dt_range.specs.Ops.{range_ops}
use Rattle.dt_range.specs.Laws.Between.{Held, held, held_is, held_full, between_holds, between_is, no_range_is, either_holds, either_is, IsOf}
use Rattle.dt_range.specs.Laws.KnownBits.{Knows, knows, knows_bit, held_shares}

pub meet_is : (a b : Range) → AreAlike range_ops a b → IsOf a.width (range_meet a b)
meet_is a b g = between_is a.width (max a.lo b.lo) (min a.hi b.hi) g.a_is.width (omega (arith, g.a_is.hi_fits))

pub meet_holds : (a b : Range) (x : ℕ) → Held a x → Held b x → range_holds (range_meet a b) x ≡ true
meet_holds a b x h k = between_holds a.width (max a.lo b.lo) (min a.hi b.hi) x (omega (arith, h.above, k.above)) (omega (arith, h.below, k.below))

-- what a meet holds, both hold
meet_held : (a b : Range) (x : ℕ) → range_holds (range_meet a b) x ≡ true → (range_holds a x && range_holds b x) ≡ true
meet_held a b x h =
    let f : ℕ → ℕ → Range = λ lo hi. record { lo = lo; hi = hi; width = a.width } in
    cond_both (leb (max a.lo b.lo) (min a.hi b.hi)) (f (max a.lo b.lo) (min a.hi b.hi)) (no_range a.width)
    (λ r. range_holds r x ≡ true → (range_holds a x && range_holds b x) ≡ true)
    (λ e t. let k = held (f (max a.lo b.lo) (min a.hi b.hi)) x t in
    let p : max a.lo b.lo ≤ x = k.above in
    let q : x ≤ min a.hi b.hi = k.below in
    and_from (range_holds a x) (range_holds b x) (held_is a x (omega arith) (omega arith)) (held_is b x (omega arith) (omega arith)))
    (λ e t. let k = held (no_range a.width) x t in let p : 1 ≤ x = k.above in let q : x ≤ 0 = k.below in absurd (omega arith))
    h

-- it holds exactly the numbers that both hold
pub meets : (a b : Range) (x : ℕ) → range_holds (range_meet a b) x ≡ (range_holds a x && range_holds b x)
meets a b x = both_ways (range_holds (range_meet a b) x) (range_holds a x && range_holds b x)
    (λ t. meet_held a b x t)
    (λ t. let p = and_parts (range_holds a x) (range_holds b x) t in meet_holds a b x (held a x p.0) (held b x p.1))

-- a range between ends that cross is empty
crossed : (w : Width) (lo hi : ℕ) → hi < lo → range_is_empty (range_between w lo hi) ≡ true
crossed w lo hi h = cond_both (leb lo hi) (let r : Range = record { lo = lo; hi = hi; width = w } in r) (no_range w) (λ r. range_is_empty r ≡ true)
    (λ e. let l = leb-true _ _ e in absurd (omega arith)) (λ _. refl)

pub meet_empty : (a b : Range) → IsRange a → IsRange b → (range_is_empty a ≡ true) ⊎ (range_is_empty b ≡ true) → range_is_empty (range_meet a b) ≡ true
meet_empty a b p q s = crossed a.width (max a.lo b.lo) (min a.hi b.hi) (⊎_elim
    (λ (e : range_is_empty a ≡ true). let l = ltb-true _ _ e in omega arith)
    (λ (e : range_is_empty b ≡ true). let l = ltb-true _ _ e in omega arith)
    s)

-- ---- a meet that isn't empty

record Met (a b : Range) : Type 0 where
  is : (let r : Range = record { lo = max a.lo b.lo; hi = min a.hi b.hi; width = a.width } in range_meet a b ≡ r)
  order : max a.lo b.lo ≤ min a.hi b.hi

met : (a b : Range) → range_is_empty (range_meet a b) ≡ false → Met a b
met a b e =
    let order : max a.lo b.lo ≤ min a.hi b.hi = ⊎_elim
    (λ (l : min a.hi b.hi < max a.lo b.lo). absurd (false≢true (sym e ∙ crossed a.width (max a.lo b.lo) (min a.hi b.hi) l)))
    (λ (l : max a.lo b.lo ≤ min a.hi b.hi). l)
    (cases_lt (min a.hi b.hi) (max a.lo b.lo)) in
    record {
      is = cond-true (leb (max a.lo b.lo) (min a.hi b.hi)) _ (no_range a.width) (le_leb order);
      order = order;
    }
  where
    le_leb : {m n : ℕ} → m ≤ n → leb m n ≡ true
    le_leb h = grind arith

-- a range within another knows the bits that it knows
within_knows : (a r : Range) (i : ℕ) (v : Bool) → a.width.0 ≡ r.width.0 → a.lo ≤ r.lo → r.lo ≤ r.hi → r.hi ≤ a.hi → Knows a i v → Knows r i v
within_knows a r i v w l m h k =
    let e = eqb-true _ _ k.shares in
    let s = quotient_between a.lo r.lo a.hi i l (omega arith) e in
    let t = quotient_between a.lo r.hi a.hi i (omega arith) h e in
    record {
      full = le-ltb r.hi r.lo m;
      below = subst (λ n. i < n) w k.below;
      shares = eq-eqb _ _ (s ∙ sym t);
      is = same_bit r.lo a.lo i s ∙ k.is;
    }

pub meet_knows : (a b : Range) (i : ℕ) (v : Bool) → AreAlike range_ops a b → range_is_empty (range_meet a b) ≡ false
    → KnowsBit range_ops a i v ⊎ KnowsBit range_ops b i v → KnowsBit range_ops (range_meet a b) i v
meet_knows a b i v g e s =
    let m = met a b e in
    let o = m.order in
    let r : Range = record { lo = max a.lo b.lo; hi = min a.hi b.hi; width = a.width } in
    subst (λ k. KnowsBit range_ops k i v) (sym m.is) (knows_bit r i v (⊎_elim
    (λ (k : KnowsBit range_ops a i v). within_knows a r i v refl (omega arith) o (omega arith) (knows a i v k))
    (λ (k : KnowsBit range_ops b i v). within_knows b r i v (ap (λ (w : Width). w.0) (sym g.widths)) (omega arith) o (omega arith) (knows b i v k))
    s))

-- ---- a bit that is set

bit_is_odd : (x i : ℕ) → x / 2 ^ i % 2 ≡ cond (bit x i) 1 0
bit_is_odd x i = at_bit x i

-- a number between the ends lies in the half of its bit
in_half : (a : Range) (i x : ℕ) (v : Bool) → a.lo ≤ x → x ≤ a.hi → (a.lo / 2 ^ i ≡ a.hi / 2 ^ i → ⊥) → a.lo / 2 ^ (i + 1) ≡ a.hi / 2 ^ (i + 1)
    → x / 2 ^ i % 2 ≡ cond v 1 0 → range_holds (half a i v) x ≡ true
in_half a i x true l h ne e b =
    let p = halved a.lo i in
    let q = halved a.hi i in
    let r = halved x i in
    let s = quotient_between a.lo x a.hi (i + 1) l h e in
    let t = quotient_le a.lo a.hi i (omega arith) in
    let d : x / 2 ^ i ≡ a.hi / 2 ^ i = omega arith in
    let m : x / 2 ^ i * 2 ^ i ≡ a.hi / 2 ^ i * 2 ^ i = ap (λ n. n * 2 ^ i) d in
    between_holds a.width (half_at a i) a.hi x (omega (arith, div-mul-le_self x (2 ^ i))) h
in_half a i x false l h ne e b =
    let p = halved a.lo i in
    let q = halved a.hi i in
    let r = halved x i in
    let s = quotient_between a.lo x a.hi (i + 1) l h e in
    let t = quotient_le a.lo a.hi i (omega arith) in
    let d : x / 2 ^ i + 1 ≤ a.hi / 2 ^ i = omega arith in
    let m : (x / 2 ^ i + 1) * 2 ^ i ≤ a.hi / 2 ^ i * 2 ^ i = mul-le-mul_right (2 ^ i) d in
    let u : x < x / 2 ^ i * 2 ^ i + 2 ^ i = lt-div-mul-add (pow_pos i) in
    between_holds a.width a.lo (half_at a i - 1) x l (omega arith)

same_differs : (p q : Bool) → p ≡ q → differs p q ≡ true → ⊥
same_differs p q e d = grind arith

pub with_bit_holds : (a : Range) (i : ℕ) (v : Bool) (x : ℕ) → bit x i ≡ v → Held a x → range_holds (range_with_bit a i v) x ≡ true
with_bit_holds a i v x e h =
    let here = held_is a x h.above h.below in
    either_holds (range_is_empty a) (no_range a.width) _ x
    (λ t. absurd (false≢true (sym (held_full a x h) ∙ t)))
    (λ _. either_holds (shares_from a i) _ _ x
    (λ t. either_holds (differs (bit a.lo i) v) (no_range a.width) a x
    (λ d. absurd (same_differs (bit a.lo i) v (sym (same_bit x a.lo i (held_shares a x i h t)) ∙ e) d))
    (λ _. here))
    (λ t. either_holds (shares_from a (i + 1)) (half a i v) a x
    (λ u. in_half a i x v h.above h.below (eqb-false _ _ t) (eqb-true _ _ u) (bit_is_odd x i ∙ ap (λ b. cond b 1 0) e))
    (λ _. here)))

half_is : (a : Range) (i : ℕ) (v : Bool) → IsRange a → IsOf a.width (half a i v)
half_is a i true p = between_is a.width (half_at a i) a.hi p.width p.hi_fits
half_is a i false p = between_is a.width a.lo (half_at a i - 1) p.width (omega (arith, p.hi_fits, div-mul-le_self a.hi (2 ^ i)))

pub with_bit_is : (a : Range) (i : ℕ) (v : Bool) → IsRange a → IsOf a.width (range_with_bit a i v)
with_bit_is a i v p =
    let none = no_range_is a.width p.width in
    either_is (range_is_empty a) a.width (no_range a.width) _ (λ _. none)
    (λ _. either_is (shares_from a i) a.width _ _
    (λ _. either_is (differs (bit a.lo i) v) a.width (no_range a.width) a (λ _. none) (λ _. (p, refl)))
    (λ _. either_is (shares_from a (i + 1)) a.width (half a i v) a (λ _. half_is a i v p) (λ _. (p, refl))))
