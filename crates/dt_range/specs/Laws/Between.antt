-- What a range between two ends holds, and that it is valid.
use Rattle.std.proofs.Common.{◌≡◌, ℕ, ◌^◌, ◌<◌, ◌≤◌, Bool, true, false, cond, leb, refl, arith, lit<, lit≤}
use Rattle.std.proofs.lemmas.Bool.{cond_both, and_parts, and_from, leb-true, leb-false, le-leb, le-ltb}
use Rattle.std.proofs.lemmas.Nat.{pow_pos}
use Rattle.dt_lemmas.proofs.Powers.{one_below}
use Rattle.dt_bits.specs.Bits.{IsWidth, IsValue, width}
use Rattle.dt_bits.specs.declared.value.Bv.{Bv}
use Rattle.dt_bits.specs.declared.value.Width.{Width}
use Rattle.dt_range.specs.declared.Range.{Range}
use Rattle.dt_range.specs.Range.{IsRange, range_holds, range_is_empty, no_range, range_between, range_full, range_one}
use Rattle.dt_range.specs.Forward.{flag}

-- what it means that a holds x
pub record Held (a : Range) (x : ℕ) : Type 0 where
  pub above : a.lo ≤ x
  pub below : x ≤ a.hi

pub held : (a : Range) (x : ℕ) → range_holds a x ≡ true → Held a x
held a x h = let p = and_parts (leb a.lo x) (leb x a.hi) h in record { above = leb-true _ _ p.0; below = leb-true _ _ p.1 }

pub held_is : (a : Range) (x : ℕ) → a.lo ≤ x → x ≤ a.hi → range_holds a x ≡ true
held_is a x l h = and_from (leb a.lo x) (leb x a.hi) (le-leb _ _ l) (le-leb _ _ h)

-- a range that holds a number isn't empty
pub held_full : (a : Range) (x : ℕ) → Held a x → range_is_empty a ≡ false
held_full a x h = le-ltb a.hi a.lo (omega (arith, h.above, h.below))

pub held_below : (a : Range) (x : ℕ) → IsRange a → Held a x → x < 2 ^ a.width.0
held_below a x p h = omega (arith, p.hi_fits, h.below)

pub between_holds : (w : Width) (lo hi x : ℕ) → lo ≤ x → x ≤ hi → range_holds (range_between w lo hi) x ≡ true
between_holds w lo hi x l h =
    let r : Range = record { lo = lo; hi = hi; width = w } in
    cond_both (leb lo hi) r (no_range w) (λ k. range_holds k x ≡ true)
    (λ _. held_is r x l h)
    (λ e. let n = leb-false _ _ e in absurd (omega arith))

pub full_holds : (w : Width) (x : ℕ) → x < 2 ^ w.0 → range_holds (range_full w) x ≡ true
full_holds w x h = held_is (range_full w) x (omega arith) (omega arith)

pub one_holds_it : (v : Bv) → range_holds (range_one v) v.bits ≡ true
one_holds_it v = held_is (range_one v) v.bits (omega arith) (omega arith)

pub one_of_holds : (v : Bv) (x : ℕ) → x ≡ v.bits → range_holds (range_one v) x ≡ true
one_of_holds v x e = held_is (range_one v) x (omega arith) (omega arith)

pub either_holds : (b : Bool) (r s : Range) (x : ℕ) → (b ≡ true → range_holds r x ≡ true) → (b ≡ false → range_holds s x ≡ true) → range_holds (cond b r s) x ≡ true
either_holds b r s x h k = cond_both b r s (λ k. range_holds k x ≡ true) h k

-- ---- validity

-- a range of this width
abbrev pub IsOf : Width → Range → Type 0
IsOf w r = IsRange r × (r.width ≡ w)

pub either_is : (b : Bool) (w : Width) (r s : Range) → (b ≡ true → IsOf w r) → (b ≡ false → IsOf w s) → IsOf w (cond b r s)
either_is b w r s h k = cond_both b r s (IsOf w) h k

pub no_range_is : (w : Width) → IsWidth w.0 → IsOf w (no_range w)
no_range_is w h = (record { width = h; lo_fits = one_below w.0 h.0; hi_fits = pow_pos w.0; empty = λ _. (refl, refl) }, refl)

pub between_is : (w : Width) (lo hi : ℕ) → IsWidth w.0 → hi < 2 ^ w.0 → IsOf w (range_between w lo hi)
between_is w lo hi h l = cond_both (leb lo hi) (let r : Range = record { lo = lo; hi = hi; width = w } in r) (no_range w) (IsOf w)
    (λ e. let s = leb-true _ _ e in (record { width = h; lo_fits = omega arith; hi_fits = l; empty = λ n. absurd (omega arith) }, refl))
    (λ _. no_range_is w h)

pub full_is : (w : Width) → IsWidth w.0 → IsOf w (range_full w)
full_is w h = (record { width = h; lo_fits = pow_pos w.0; hi_fits = omega (arith, pow_pos w.0); empty = λ n. absurd (omega arith) }, refl)

pub one_is : (v : Bv) → IsValue v → IsOf v.width (range_one v)
one_is v h = (record { width = h.0; lo_fits = h.1; hi_fits = h.1; empty = λ n. absurd (omega arith) }, refl)

pub bit_width : IsWidth 1
bit_width = (lit≤ tt, lit≤ tt)

pub flag_is : (v : Bool) → IsOf (width 1) (flag v)
flag_is true = one_is (record { width = width 1; bits = 1 }) (bit_width, lit< tt)
flag_is false = one_is (record { width = width 1; bits = 0 }) (bit_width, lit< tt)

pub flag_holds : (v : Bool) → range_holds (flag v) (cond v 1 0) ≡ true
flag_holds v = one_holds_it (record { width = width 1; bits = cond v 1 0 })
