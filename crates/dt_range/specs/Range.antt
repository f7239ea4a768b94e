-- What a Range holds, which bits it knows, and the calls that make one.
use Rattle.std.specs.Prelude.{◌≡◌, ℕ, ◌-◌, ◌+◌, ◌*◌, ◌/◌, ◌^◌, ◌<◌, Bool, ◌&&◌, ◌==◌, nat_lt, nat_le, if◌then◌else◌, Option, Some, None, bit_and, min, max}
use Rattle.dt_bits.specs.Bits.{IsWidth, bit, number_of, differs}
use Rattle.dt_bits.specs.declared.value.Bv.{Bv}
use Rattle.dt_bits.specs.declared.value.Width.{Width}
use Rattle.dt_range.specs.declared.Range.{Range}

-- the ends lie within the width, and an empty one is 1 to 0
pub record IsRange (a : Range) : Type 0 where
  pub width : IsWidth a.width.0
  pub lo_fits : a.lo < 2 ^ a.width.0
  pub hi_fits : a.hi < 2 ^ a.width.0
  pub empty : a.hi < a.lo → (a.lo ≡ 1) × (a.hi ≡ 0)

-- the held numbers are those from lo to hi
abbrev pub range_holds : Range → ℕ → Bool
range_holds a x = nat_le a.lo x && nat_le x a.hi

abbrev pub range_is_empty : Range → Bool
range_is_empty a = nat_lt a.hi a.lo

-- one number is held
abbrev pub is_single : Range → Bool
is_single a = a.lo == a.hi

-- the one that holds nothing
abbrev pub no_range : Width → Range
no_range w = record { lo = 1; hi = 0; width = w }

-- the numbers from lo to hi, of which there may be none
abbrev pub range_between : Width → ℕ → ℕ → Range
range_between w lo hi = if nat_le lo hi then record { lo = lo; hi = hi; width = w } else no_range w

-- the largest number of a width
abbrev pub largest : Width → ℕ
largest w = 2 ^ w.0 - 1

-- ---- known bits

-- the numbers from lo to hi share bit i and all bits above it
abbrev pub shares_from : Range → ℕ → Bool
shares_from a i = a.lo / 2 ^ i == a.hi / 2 ^ i

-- the bits above the highest bit in which lo and hi differ; all where they are equal; none where it is empty
abbrev pub range_mask : Range → ℕ
range_mask a = if range_is_empty a then 0 else number_of a.width.0 (shares_from a)

-- their values, which are those in lo
abbrev pub range_value : Range → ℕ
range_value a = bit_and a.lo (range_mask a)

-- ---- the calls that make one

abbrev pub range_full : Width → Range
range_full w = record { lo = 0; hi = largest w; width = w }

abbrev pub range_one : Bv → Range
range_one v = record { lo = v.bits; hi = v.bits; width = v.width }

abbrev pub range_pick : Range → Option ℕ
range_pick a = if range_is_empty a then None else Some a.lo

-- the intersection
abbrev pub range_meet : Range → Range → Range
range_meet a b = range_between a.width (max a.lo b.lo) (min a.hi b.hi)

-- where bit i is the highest that isn't known, the least number whose bit i is 1
abbrev pub half_at : Range → ℕ → ℕ
half_at a i = a.hi / 2 ^ i * 2 ^ i

-- the half whose bit i is v, where i is the highest bit that isn't known
abbrev pub half : Range → ℕ → Bool → Range
half a i v = if v then range_between a.width (half_at a i) a.hi else range_between a.width a.lo (half_at a i - 1)

-- empty where bit i is known to be otherwise; the half with that bit where it is the highest that isn't known; else unchanged
abbrev pub range_with_bit : Range → ℕ → Bool → Range
range_with_bit a i v =
    if range_is_empty a then no_range a.width
    else (if shares_from a i then (if differs (bit a.lo i) v then no_range a.width else a)
    else (if shares_from a (i + 1) then half a i v else a))
