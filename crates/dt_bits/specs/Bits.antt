-- Values of a width, and numbers as their bits.
use Rattle.std.specs.Prelude.{ℕ, zero, suc, ◌+◌, ◌<◌, ◌≤◌, ◌^◌, Bool, false, true, not, ◌&&◌, ◌||◌, ◌==◌, if◌then◌else◌}
use Rattle.std.specs.Int.{bit_at}
use Rattle.dt_bits.specs.declared.value.Width.{Width}
use Rattle.dt_bits.specs.declared.value.Bv.{Bv}

-- widths go from 1 to 128
abbrev pub IsWidth : ℕ → Type 0
IsWidth w = (1 ≤ w) × (w ≤ 128)

-- a number of its width
abbrev pub IsValue : Bv → Type 0
IsValue v = IsWidth v.width.0 × (v.bits < 2 ^ v.width.0)

abbrev pub width : ℕ → Width
width n = record { 0 = n }

-- bit i of x
unfoldable pub bit : ℕ → ℕ → Bool
bit x i = bit_at x i == 1

-- the number of w bits whose bit i is f i
unfoldable pub number_of : ℕ → (ℕ → Bool) → ℕ
number_of zero f = 0
number_of (suc w) f = number_of w f + (if f w then 2 ^ w else 0)

-- some index below w passes
unfoldable pub some_below : ℕ → (ℕ → Bool) → Bool
some_below zero f = false
some_below (suc w) f = f w || some_below w f

-- exactly one of two
abbrev pub differs : Bool → Bool → Bool
differs true q = not q
differs false q = q

-- at least two of three
abbrev pub majority : Bool → Bool → Bool → Bool
majority true q r = q || r
majority false q r = q && r

-- the carry into bit i of x + y, where c is carried into bit 0
unfoldable pub carry_at : Bool → ℕ → ℕ → ℕ → Bool
carry_at c x y zero = c
carry_at c x y (suc i) = majority (bit x i) (bit y i) (carry_at c x y i)
