-- What a Known holds, what it knows of each bit, and the calls that make one.
use Rattle.std.specs.Prelude.{◌≡◌, ℕ, ◌-◌, ◌^◌, ◌<◌, Bool, true, false, not, ◌&&◌, ◌||◌, ◌==◌, nat_lt, if◌then◌else◌, Option, Some, None, is_some, bit_and}
use Rattle.dt_bits.specs.Bits.{IsWidth, bit, number_of, differs, some_below}
use Rattle.dt_bits.specs.declared.value.Bv.{Bv}
use Rattle.dt_bits.specs.declared.value.Width.{Width}
use Rattle.dt_known.specs.declared.Known.{Known}

-- value bits lie within the mask, the mask within the width, and an empty one has neither
pub record IsKnown (a : Known) : Type 0 where
  pub width : IsWidth a.width.0
  pub mask_fits : a.mask < 2 ^ a.width.0
  pub within : bit_and a.value a.mask ≡ a.value
  pub empty : a.empty ≡ true → (a.mask ≡ 0) × (a.value ≡ 0)

-- the held numbers are those that have the known bits; an empty one holds none
abbrev pub known_holds : Known → ℕ → Bool
known_holds a x = not a.empty && (nat_lt x (2 ^ a.width.0) && (bit_and x a.mask == a.value))

-- ---- a bit, as far as it is known

abbrev pub is_one : Option Bool → Bool
is_one None = false
is_one (Some b) = b

abbrev pub is_zero : Option Bool → Bool
is_zero None = false
is_zero (Some b) = not b

-- what is known of bit i
abbrev pub known_bit : Known → ℕ → Option Bool
known_bit a i = if bit a.mask i then Some (bit a.value i) else None

-- the Known that knows of each bit below w what f says
abbrev pub from_bits : Width → (ℕ → Option Bool) → Known
from_bits w f = record { mask = number_of w.0 (λ i. is_some (f i)); value = number_of w.0 (λ i. is_one (f i)); width = w; empty = false }

-- the one that holds nothing
abbrev pub nothing : Width → Known
nothing w = record { mask = 0; value = 0; width = w; empty = true }

-- all bits below w are known
abbrev pub all_known : ℕ → (ℕ → Option Bool) → Bool
all_known w f = not (some_below w (λ i. not (is_some (f i))))

-- both know the bit, with different values
abbrev pub clash : Option Bool → Option Bool → Bool
clash (Some p) (Some q) = differs p q
clash _ _ = false

-- some bit that is known in both differs
abbrev pub are_apart : Known → Known → Bool
are_apart a b = some_below a.width.0 (λ i. clash (known_bit a i) (known_bit b i))

-- a knows each bit that b knows, with the same value
pub record KnowsAllOf (a b : Known) : Type 0 where
  pub mask : bit_and a.mask b.mask ≡ b.mask
  pub value : bit_and a.value b.mask ≡ b.value

-- what either knows
abbrev pub either : Option Bool → Option Bool → Option Bool
either (Some p) q = Some p
either None q = q

-- ---- the calls that make one

abbrev pub known_full : Width → Known
known_full w = record { mask = 0; value = 0; width = w; empty = false }

abbrev pub known_one : Bv → Known
known_one v = record { mask = 2 ^ v.width.0 - 1; value = v.bits; width = v.width; empty = false }

-- the bits that either knows; empty where a bit known in both differs, or one is empty
abbrev pub known_meet : Known → Known → Known
known_meet a b =
    if a.empty || (b.empty || are_apart a b) then nothing a.width
    else from_bits a.width (λ i. either (known_bit a i) (known_bit b i))

-- the Known that knows bit i alone
abbrev pub single_bit : Width → ℕ → Bool → Known
single_bit w i v = from_bits w (λ j. if j == i then Some v else None)

-- the meet with that one bit
abbrev pub known_with_bit : Known → ℕ → Bool → Known
known_with_bit a i v = known_meet a (single_bit a.width i v)

abbrev pub known_pick : Known → Option ℕ
known_pick a = if a.empty then None else Some a.value
