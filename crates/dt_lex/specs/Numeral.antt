-- Numbers below 2 ^ 128: decimal digits, or hexadecimal ones of either case behind 0x.
use Rattle.std.specs.Prelude.{ℕ, ◌==◌, ◌^◌, Bool, ◌&&◌, nat_lt, List, [], ◌∷◌, length, map, drop, slice_index, Option, Some, None, if◌then◌else◌}
use Rattle.std.specs.List.{list_all}
use Rattle.std.specs.Char.{digit_value, digit_char}
use Rattle.std.specs.Str.Parse.{digits_value}
use Rattle.std.specs.Int.Digits.{digits_of}

abbrev pub all_digits : ℕ → List ℕ → Bool
all_digits base ds = list_all (λ c. nat_lt (digit_value c) base) ds

-- at least one digit, below 2 ^ 128
unfoldable pub digits_read : ℕ → List ℕ → Option ℕ
digits_read base ds = if nat_lt 0 (length ds) && all_digits base ds && nat_lt (digits_value base ds) (2 ^ 128) then Some (digits_value base ds) else None

-- the bytes begin with 0x
abbrev pub is_hex : List ℕ → Bool
is_hex bs = (slice_index bs 0 == 48) && (slice_index bs 1 == 120)

-- the number that the bytes spell
unfoldable pub number_of : List ℕ → Option ℕ
number_of bs = if is_hex bs then digits_read 16 (drop 2 bs) else digits_read 10 bs

-- the digits without leading zeros, and one for zero
unfoldable pub numeral : ℕ → ℕ → List ℕ
numeral base n = if n == 0 then 48 ∷ [] else map digit_char (digits_of base n)

abbrev pub decimal : ℕ → List ℕ
decimal n = numeral 10 n

abbrev pub hex : ℕ → List ℕ
hex n = 48 ∷ 120 ∷ numeral 16 n
