-- The least and the greatest number that has the known bits, from an end on. Numbers have w bits, and
-- the known bits are those at the mask m, with their values in v.
use Rattle.std.specs.Prelude.{◌≡◌, ℕ, zero, suc, ◌+◌, ◌-◌, ◌*◌, ◌/◌, ◌%◌, ◌^◌, ◌<◌, ◌≤◌, Bool, true, not, ◌&&◌, ◌==◌, if◌then◌else◌, Option, Some, None, min, max, bit_and}
use Rattle.dt_bits.specs.Bits.{bit}

-- x has the known bits
abbrev pub has_bits : ℕ → ℕ → ℕ → Bool
has_bits m v x = bit_and x m == v

-- bit i is known to be 0, or 1
abbrev pub is_known_zero : ℕ → ℕ → ℕ → Bool
is_known_zero m v i = bit m i && not (bit v i)

abbrev pub is_known_one : ℕ → ℕ → ℕ → Bool
is_known_one m v i = bit m i && bit v i

-- the bits of x above i agree with the known bits
abbrev pub agrees_above : ℕ → ℕ → ℕ → ℕ → Bool
agrees_above m v x i = has_bits (m / 2 ^ (i + 1)) (v / 2 ^ (i + 1)) (x / 2 ^ (i + 1))

-- ---- upward

-- there is a candidate at bit i, which is 0 in lo and isn't known 0, where the bits of lo above it agree with the known bits
abbrev pub is_candidate : ℕ → ℕ → ℕ → ℕ → Bool
is_candidate m v lo i = not (bit lo i) && (not (is_known_zero m v i) && agrees_above m v lo i)

-- the bits of lo above i, 1 at i, and below i the known bits, with 0 where a bit isn't known
abbrev pub candidate : ℕ → ℕ → ℕ → ℕ
candidate v lo i = lo / 2 ^ (i + 1) * 2 ^ (i + 1) + 2 ^ i + v % 2 ^ i

-- the less of two numbers, where there are two
abbrev pub lesser : Option ℕ → Option ℕ → Option ℕ
lesser None b = b
lesser (Some a) None = Some a
lesser (Some a) (Some b) = Some (min a b)

-- the least of the candidates at the bits below w
unfoldable pub least_candidate : ℕ → ℕ → ℕ → ℕ → Option ℕ
least_candidate zero m v lo = None
least_candidate (suc w) m v lo =
    lesser (least_candidate w m v lo) (if is_candidate m v lo w then Some (candidate v lo w) else None)

-- lo where it has the known bits, else the least candidate
abbrev pub least_from : ℕ → ℕ → ℕ → ℕ → Option ℕ
least_from w m v lo = if has_bits m v lo then Some lo else least_candidate w m v lo

-- ---- downward

-- there is a candidate at bit i, which is 1 in hi and isn't known 1, where the bits of hi above it agree with the known bits
abbrev pub is_high_candidate : ℕ → ℕ → ℕ → ℕ → Bool
is_high_candidate m v hi i = bit hi i && (not (is_known_one m v i) && agrees_above m v hi i)

-- the bits of hi above i, 0 at i, and below i the known bits, with 1 where a bit isn't known
abbrev pub high_candidate : ℕ → ℕ → ℕ → ℕ → ℕ
high_candidate m v hi i = hi / 2 ^ (i + 1) * 2 ^ (i + 1) + (v % 2 ^ i + (2 ^ i - 1 - m % 2 ^ i))

-- the greater of two numbers, where there are two
abbrev pub greater : Option ℕ → Option ℕ → Option ℕ
greater None b = b
greater (Some a) None = Some a
greater (Some a) (Some b) = Some (max a b)

-- the greatest of the candidates at the bits below w
unfoldable pub greatest_candidate : ℕ → ℕ → ℕ → ℕ → Option ℕ
greatest_candidate zero m v hi = None
greatest_candidate (suc w) m v hi =
    greater (greatest_candidate w m v hi) (if is_high_candidate m v hi w then Some (high_candidate m v hi w) else None)

-- hi where it has the known bits, else the greatest candidate
abbrev pub greatest_from : ℕ → ℕ → ℕ → ℕ → Option ℕ
greatest_from w m v hi = if has_bits m v hi then Some hi else greatest_candidate w m v hi

-- ---- what is meant

-- x is the least number of lo or more, below 2 ^ w, that has the known bits
pub record IsLeast (w m v lo x : ℕ) : Type 0 where
  pub beyond : lo ≤ x
  pub fits : x < 2 ^ w
  pub has : has_bits m v x ≡ true
  pub least : (y : ℕ) → lo ≤ y → y < 2 ^ w → has_bits m v y ≡ true → x ≤ y

-- what is found is the least such number, and none exactly where there is none
abbrev pub IsLeastFound : ℕ → ℕ → ℕ → ℕ → Option ℕ → Type 0
IsLeastFound w m v lo None = (y : ℕ) → lo ≤ y → y < 2 ^ w → has_bits m v y ≡ true → ⊥
IsLeastFound w m v lo (Some x) = IsLeast w m v lo x

-- x is the greatest number of hi or less that has the known bits
pub record IsGreatest (m v hi x : ℕ) : Type 0 where
  pub beyond : x ≤ hi
  pub has : has_bits m v x ≡ true
  pub greatest : (y : ℕ) → y ≤ hi → has_bits m v y ≡ true → y ≤ x

abbrev pub IsGreatestFound : ℕ → ℕ → ℕ → Option ℕ → Type 0
IsGreatestFound m v hi None = (y : ℕ) → y ≤ hi → has_bits m v y ≡ true → ⊥
IsGreatestFound m v hi (Some x) = IsGreatest m v hi x
