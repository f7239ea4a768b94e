-- What a Pair holds, its normal form, and the calls that make one.
use Rattle.std.specs.Prelude.{◌≡◌, ℕ, Bool, true, false, ◌≤◌, ◌&&◌, ◌||◌, nat_lt, if◌then◌else◌, Option, Some, bit_or}
use Rattle.dt_bits.specs.declared.op.Op.{Op}
use Rattle.dt_bits.specs.declared.value.Bv.{Bv}
use Rattle.dt_bits.specs.declared.value.Width.{Width}
use Rattle.dt_known.specs.declared.Known.{Known}
use Rattle.dt_known.specs.Known.{IsKnown, known_holds, nothing, known_full, known_one, known_meet, known_with_bit}
use Rattle.dt_known.specs.Forward.{known_forward}
use Rattle.dt_known.specs.Backward.{known_backward}
use Rattle.dt_range.specs.declared.Range.{Range}
use Rattle.dt_range.specs.Range.{IsRange, range_holds, range_is_empty, no_range, range_mask, range_value, range_full, range_one, range_meet}
use Rattle.dt_range.specs.Forward.{range_forward}
use Rattle.dt_range.specs.Backward.{range_backward}
use Rattle.dt_pair.specs.declared.Pair.{Pair}
use Rattle.dt_pair.specs.Ends.{least_from, greatest_from}

-- a Known and a Range, both valid, of one width
pub record AreParts (k : Known) (r : Range) : Type 0 where
  pub known : IsKnown k
  pub range : IsRange r
  pub widths : k.width ≡ r.width

-- the numbers that both parts hold
abbrev pub both_hold : Known → Range → ℕ → Bool
both_hold k r x = known_holds k x && range_holds r x

abbrev pub pair_holds : Pair → ℕ → Bool
pair_holds p x = both_hold p.known p.range x

-- ---- the normal form

-- the one that holds nothing: both parts are empty
abbrev pub no_pair : Width → Pair
no_pair w = record { known = nothing w; range = no_range w }

-- the known bits of k and, besides, those that the range knows
abbrev pub knowing : Known → Range → Known
knowing k r = record { mask = bit_or k.mask (range_mask r); value = bit_or k.value (range_value r); width = k.width; empty = false }

-- the least number of lo or more, and the greatest of hi or less, that has the known bits
abbrev pub least_of : Known → Range → Option ℕ
least_of k r = least_from k.width.0 k.mask k.value r.lo

abbrev pub greatest_of : Known → Range → Option ℕ
greatest_of k r = greatest_from k.width.0 k.mask k.value r.hi

-- the numbers from lo to hi
abbrev pub ends : Width → ℕ → ℕ → Range
ends w lo hi = record { lo = lo; hi = hi; width = w }

-- the Pair that holds numbers, of which lo is the least and hi the greatest
abbrev pub filled : Known → ℕ → ℕ → Pair
filled k lo hi = record { known = knowing k (ends k.width lo hi); range = ends k.width lo hi }

-- the Pair with these ends, and the one that holds nothing where a part is empty, where no end is found, or where
-- the least number that is found lies above the range
abbrev pub with_ends : Known → Range → Option ℕ → Option ℕ → Pair
with_ends k r (Some lo) (Some hi) =
    if k.empty || (range_is_empty r || nat_lt r.hi lo) then no_pair k.width
    else filled k lo hi
with_ends k r _ _ = no_pair k.width

-- both parts, each as narrow as the other makes it
unfoldable pub normal : Known → Range → Pair
normal k r = with_ends k r (least_of k r) (greatest_of k r)

-- both parts are domains of one width, in normal form
pub record IsPair (p : Pair) : Type 0 where
  pub known : IsKnown p.known
  pub range : IsRange p.range
  pub widths : p.known.width ≡ p.range.width
  pub normal : normal p.known p.range ≡ p

-- the ends of the range are the least and the greatest held number
pub record AreEnds (p : Pair) : Type 0 where
  pub low : pair_holds p p.range.lo ≡ true
  pub high : pair_holds p p.range.hi ≡ true
  pub between : (x : ℕ) → pair_holds p x ≡ true → (p.range.lo ≤ x) × (x ≤ p.range.hi)

-- two hold the same numbers
abbrev pub HoldSame : Pair → Pair → Type 0
HoldSame a b = (x : ℕ) → pair_holds a x ≡ pair_holds b x

-- each Pair in normal form that holds the same numbers as a, of its width, is a
abbrev pub IsCanonical : Pair → Type 0
IsCanonical a = (b : Pair) → IsPair b → b.known.width ≡ a.known.width → HoldSame b a → b ≡ a

-- ---- the calls that make one: part by part, and then normalised

abbrev pub pair_full : Width → Pair
pair_full w = record { known = known_full w; range = range_full w }

abbrev pub pair_one : Bv → Pair
pair_one v = record { known = known_one v; range = range_one v }

abbrev pub pair_meet : Pair → Pair → Pair
pair_meet a b = normal (known_meet a.known b.known) (range_meet a.range b.range)

-- the range stays as it is
abbrev pub pair_with_bit : Pair → ℕ → Bool → Pair
pair_with_bit a i v = normal (known_with_bit a.known i v) a.range

abbrev pub pair_forward : Op → Pair → Pair → Pair → Pair
pair_forward op a b c =
    normal (known_forward op a.known b.known c.known) (range_forward op a.range b.range c.range)

abbrev pub pair_backward : Op → ℕ → Pair → Pair → Pair → Pair → Pair
pair_backward op k r a b c =
    normal (known_backward op k r.known a.known b.known c.known) (range_backward op k r.range a.range b.range c.range)
