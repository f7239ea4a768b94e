-- The range of an operator's result, from the ranges of the operands.
use Rattle.std.specs.Prelude.{ℕ, ◌+◌, ◌-◌, ◌*◌, ◌/◌, ◌^◌, Bool, true, false, not, ◌&&◌, ◌||◌, ◌==◌, nat_lt, nat_le, if◌then◌else◌, min, max}
use Rattle.dt_bits.specs.Bits.{width}
use Rattle.dt_bits.specs.Ops.{arity_of, width_of, value_of, applied, some_used}
use Rattle.dt_bits.specs.declared.op.Op.{Op}
use Rattle.dt_bits.specs.declared.op.Op.TheVariants.{Not, And, Or, Add, Sub, Slice, Concat, SignExt, Shl, Shr, Eq, Ltu, Ite}
use Rattle.dt_bits.specs.declared.value.Bv.{Bv}
use Rattle.dt_bits.specs.declared.value.Width.{Width}
use Rattle.dt_range.specs.declared.Range.{Range}
use Rattle.dt_range.specs.Range.{is_single, range_is_empty, no_range, range_between, largest, range_full, range_one}

-- the ends as values
abbrev pub low_end : Range → Bv
low_end a = record { width = a.width; bits = a.lo }

abbrev pub high_end : Range → Bv
high_end a = record { width = a.width; bits = a.hi }

-- the width of the operator's result
abbrev pub width_after : Op → Range → Range → Range → Width
width_after op a b c = width (width_of op a.width.0 b.width.0 c.width.0)

-- the operator takes both ends to the ends of the result
abbrev pub both_ends : Op → Range → Range → Range → Range
both_ends op a b c =
    range_between (width_after op a b c)
    (value_of op (low_end a) (low_end b) (low_end c))
    (value_of op (high_end a) (high_end b) (high_end c))

-- what Not gives
abbrev pub not_range : Range → Range
not_range a = range_between a.width (largest a.width - a.hi) (largest a.width - a.lo)

-- what Add gives: the sums of the ends, where no sum wraps, and these less 2 ^ w, where each does
abbrev pub sum_range : Range → Range → Range
sum_range a b =
    if nat_le (a.hi + b.hi) (largest a.width) then range_between a.width (a.lo + b.lo) (a.hi + b.hi)
    else (if nat_lt (largest a.width) (a.lo + b.lo)
    then range_between a.width (a.lo + b.lo - 2 ^ a.width.0) (a.hi + b.hi - 2 ^ a.width.0)
    else range_full a.width)

-- what Sub gives: the differences of the opposite ends, where none wraps, and these plus 2 ^ w, where each does
abbrev pub difference_range : Range → Range → Range
difference_range a b =
    if nat_le b.hi a.lo then range_between a.width (a.lo - b.hi) (a.hi - b.lo)
    else (if nat_lt a.hi b.lo
    then range_between a.width (a.lo + 2 ^ a.width.0 - b.hi) (a.hi + 2 ^ a.width.0 - b.lo)
    else range_full a.width)

-- a bit that is known, as a range of width 1
abbrev pub flag : Bool → Range
flag v = range_one (record { width = width 1; bits = if v then 1 else 0 })

-- no number is in both
abbrev pub are_disjoint : Range → Range → Bool
are_disjoint a b = nat_lt a.hi b.lo || nat_lt b.hi a.lo

-- the least range that has both
abbrev pub range_hull : Range → Range → Range
range_hull a b = range_between a.width (min a.lo b.lo) (max a.hi b.hi)

-- the top bit of a number of a width
abbrev pub top_bit : Width → ℕ → ℕ
top_bit w x = x / 2 ^ (w.0 - 1)

-- the table, where no used operand is empty and some is no single value
abbrev pub forward_table : Op → Range → Range → Range → Range
forward_table Not a b c = not_range a
forward_table And a b c = range_between a.width 0 (min a.hi b.hi)
forward_table Or a b c = range_between a.width (max a.lo b.lo) (largest a.width)
forward_table Add a b c = sum_range a b
forward_table Sub a b c = difference_range a b
forward_table (Slice hi lo) a b c =
    if a.lo / 2 ^ (hi + 1) == a.hi / 2 ^ (hi + 1) then both_ends (Slice hi lo) a b c else range_full (width (hi - lo + 1))
forward_table Concat a b c = both_ends Concat a b c
forward_table (SignExt to) a b c =
    if top_bit a.width a.lo == top_bit a.width a.hi then both_ends (SignExt to) a b c else range_full (width to)
forward_table (Shl by) a b c =
    if nat_le (a.hi * 2 ^ by) (largest a.width) then both_ends (Shl by) a b c else range_full a.width
forward_table (Shr by) a b c = both_ends (Shr by) a b c
forward_table Eq a b c = if are_disjoint a b then flag false else range_full (width 1)
forward_table Ltu a b c = if nat_lt a.hi b.lo then flag true else (if nat_le b.hi a.lo then flag false else range_full (width 1))
forward_table Ite a b c = if is_single a then (if a.lo == 1 then b else c) else range_hull b c
forward_table op a b c = range_full (width_after op a b c)

-- the operand at place k is used
abbrev pub is_used : Op → ℕ → Bool
is_used op k = nat_lt k (arity_of op)

abbrev pub some_used_empty : Op → Range → Range → Range → Bool
some_used_empty op a b c = some_used op (range_is_empty a) (range_is_empty b) (range_is_empty c)

abbrev pub all_used_single : Op → Range → Range → Range → Bool
all_used_single op a b c =
    (not (is_used op 0) || is_single a) && ((not (is_used op 1) || is_single b) && (not (is_used op 2) || is_single c))

-- empty where a used operand is; the operator's value where all used ones are single values; else as the table says
abbrev pub range_forward : Op → Range → Range → Range → Range
range_forward op a b c =
    if some_used_empty op a b c then no_range (width_after op a b c)
    else (if all_used_single op a b c then range_one (applied op (low_end a) (low_end b) (low_end c))
    else forward_table op a b c)
