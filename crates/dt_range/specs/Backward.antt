-- The range of an operand, from the ranges of the result and of the operands.
use Rattle.std.specs.Prelude.{ℕ, zero, suc, ◌+◌, ◌-◌, ◌*◌, ◌/◌, ◌%◌, ◌^◌, Bool, true, false, ◌&&◌, ◌||◌, ◌==◌, nat_le, if◌then◌else◌}
use Rattle.dt_bits.specs.Bits.{width}
use Rattle.dt_bits.specs.declared.op.Op.{Op}
use Rattle.dt_bits.specs.declared.op.Op.TheVariants.{Not, And, Or, Add, Sub, Slice, Concat, Shr, Eq, Ltu, Ite}
use Rattle.dt_domain.specs.Domain.{operand}
use Rattle.dt_range.specs.declared.Range.{Range}
use Rattle.dt_range.specs.Range.{is_single, range_is_empty, no_range, range_between, largest, range_full, range_meet}
use Rattle.dt_range.specs.Forward.{not_range, sum_range, difference_range, flag, some_used_empty}

-- r is the single value n
abbrev pub is_value : Range → ℕ → Bool
is_value r n = r.lo == n && r.hi == n

-- a without c, where c is an end of it
abbrev pub without : Range → ℕ → Range
without a c =
    if a.lo == c then range_between a.width (c + 1) a.hi
    else (if a.hi == c then range_between a.width a.lo (c - 1) else range_full a.width)

-- an operand a of Eq, where d is the other one
abbrev pub eq_back : Range → Range → Range → Range
eq_back r a d =
    if is_value r 1 then d
    else (if is_value r 0 && is_single d then without a d.lo else range_full a.width)

-- the numbers below some held number of b
abbrev pub below_some : Range → Range
below_some b = if b.hi == 0 then no_range b.width else range_between b.width 0 (b.hi - 1)

-- the first operand of Ltu
abbrev pub ltu_first : Range → Range → Range → Range
ltu_first r a b =
    if is_value r 1 then below_some b
    else (if is_value r 0 then range_between a.width b.lo (largest a.width) else range_full a.width)

-- the second operand of Ltu
abbrev pub ltu_second : Range → Range → Range → Range
ltu_second r a b =
    if is_value r 1 then range_between b.width (a.lo + 1) (largest b.width)
    else (if is_value r 0 then range_between b.width 0 a.hi else range_full b.width)

-- no number is in both
abbrev pub are_apart : Range → Range → Bool
are_apart a b = range_is_empty (range_meet a b)

-- the test of Ite: 0 where the result can't be the second, 1 where it can't be the third, empty where it can be neither
abbrev pub test_back : Range → Range → Range → Range
test_back r b c =
    if are_apart r b then (if are_apart r c then no_range (width 1) else flag false)
    else (if are_apart r c then flag true else range_full (width 1))

-- the operand at place k, where the result is r and nothing used is empty
abbrev pub backward_table : Op → ℕ → Range → Range → Range → Range → Range
backward_table Not k r a b c = not_range r
backward_table And k r a b c = range_between r.width r.lo (largest r.width)
backward_table Or k r a b c = range_between r.width 0 r.hi
backward_table Add k r a b c = difference_range r (operand k b a a)
backward_table Sub zero r a b c = sum_range r b
backward_table Sub (suc k) r a b c = difference_range a r
backward_table (Slice hi lo) k r a b c =
    if hi + 1 == a.width.0 then range_between a.width (r.lo * 2 ^ lo) (r.hi * 2 ^ lo + 2 ^ lo - 1) else range_full a.width
backward_table Concat zero r a b c = range_between a.width (r.lo / 2 ^ b.width.0) (r.hi / 2 ^ b.width.0)
backward_table Concat (suc k) r a b c =
    if r.lo / 2 ^ b.width.0 == r.hi / 2 ^ b.width.0
    then range_between b.width (r.lo % 2 ^ b.width.0) (r.hi % 2 ^ b.width.0)
    else range_full b.width
backward_table (Shr by) k r a b c =
    if nat_le r.hi (largest a.width / 2 ^ by) then range_between a.width (r.lo * 2 ^ by) (r.hi * 2 ^ by + 2 ^ by - 1) else range_full a.width
backward_table Eq k r a b c = eq_back r (operand k a b b) (operand k b a a)
backward_table Ltu zero r a b c = ltu_first r a b
backward_table Ltu (suc k) r a b c = ltu_second r a b
backward_table Ite zero r a b c = test_back r b c
backward_table Ite (suc zero) r a b c = if is_value a 1 then r else range_full b.width
backward_table Ite (suc (suc k)) r a b c = if is_value a 0 then r else range_full c.width
backward_table op k r a b c = range_full (operand k a b c).width

-- empty where the result or a used operand is, and else as the operator's table says
abbrev pub range_backward : Op → ℕ → Range → Range → Range → Range → Range
range_backward op k r a b c =
    if range_is_empty r || some_used_empty op a b c then no_range (operand k a b c).width
    else backward_table op k r a b c
