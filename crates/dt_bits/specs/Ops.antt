-- The table of operators: how many operands, where they fit, the result's width, and its value.
use Rattle.std.specs.Prelude.{ℕ, ◌+◌, ◌-◌, ◌*◌, ◌/◌, ◌%◌, ◌^◌, Bool, true, ◌==◌, ◌&&◌, ◌||◌, nat_lt, nat_le, if◌then◌else◌, Option, Some, None, bit_and, bit_or, bit_xor}
use Rattle.dt_bits.specs.Bits.{IsValue, width}
use Rattle.dt_bits.specs.declared.value.Width.{Width}
use Rattle.dt_bits.specs.declared.value.Bv.{Bv}
use Rattle.dt_bits.specs.declared.op.Op.{Op}
use Rattle.dt_bits.specs.declared.op.Op.TheVariants.{Const, Not, And, Or, Xor, Add, Sub, Slice, Concat, SignExt, Shl, Shr, Eq, Ltu, Ite}

-- how many operands the operator has
abbrev pub arity_of : Op → ℕ
arity_of (Const value) = 0
arity_of Not = 1
arity_of And = 2
arity_of Or = 2
arity_of Xor = 2
arity_of Add = 2
arity_of Sub = 2
arity_of (Slice hi lo) = 1
arity_of Concat = 2
arity_of (SignExt to) = 1
arity_of (Shl by) = 1
arity_of (Shr by) = 1
arity_of Eq = 2
arity_of Ltu = 2
arity_of Ite = 3

-- some operand that the operator has passes a test, where a, b and c say which of the three do
abbrev pub some_used : Op → Bool → Bool → Bool → Bool
some_used op a b c =
    nat_lt 0 (arity_of op) && a || (nat_lt 1 (arity_of op) && b || nat_lt 2 (arity_of op) && c)

-- where the operator fits operands of these widths; one that it doesn't have is ignored
abbrev pub fits_at : Op → ℕ → ℕ → ℕ → Bool
fits_at (Const value) a b c = true
fits_at Not a b c = true
fits_at And a b c = a == b
fits_at Or a b c = a == b
fits_at Xor a b c = a == b
fits_at Add a b c = a == b
fits_at Sub a b c = a == b
fits_at (Slice hi lo) a b c = nat_le lo hi && nat_lt hi a
fits_at Concat a b c = nat_le (a + b) 128
fits_at (SignExt to) a b c = nat_le a to && nat_le to 128
fits_at (Shl by) a b c = nat_lt by a
fits_at (Shr by) a b c = nat_lt by a
fits_at Eq a b c = a == b
fits_at Ltu a b c = a == b
fits_at Ite a b c = a == 1 && b == c

-- the result's width
abbrev pub width_of : Op → ℕ → ℕ → ℕ → ℕ
width_of (Const value) a b c = value.width.0
width_of Not a b c = a
width_of And a b c = a
width_of Or a b c = a
width_of Xor a b c = a
width_of Add a b c = a
width_of Sub a b c = a
width_of (Slice hi lo) a b c = hi - lo + 1
width_of Concat a b c = a + b
width_of (SignExt to) a b c = to
width_of (Shl by) a b c = a
width_of (Shr by) a b c = a
width_of Eq a b c = 1
width_of Ltu a b c = 1
width_of Ite a b c = b

-- the result's width, where the operator fits
abbrev pub fits_of : Op → ℕ → ℕ → ℕ → Option Width
fits_of op a b c = if fits_at op a b c then Some (width (width_of op a b c)) else None

-- the operator's value, as a formula over whole numbers; bit_and, bit_or and bit_xor go bit by bit,
-- and bit w - 1 of a number of w bits is 1 where the number is 2 ^ (w - 1) or more
abbrev pub value_of : Op → Bv → Bv → Bv → ℕ
value_of (Const value) a b c = value.bits
value_of Not a b c = 2 ^ a.width.0 - 1 - a.bits
value_of And a b c = bit_and a.bits b.bits
value_of Or a b c = bit_or a.bits b.bits
value_of Xor a b c = bit_xor a.bits b.bits
value_of Add a b c = (a.bits + b.bits) % 2 ^ a.width.0
value_of Sub a b c = (a.bits + 2 ^ a.width.0 - b.bits) % 2 ^ a.width.0
value_of (Slice hi lo) a b c = a.bits / 2 ^ lo % 2 ^ (hi - lo + 1)
value_of Concat a b c = a.bits * 2 ^ b.width.0 + b.bits
value_of (SignExt to) a b c =
    if nat_le (2 ^ (a.width.0 - 1)) a.bits then a.bits + (2 ^ to - 2 ^ a.width.0) else a.bits
value_of (Shl by) a b c = a.bits * 2 ^ by % 2 ^ a.width.0
value_of (Shr by) a b c = a.bits / 2 ^ by
value_of Eq a b c = if a.bits == b.bits then 1 else 0
value_of Ltu a b c = if nat_lt a.bits b.bits then 1 else 0
value_of Ite a b c = if a.bits == 1 then b.bits else c.bits

-- the operator's value with its width
abbrev pub applied : Op → Bv → Bv → Bv → Bv
applied op a b c =
    record { width = width (width_of op a.width.0 b.width.0 c.width.0); bits = value_of op a b c }

-- the value of a constant is a value
abbrev pub IsOp : Op → Type 0
IsOp (Const value) = IsValue value
IsOp _ = Unit {0}
