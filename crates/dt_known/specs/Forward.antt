-- What is known of each bit of an operator's result, from what is known of the operands.
use Rattle.std.specs.Prelude.{ℕ, zero, suc, ◌-◌, ◌+◌, ◌^◌, Bool, true, false, not, ◌&&◌, ◌||◌, nat_lt, nat_le, if◌then◌else◌, Option, Some, None, min}
use Rattle.dt_bits.specs.Bits.{bit, width, differs, majority}
use Rattle.dt_bits.specs.Ops.{some_used, width_of}
use Rattle.dt_bits.specs.declared.op.Op.{Op}
use Rattle.dt_bits.specs.declared.op.Op.TheVariants.{Const, Not, And, Or, Xor, Add, Sub, Slice, Concat, SignExt, Shl, Shr, Eq, Ltu, Ite}
use Rattle.dt_bits.specs.declared.value.Width.{Width}
use Rattle.dt_known.specs.declared.Known.{Known}
use Rattle.dt_known.specs.Known.{is_one, is_zero, known_bit, from_bits, nothing, all_known, are_apart}

-- each known bit turned
abbrev pub not_bit : Option Bool → Option Bool
not_bit None = None
not_bit (Some p) = Some (not p)

-- 1 where both are known 1; 0 where one is known 0
abbrev pub and_bit : Option Bool → Option Bool → Option Bool
and_bit p q = if is_one p && is_one q then Some true else (if is_zero p || is_zero q then Some false else None)

-- 0 where both are known 0; 1 where one is known 1
abbrev pub or_bit : Option Bool → Option Bool → Option Bool
or_bit p q = if is_zero p && is_zero q then Some false else (if is_one p || is_one q then Some true else None)

-- known where both are known
abbrev pub xor_bit : Option Bool → Option Bool → Option Bool
xor_bit (Some p) (Some q) = Some (differs p q)
xor_bit _ _ = None

-- the sum of two bits and the carry into them, known where all three are
abbrev pub sum_bit : Option Bool → Option Bool → Option Bool → Option Bool
sum_bit p q r = xor_bit (xor_bit p q) r

-- the next carry: v where two of the three are known to be v
abbrev pub carry_bit : Option Bool → Option Bool → Option Bool → Option Bool
carry_bit p q r =
    if majority (is_one p) (is_one q) (is_one r) then Some true
    else (if majority (is_zero p) (is_zero q) (is_zero r) then Some false else None)

-- the carry into bit i, where c is carried into bit 0
unfoldable pub carry_into : Bool → (ℕ → Option Bool) → (ℕ → Option Bool) → ℕ → Option Bool
carry_into c f g zero = Some c
carry_into c f g (suc i) = carry_bit (f i) (g i) (carry_into c f g i)

-- bit i of the sum of f, g and a first carry
abbrev pub sum_at : Bool → (ℕ → Option Bool) → (ℕ → Option Bool) → ℕ → Option Bool
sum_at c f g i = sum_bit (f i) (g i) (carry_into c f g i)

-- bit i of the first less the second: the sum of the first and the Not of the second, with first carry 1
abbrev pub difference_at : (ℕ → Option Bool) → (ℕ → Option Bool) → ℕ → Option Bool
difference_at f g i = sum_at true f (λ j. not_bit (g j)) i

-- what both know, with one value
abbrev pub common : Option Bool → Option Bool → Option Bool
common (Some true) (Some true) = Some true
common (Some false) (Some false) = Some false
common _ _ = None

-- the second where the test is known 1, the third where it is known 0, else what both know
abbrev pub ite_bit : Option Bool → Option Bool → Option Bool → Option Bool
ite_bit (Some true) q r = q
ite_bit (Some false) q r = r
ite_bit None q r = common q r

-- 0 where a bit known in both differs; 1 where all bits of both are known and equal
abbrev pub eq_bit : Known → Known → Option Bool
eq_bit a b =
    if are_apart a b then Some false
    else (if all_known a.width.0 (known_bit a) && all_known b.width.0 (known_bit b) then Some true else None)

-- the least and the greatest number held
abbrev pub least : Known → ℕ
least a = a.value

abbrev pub greatest : Known → ℕ
greatest a = a.value + (2 ^ a.width.0 - 1 - a.mask)

-- 1 where all of the first are below all of the second; 0 where none is below any
abbrev pub ltu_bit : Known → Known → Option Bool
ltu_bit a b =
    if nat_lt (greatest a) (least b) then Some true
    else (if nat_le (greatest b) (least a) then Some false else None)

-- bit i of the operator's result, where no used operand is empty
abbrev pub forward_bit : Op → Known → Known → Known → ℕ → Option Bool
forward_bit (Const value) a b c i = Some (bit value.bits i)
forward_bit Not a b c i = not_bit (known_bit a i)
forward_bit And a b c i = and_bit (known_bit a i) (known_bit b i)
forward_bit Or a b c i = or_bit (known_bit a i) (known_bit b i)
forward_bit Xor a b c i = xor_bit (known_bit a i) (known_bit b i)
forward_bit Add a b c i = sum_at false (known_bit a) (known_bit b) i
forward_bit Sub a b c i = difference_at (known_bit a) (known_bit b) i
forward_bit (Slice hi lo) a b c i = known_bit a (lo + i)
forward_bit Concat a b c i = if nat_lt i b.width.0 then known_bit b i else known_bit a (i - b.width.0)
forward_bit (SignExt to) a b c i = known_bit a (min i (a.width.0 - 1))
forward_bit (Shl by) a b c i = if nat_lt i by then Some false else known_bit a (i - by)
forward_bit (Shr by) a b c i = if nat_lt (by + i) a.width.0 then known_bit a (by + i) else Some false
forward_bit Eq a b c i = eq_bit a b
forward_bit Ltu a b c i = ltu_bit a b
forward_bit Ite a b c i = ite_bit (known_bit a 0) (known_bit b i) (known_bit c i)

-- the width of the operator's result
abbrev pub width_after : Op → Known → Known → Known → Width
width_after op a b c = width (width_of op a.width.0 b.width.0 c.width.0)

-- an operand that is used is empty
abbrev pub some_used_empty : Op → Known → Known → Known → Bool
some_used_empty op a b c = some_used op a.empty b.empty c.empty

-- empty where a used operand is, and else what the operator's table says of each bit
abbrev pub known_forward : Op → Known → Known → Known → Known
known_forward op a b c =
    if some_used_empty op a b c then nothing (width_after op a b c)
    else from_bits (width_after op a b c) (forward_bit op a b c)
