-- What is known of each bit of an operand, from what is known of the result and of the operands.
use Rattle.std.specs.Prelude.{ℕ, zero, suc, ◌-◌, ◌+◌, Bool, true, false, not, ◌&&◌, ◌||◌, ◌==◌, nat_lt, nat_le, if◌then◌else◌, Option, Some, None, is_some}
use Rattle.dt_bits.specs.Bits.{some_below}
use Rattle.dt_bits.specs.declared.op.Op.{Op}
use Rattle.dt_bits.specs.declared.op.Op.TheVariants.{Not, And, Or, Xor, Add, Sub, Slice, Concat, SignExt, Shl, Shr, Eq, Ite}
use Rattle.dt_domain.specs.Domain.{operand}
use Rattle.dt_known.specs.declared.Known.{Known}
use Rattle.dt_known.specs.Known.{is_one, is_zero, known_bit, from_bits, nothing, all_known, are_apart}
use Rattle.dt_known.specs.Forward.{not_bit, xor_bit, sum_at, difference_at, some_used_empty}

-- 1 where the result is known 1; 0 where it is known 0 and the other operand is known 1
abbrev pub and_back : Option Bool → Option Bool → Option Bool
and_back r o = if is_one r then Some true else (if is_zero r && is_one o then Some false else None)

-- 0 where the result is known 0; 1 where it is known 1 and the other operand is known 0
abbrev pub or_back : Option Bool → Option Bool → Option Bool
or_back r o = if is_zero r then Some false else (if is_one r && is_zero o then Some true else None)

-- some bit of r from k on is known to be 1, or 0
abbrev pub some_one_from : ℕ → Known → Bool
some_one_from k r = some_below r.width.0 (λ i. nat_le k i && is_one (known_bit r i))

abbrev pub some_zero_from : ℕ → Known → Bool
some_zero_from k r = some_below r.width.0 (λ i. nat_le k i && is_zero (known_bit r i))

-- the value of the known bits of r from k on
abbrev pub top_bit : ℕ → Known → Option Bool
top_bit k r = if some_one_from k r then Some true else (if some_zero_from k r then Some false else None)

-- bit i is the only bit of a that isn't known
abbrev pub is_only_unknown : Known → ℕ → Bool
is_only_unknown a i = not (is_some (known_bit a i)) && not (some_below a.width.0 (λ j. not (j == i) && not (is_some (known_bit a j))))

-- bit i of a, which differs from d: where all of d is known, and of a all but this bit, which agree with d, it is d's bit turned
abbrev pub apart_bit : Known → Known → ℕ → Option Bool
apart_bit a d i =
    if all_known d.width.0 (known_bit d) && (not (are_apart a d) && is_only_unknown a i) then not_bit (known_bit d i) else None

-- bit i of an operand of Eq, where o is known of the result and d is the other operand
abbrev pub eq_back : Option Bool → Known → Known → ℕ → Option Bool
eq_back (Some true) a d i = known_bit d i
eq_back (Some false) a d i = apart_bit a d i
eq_back None a d i = None

-- all of both is known, and equal
abbrev pub are_same : Known → Known → Bool
are_same a d = all_known a.width.0 (known_bit a) && (all_known d.width.0 (known_bit d) && not (are_apart a d))

-- the result is known 0, but the operands are equal
abbrev pub eq_conflict : Option Bool → Known → Known → Bool
eq_conflict o a d = is_zero o && are_same a d

-- the test of Ite: known 0 where the result can't be the second, known 1 where it can't be the third
abbrev pub test_bit : Known → Known → Known → Option Bool
test_bit r b c = if are_apart r b then Some false else (if are_apart r c then Some true else None)

-- bit i of the operand at place k, where the result is r and nothing used is empty
abbrev pub backward_bit : Op → ℕ → Known → Known → Known → Known → ℕ → Option Bool
backward_bit Not k r a b c i = not_bit (known_bit r i)
backward_bit And k r a b c i = and_back (known_bit r i) (known_bit (operand k b a a) i)
backward_bit Or k r a b c i = or_back (known_bit r i) (known_bit (operand k b a a) i)
backward_bit Xor k r a b c i = xor_bit (known_bit r i) (known_bit (operand k b a a) i)
backward_bit Add k r a b c i = difference_at (known_bit r) (known_bit (operand k b a a)) i
backward_bit Sub zero r a b c i = sum_at false (known_bit r) (known_bit b) i
backward_bit Sub (suc k) r a b c i = difference_at (known_bit a) (known_bit r) i
backward_bit (Slice hi lo) k r a b c i = if nat_le lo i && nat_le i hi then known_bit r (i - lo) else None
backward_bit Concat zero r a b c i = known_bit r (b.width.0 + i)
backward_bit Concat (suc k) r a b c i = known_bit r i
backward_bit (SignExt to) k r a b c i = if i == a.width.0 - 1 then top_bit i r else known_bit r i
backward_bit (Shl by) k r a b c i = if nat_lt (by + i) a.width.0 then known_bit r (by + i) else None
backward_bit (Shr by) k r a b c i = if nat_le by i then known_bit r (i - by) else None
backward_bit Eq k r a b c i = eq_back (known_bit r 0) (operand k a b b) (operand k b a a) i
backward_bit Ite zero r a b c i = test_bit r b c
backward_bit Ite (suc zero) r a b c i = if is_one (known_bit a 0) then known_bit r i else None
backward_bit Ite (suc (suc k)) r a b c i = if is_zero (known_bit a 0) then known_bit r i else None
backward_bit _ k r a b c i = None

-- no operands give a number of r
abbrev pub has_conflict : Op → ℕ → Known → Known → Known → Known → Bool
has_conflict (SignExt to) k r a b c = some_one_from (a.width.0 - 1) r && some_zero_from (a.width.0 - 1) r
has_conflict Eq k r a b c = eq_conflict (known_bit r 0) (operand k a b b) (operand k b a a)
has_conflict Ite zero r a b c = are_apart r b && are_apart r c
has_conflict _ k r a b c = false

-- empty where the result or a used operand is, or where they conflict, and else what the operator's table says of each bit
abbrev pub known_backward : Op → ℕ → Known → Known → Known → Known → Known
known_backward op k r a b c =
    if r.empty || (some_used_empty op a b c || has_conflict op k r a b c) then nothing (operand k a b c).width
    else from_bits (operand k a b c).width (backward_bit op k r a b c)
