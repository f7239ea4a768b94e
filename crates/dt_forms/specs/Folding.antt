-- Terms that are put behind others, where operators with constant operands are folded.
use Rattle.std.specs.Prelude.{ℕ, ◌-◌, ◌^◌, ◌==◌, ◌&&◌, nat_lt, if◌then◌else◌, Bool, true, false, List, length, Option, Some, None}
use Rattle.dt_bits.specs.Ops.{arity_of, applied}
use Rattle.dt_bits.specs.declared.op.Op.{Op}
use Rattle.dt_bits.specs.declared.op.Op.TheVariants.{Const, And, Or, Eq, Ltu}
use Rattle.dt_bits.specs.declared.value.Bv.{Bv}
use Rattle.dt_terms.specs.declared.term.Term.{Term}
use Rattle.dt_terms.specs.declared.term.Term.TheVariants.{Node}
use Rattle.dt_terms.specs.Terms.{term_at, bits_at}
use Rattle.dt_forms.specs.declared.folded.Folded.{Folded}
use Rattle.dt_forms.specs.declared.folded.Folded.TheVariants.{At, Value, New}
use Rattle.dt_forms.specs.Meaning.{flag}
use Rattle.dt_forms.specs.Placing.{Placed, placed_at, place, place_const}
use Rattle.dt_forms.specs.Forms.{Form, nothing, placed_by, Required, required_by}

-- ---- constants among terms

abbrev pub constant_of : Term → Option Bv
constant_of (Node (Const x) a b c w) = Some x
constant_of _ = None

-- the value of the constant at a position
abbrev pub constant_at : List Term → ℕ → Option Bv
constant_at terms t = constant_of (term_at terms t)

-- the operand at place k where it is a constant; one that the operator doesn't have counts as one
abbrev pub operand_at : List Term → Op → ℕ → ℕ → Option Bv
operand_at terms op k t = if nat_lt k (arity_of op) then constant_at terms t else Some nothing

-- ---- what the node of an operator comes to

-- all operands are constants
abbrev pub known : Op → Option Bv → Option Bv → Option Bv → Option Bv
known op (Some x) (Some y) (Some z) = Some (applied op x y z)
known op _ _ _ = None

abbrev pub is_zero : Bv → Bool
is_zero x = x.bits == 0

-- each bit is 1
abbrev pub is_ones : Bv → Bool
is_ones x = x.bits == 2 ^ x.width.0 - 1

-- the term at a with the constant x, which stands at b
abbrev pub with_constant : Op → ℕ → ℕ → Bv → Folded
with_constant And a b x = if is_zero x then At b else (if is_ones x then At a else New)
with_constant Or a b x = if is_zero x then At a else (if is_ones x then At b else New)
with_constant _ a b x = New

-- the second operand is the constant x: nothing is less than 0
abbrev pub with_second : Op → ℕ → ℕ → Bv → Folded
with_second Ltu a b x = if is_zero x then Value (flag false) else New
with_second op a b x = with_constant op a b x

-- the first operand is the constant x: it isn't less than anything where each bit is 1
abbrev pub with_first : Op → ℕ → ℕ → Bv → Folded
with_first Ltu a b x = if is_ones x then Value (flag false) else New
with_first op a b x = with_constant op b a x

-- both operands are one term
abbrev pub with_itself : Op → ℕ → Folded
with_itself And a = At a
with_itself Or a = At a
with_itself Eq a = Value (flag true)
with_itself Ltu a = Value (flag false)
with_itself _ a = New

-- the term is there, and has as many bits as the constant, as it has where the operator fits
abbrev pub is_beside : List Term → ℕ → Bv → Bool
is_beside terms t x = nat_lt t (length terms) && bits_at terms t == x.width.0

-- one of two operands is a constant, or they are one term
abbrev pub half_known : List Term → Op → ℕ → ℕ → Option Bv → Option Bv → Folded
half_known terms op a b None (Some x) = if is_beside terms a x then with_second op a b x else New
half_known terms op a b (Some x) None = if is_beside terms b x then with_first op a b x else New
half_known terms op a b _ _ = if a == b then with_itself op a else New

abbrev pub known_or : Option Bv → Folded → Folded
known_or (Some x) other = Value x
known_or None other = other

abbrev pub folded : List Term → Op → ℕ → ℕ → ℕ → Folded
folded terms op a b c =
    known_or (known op (operand_at terms op 0 a) (operand_at terms op 1 b) (operand_at terms op 2 c))
    (half_known terms op a b (constant_at terms a) (constant_at terms b))

-- ---- placing

abbrev pub placed_folded : List Term → Op → ℕ → ℕ → ℕ → Folded → Placed
placed_folded terms op a b c (At t) = placed_at terms t
placed_folded terms op a b c (Value x) = place_const terms x.width.0 x.bits
placed_folded terms op a b c New = place terms op a b c

-- where the operator's value stands over terms; a node is put behind them only where nothing is known of it
unfoldable pub fold : List Term → Op → ℕ → ℕ → ℕ → Placed
fold terms op a b c = placed_folded terms op a b c (folded terms op a b c)

-- where a claim stands, each part folded
abbrev pub claim_placed : List Term → Form → Placed
claim_placed terms f = placed_by fold terms f

-- each of the claims is put behind the terms in turn, and required
abbrev pub all_claimed : List Term → List Form → Required
all_claimed terms fs = required_by fold terms fs
