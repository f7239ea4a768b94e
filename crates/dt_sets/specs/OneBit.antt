-- Steps between Triples of one bit: which of 0 and 1 each holds, and what an operator makes of them.
use Rattle.std.specs.Prelude.{Bool, true, false, not, ◌&&◌, ◌||◌, if◌then◌else◌, Option, Some, None, List, ℕ, [], ◌∷◌}
use Rattle.dt_bits.specs.Bits.{width}
use Rattle.dt_bits.specs.declared.op.Op.{Op}
use Rattle.dt_bits.specs.declared.op.Op.TheVariants.{Not, And, Or, Xor, Eq}
use Rattle.dt_sets.specs.declared.Triple.{Triple}
use Rattle.dt_sets.specs.declared.one_bit.Held.{Held}
use Rattle.dt_sets.specs.declared.one_bit.Table.{Table}
use Rattle.dt_sets.specs.Triple.{of_numbers}

-- the numbers of 0 and 1 that are held
abbrev pub bits_list : Bool → Bool → List ℕ
bits_list false false = []
bits_list true false = 0 ∷ []
bits_list false true = 1 ∷ []
bits_list true true = 0 ∷ 1 ∷ []

-- the Triple of one bit that holds these
abbrev pub of_bits : Held → Triple
of_bits h = of_numbers (width 1) (bits_list h.zero h.one)

abbrev pub held : Bool → Bool → Held
held z o = record { zero = z; one = o }

abbrev pub zero_alone : Held
zero_alone = held true false

abbrev pub holds_bit : Held → Bool → Bool
holds_bit h v = if v then h.one else h.zero

abbrev pub both_hold : Held → Held → Held
both_hold a b = record { zero = a.zero && b.zero; one = a.one && b.one }

abbrev table : Bool → Bool → Bool → Bool → Bool → Table
table p q r s t = record { at_00 = p; at_01 = q; at_10 = r; at_11 = s; has_second = t }

-- an operator's values on bits; one of one operand has them beside a 0
abbrev pub table_of : Op → Option Table
table_of Not = Some (table true true false false false)
table_of And = Some (table false false false true true)
table_of Or = Some (table false true true true true)
table_of Xor = Some (table false true true false true)
table_of Eq = Some (table true false false true true)
table_of _ = None

abbrev pub value_at : Table → Bool → Bool → Bool
value_at t x y = if x then (if y then t.at_11 else t.at_10) else (if y then t.at_01 else t.at_00)

abbrev pub is_value : Table → Bool → Bool → Bool → Bool
is_value t v x y = if v then value_at t x y else not (value_at t x y)

-- the value at x and y, which are held, is v
abbrev pub gives : Table → Held → Held → Bool → Bool → Bool → Bool
gives t a b v x y = (holds_bit a x && holds_bit b y) && is_value t v x y

abbrev pub some_gives : Table → Held → Held → Bool → Bool
some_gives t a b v = ((gives t a b v false false || gives t a b v false true) || gives t a b v true false) || gives t a b v true true

-- the values of what is held
abbrev pub bits_forward : Table → Held → Held → Held
bits_forward t a b = record { zero = some_gives t a b false; one = some_gives t a b true }

-- the value at x and y, of which y is held, is a held one
abbrev pub meets_at : Table → Held → Held → Bool → Bool → Bool
meets_at t r b x y = holds_bit b y && holds_bit r (value_at t x y)

-- what of the first operand has a partner
abbrev pub bits_first : Table → Held → Held → Held → Held
bits_first t r a b = record {
  zero = a.zero && (meets_at t r b false false || meets_at t r b false true);
  one = a.one && (meets_at t r b true false || meets_at t r b true true);
}

abbrev pub turned : Table → Table
turned t = table t.at_00 t.at_10 t.at_01 t.at_11 t.has_second

-- what of the second operand has one
abbrev pub bits_second : Table → Held → Held → Held → Held
bits_second t r a b = bits_first (turned t) r b a
