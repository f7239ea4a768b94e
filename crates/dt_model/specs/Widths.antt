-- Widths of expressions, and their faults.
use Rattle.std.specs.Prelude.{◌≡◌, ℕ, ◌+◌, ◌^◌, Bool, false, not, ◌&&◌, ◌||◌, ◌==◌, nat_lt, nat_le, max, if◌then◌else◌, List, Option, Some, None, option_map, slice_get, length}
use Rattle.dt_bits.specs.declared.op.Op.{Op}
use Rattle.dt_bits.specs.declared.op.Op.TheVariants.{And, Or, Xor, Add, Sub, Slice, Concat, SignExt, Shl, Shr, Eq, Ltu, Ite}
use Rattle.std.specs.List.{AllByRecursion}
use Rattle.dt_bits.specs.Bits.{IsWidth}
use Rattle.dt_bits.specs.Ops.{fits_at, width_of, arity_of}
use Rattle.dt_model.specs.declared.model.Named.{Named}
use Rattle.dt_model.specs.ModelData.{Tree, value, reg, input, var, apply1, apply2, apply3}

-- what an expression may name
pub record Scope : Type 0 where
  pub regs : List Named
  pub inputs : List Named
  pub vars : List Named

abbrev pub is_width : ℕ → Bool
is_width w = nat_le 1 w && nat_le w 128

-- a constant fits its width
abbrev pub is_constant : ℕ → ℕ → Bool
is_constant w n = is_width w && nat_lt n (2 ^ w)

abbrev pub width_at : List Named → ℕ → Option ℕ
width_at names i = option_map (λ n. n.width) (slice_get names i)

-- the width of an operator's result, where its operands have widths that it fits
abbrev pub fitted : Op → Option ℕ → Option ℕ → Option ℕ → Option ℕ
fitted op (Some a) (Some b) (Some c) = if fits_at op a b c then Some (width_of op a b c) else None
fitted op _ _ _ = None

-- the width of an expression in which nothing is at fault
abbrev pub tree_width : Scope → Tree → Option ℕ
tree_width s (value w n) = if is_constant w n then Some w else None
tree_width s (reg i) = width_at s.regs i
tree_width s (input i) = width_at s.inputs i
tree_width s (var i) = width_at s.vars i
tree_width s (apply1 op a) = fitted op (tree_width s a) (Some 1) (Some 1)
tree_width s (apply2 op a b) = fitted op (tree_width s a) (tree_width s b) (Some 1)
tree_width s (apply3 op a b c) = fitted op (tree_width s a) (tree_width s b) (tree_width s c)

-- ---- faults of an operator at operands of these widths, or of a width that isn't known

abbrev pub differs : Option ℕ → Option ℕ → Bool
differs (Some a) (Some b) = not (a == b)
differs _ _ = false

abbrev pub is_below : Option ℕ → ℕ → Bool
is_below None n = false
is_below (Some w) n = nat_lt w n

abbrev pub is_above : Option ℕ → ℕ → Bool
is_above None n = false
is_above (Some w) n = nat_lt n w

abbrev pub too_wide : Option ℕ → Option ℕ → Bool
too_wide (Some a) (Some b) = nat_lt 128 (a + b)
too_wide _ _ = false

-- operands of other widths than are asked
abbrev pub mismatch : Op → Option ℕ → Option ℕ → Option ℕ → Bool
mismatch And a b c = differs a b
mismatch Or a b c = differs a b
mismatch Xor a b c = differs a b
mismatch Add a b c = differs a b
mismatch Sub a b c = differs a b
mismatch Eq a b c = differs a b
mismatch Ltu a b c = differs a b
mismatch Ite a b c = differs a (Some 1) || differs b c
mismatch _ a b c = false

-- a number of bits is out of its range
abbrev pub out_of_range : Op → Option ℕ → Option ℕ → Bool
out_of_range (Slice hi lo) a b = nat_lt hi lo || is_below a (hi + 1)
out_of_range Concat a b = too_wide a b
out_of_range (SignExt to) a b = nat_lt 128 to || is_above a to
out_of_range (Shl by) a b = is_below a (by + 1)
out_of_range (Shr by) a b = is_below a (by + 1)
out_of_range _ a b = false

-- ---- faults of an expression

-- some name is outside its list
abbrev pub has_unknown : Scope → Tree → Bool
has_unknown s (value w n) = false
has_unknown s (reg i) = nat_le (length s.regs) i
has_unknown s (input i) = nat_le (length s.inputs) i
has_unknown s (var i) = nat_le (length s.vars) i
has_unknown s (apply1 op a) = has_unknown s a
has_unknown s (apply2 op a b) = has_unknown s a || has_unknown s b
has_unknown s (apply3 op a b c) = has_unknown s a || (has_unknown s b || has_unknown s c)

-- some operator has operands of other widths than are asked
abbrev pub has_mismatch : Scope → Tree → Bool
has_mismatch s (apply1 op a) = mismatch op (tree_width s a) (Some 1) (Some 1) || has_mismatch s a
has_mismatch s (apply2 op a b) = mismatch op (tree_width s a) (tree_width s b) (Some 1) || (has_mismatch s a || has_mismatch s b)
has_mismatch s (apply3 op a b c) = mismatch op (tree_width s a) (tree_width s b) (tree_width s c) || (has_mismatch s a || (has_mismatch s b || has_mismatch s c))
has_mismatch s _ = false

-- some number of widths is out of its range
abbrev pub has_bad_range : Scope → Tree → Bool
has_bad_range s (value w n) = not (is_constant w n)
has_bad_range s (apply1 op a) = out_of_range op (tree_width s a) (Some 1) || has_bad_range s a
has_bad_range s (apply2 op a b) = out_of_range op (tree_width s a) (tree_width s b) || (has_bad_range s a || has_bad_range s b)
has_bad_range s (apply3 op a b c) = has_bad_range s a || (has_bad_range s b || has_bad_range s c)
has_bad_range s _ = false

-- the expression names the variable
abbrev pub uses : Tree → ℕ → Bool
uses (var i) v = i == v
uses (apply1 op a) v = uses a v
uses (apply2 op a b) v = uses a v || uses b v
uses (apply3 op a b c) v = uses a v || (uses b v || uses c v)
uses _ v = false

abbrev pub operators : Tree → ℕ
operators (apply1 op a) = operators a + 1
operators (apply2 op a b) = operators a + operators b + 1
operators (apply3 op a b c) = operators a + operators b + operators c + 1
operators _ = 0

-- the most operators on one way from the root
abbrev pub depth : Tree → ℕ
depth (apply1 op a) = depth a + 1
depth (apply2 op a b) = max (depth a) (depth b) + 1
depth (apply3 op a b c) = max (depth a) (max (depth b) (depth c)) + 1
depth _ = 0

-- each operator has as many operands as it takes
abbrev pub HasArities : Tree → Type 0
HasArities (apply1 op a) = (arity_of op ≡ 1) × HasArities a
HasArities (apply2 op a b) = (arity_of op ≡ 2) × HasArities a × HasArities b
HasArities (apply3 op a b c) = (arity_of op ≡ 3) × HasArities a × HasArities b × HasArities c
HasArities _ = Unit {0}

-- each name has a width of 1 to 128 bits
abbrev pub AreWidths : List Named → Type 0
AreWidths names = AllByRecursion (λ n. IsWidth n.width) names

abbrev pub IsWidthOrNone : Option ℕ → Type 0
IsWidthOrNone None = Unit {0}
IsWidthOrNone (Some w) = IsWidth w
