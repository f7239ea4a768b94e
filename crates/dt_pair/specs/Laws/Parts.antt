-- What holds of Pairs holds of their parts.
use Rattle.std.proofs.Common.{◌≡◌, ℕ, zero, suc, true, refl, sym, ap, ◌∙◌}
use Rattle.std.proofs.lemmas.Bool.{and_parts}
use Rattle.dt_bits.specs.Bits.{width}
use Rattle.dt_bits.specs.Ops.{fits_at, width_of, value_of}
use Rattle.dt_bits.specs.declared.op.Op.{Op}
use Rattle.dt_bits.specs.declared.value.Bv.{Bv}
use Rattle.dt_bits.specs.declared.value.Width.{Width}
use Rattle.dt_domain.specs.Domain.{Fitting, FittingAt, AreAlike, HoldUsed, value_at, operand, result_width}
use Rattle.dt_known.specs.Known.{known_holds}
use Rattle.dt_known.specs.Ops.{known_ops}
use Rattle.dt_range.specs.Range.{range_holds}
use Rattle.dt_range.specs.Ops.{range_ops}
use Rattle.dt_pair.specs.declared.Pair.{Pair}
use Rattle.dt_pair.specs.Pair.{IsPair, pair_holds}
use Rattle.dt_pair.specs.Ops.{pair_ops}
use Rattle.dt_pair.specs.Laws.Normal.{HoldBoth}

pub both_hold : (a : Pair) (x : ℕ) → pair_holds a x ≡ true → HoldBoth a.known a.range x
both_hold a x h = let p = and_parts (known_holds a.known x) (range_holds a.range x) h in record { known = p.0; range = p.1 }

-- ---- two of one width

pub alike_known : (a b : Pair) → AreAlike pair_ops a b → AreAlike known_ops a.known b.known
alike_known a b g = record { a_is = g.a_is.known; b_is = g.b_is.known; widths = g.widths }

pub alike_range : (a b : Pair) → AreAlike pair_ops a b → AreAlike range_ops a.range b.range
alike_range a b g = record { a_is = g.a_is.range; b_is = g.b_is.range; widths = sym g.a_is.widths ∙ g.widths ∙ g.b_is.widths }

-- ---- operands

pub fitting_known : (op : Op) (a b c : Pair) → Fitting pair_ops op a b c → Fitting known_ops op a.known b.known c.known
fitting_known op a b c f = record { op_is = f.op_is; a_is = f.a_is.known; b_is = f.b_is.known; c_is = f.c_is.known; fits = f.fits }

-- both parts have one width
abbrev bits_are : (a : Pair) → IsPair a → a.known.width.0 ≡ a.range.width.0
bits_are a p = ap (λ (w : Width). w.0) p.widths

fits_alike : (op : Op) (a b c d e f : ℕ) → a ≡ d → b ≡ e → c ≡ f → fits_at op a b c ≡ fits_at op d e f
fits_alike op a b c d e f p q r = ap (λ n. fits_at op n b c) p ∙ ap (λ n. fits_at op d n c) q ∙ ap (fits_at op d e) r

pub fitting_range : (op : Op) (a b c : Pair) → Fitting pair_ops op a b c → Fitting range_ops op a.range b.range c.range
fitting_range op a b c f = record {
  op_is = f.op_is;
  a_is = f.a_is.range;
  b_is = f.b_is.range;
  c_is = f.c_is.range;
  fits = sym (fits_alike op _ _ _ _ _ _ (bits_are a f.a_is) (bits_are b f.b_is) (bits_are c f.c_is)) ∙ f.fits;
}

width_alike : (op : Op) (a b c d e f : ℕ) → a ≡ d → b ≡ e → c ≡ f → width (width_of op a b c) ≡ width (width_of op d e f)
width_alike op a b c d e f p q r = ap (λ n. width (width_of op n b c)) p ∙ ap (λ n. width (width_of op d n c)) q ∙ ap (λ n. width (width_of op d e n)) r

pub result_alike : (op : Op) (a b c : Pair) → Fitting pair_ops op a b c → result_width known_ops op a.known b.known c.known ≡ result_width range_ops op a.range b.range c.range
result_alike op a b c f = width_alike op _ _ _ _ _ _ (bits_are a f.a_is) (bits_are b f.b_is) (bits_are c f.c_is)

-- a number as a value of a width
abbrev value : Width → ℕ → Bv
value w x = record { width = w; bits = x }

pub value_alike : (op : Op) (a b c : Pair) (x y z : ℕ) → Fitting pair_ops op a b c → value_at pair_ops op a b c x y z ≡ value_at range_ops op a.range b.range c.range x y z
value_alike op a b c x y z f =
    ap (λ (w : Width). value_of op (value w x) (value b.known.width y) (value c.known.width z)) f.a_is.widths
    ∙ ap (λ (w : Width). value_of op (value a.range.width x) (value w y) (value c.known.width z)) f.b_is.widths
    ∙ ap (λ (w : Width). value_of op (value a.range.width x) (value b.range.width y) (value w z)) f.c_is.widths

pub used_known : (op : Op) (a b c : Pair) (x y z : ℕ) → HoldUsed pair_ops op a b c x y z → HoldUsed known_ops op a.known b.known c.known x y z
used_known op a b c x y z u = record {
  first = λ l. (both_hold a x (u.first l)).known;
  second = λ l. (both_hold b y (u.second l)).known;
  third = λ l. (both_hold c z (u.third l)).known;
}

pub used_range : (op : Op) (a b c : Pair) (x y z : ℕ) → HoldUsed pair_ops op a b c x y z → HoldUsed range_ops op a.range b.range c.range x y z
used_range op a b c x y z u = record {
  first = λ l. (both_hold a x (u.first l)).range;
  second = λ l. (both_hold b y (u.second l)).range;
  third = λ l. (both_hold c z (u.third l)).range;
}

-- ---- an operand at a place

pub at_known : (op : Op) (k : ℕ) (r a b c : Pair) → FittingAt pair_ops op k r a b c → FittingAt known_ops op k r.known a.known b.known c.known
at_known op k r a b c f = record { operands = fitting_known op a b c f.operands; place = f.place; r_is = f.r_is.known; r_width = f.r_width }

pub at_range : (op : Op) (k : ℕ) (r a b c : Pair) → FittingAt pair_ops op k r a b c → FittingAt range_ops op k r.range a.range b.range c.range
at_range op k r a b c f = record {
  operands = fitting_range op a b c f.operands;
  place = f.place;
  r_is = f.r_is.range;
  r_width = sym f.r_is.widths ∙ f.r_width ∙ result_alike op a b c f.operands;
}

pub operand_known : (k : ℕ) (a b c : Pair) → (operand k a b c).known ≡ operand k a.known b.known c.known
operand_known zero a b c = refl
operand_known (suc zero) a b c = refl
operand_known (suc (suc k)) a b c = refl

pub operand_range : (k : ℕ) (a b c : Pair) → (operand k a b c).range ≡ operand k a.range b.range c.range
operand_range zero a b c = refl
operand_range (suc zero) a b c = refl
operand_range (suc (suc k)) a b c = refl

pub operand_is : (k : ℕ) (a b c : Pair) → IsPair a → IsPair b → IsPair c → IsPair (operand k a b c)
operand_is zero a b c p q r = p
operand_is (suc zero) a b c p q r = q
operand_is (suc (suc k)) a b c p q r = r
