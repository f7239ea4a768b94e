-- Widths of operators that fit.
use Rattle.std.proofs.Common.{◌≡◌, ℕ, Bool, true, false, cond, Option, Some, None, refl}
use Rattle.dt_bits.specs.Ops.{width_of, fits_at}
use Rattle.dt_bits.specs.declared.op.Op.{Op}
use Rattle.dt_model.specs.Widths.{fitted}

pub some_if : (b : Bool) (x y : ℕ) → cond b (Some x) None ≡ Some y → x ≡ y
some_if true x y e = cc
some_if false x y e = absurd (cc)

pub fitted_is : (op : Op) (a b c : Option ℕ) (w : ℕ) → fitted op a b c ≡ Some w
    → (x : ℕ) × (y : ℕ) × (z : ℕ) × (a ≡ Some x) × (b ≡ Some y) × (c ≡ Some z) × (width_of op x y z ≡ w)
fitted_is op (Some a) (Some b) (Some c) w h = (a, b, c, refl, refl, refl, (some_if (fits_at op a b c) _ _ h))
fitted_is op None b c w h = absurd (cc)
fitted_is op (Some a) None c w h = absurd (cc)
fitted_is op (Some a) (Some b) None w h = absurd (cc)
