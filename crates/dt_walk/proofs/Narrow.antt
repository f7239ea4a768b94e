-- A value doesn't change where more names are known.
use Rattle.std.proofs.Common.{◌≡◌, ℕ, Option, Some, None, refl, ap, ◌∙◌}
use Rattle.std.specs.Prelude.{IsSome, slice_index}
use Rattle.std.proofs.lemmas.Bool.{false≢true}
use Rattle.dt_bits.specs.declared.op.Op.{Op}
use Rattle.dt_bits.specs.declared.value.Bv.{Bv}
use Rattle.dt_bits.specs.Ops.{applied}
use Rattle.dt_model.specs.ModelData.{Tree, value, reg, input, var, apply1, apply2, apply3}
use Rattle.dt_model.specs.Widths.{fitted, width_at, tree_width}
use Rattle.dt_walk.specs.Meaning.{EnvData, Vars, valued, unused, value_at}
use Rattle.dt_model.proofs.Fitting.{fitted_parts}

-- the names that the first env_of knows have the same values in the second
pub record Agrees (s t : EnvData) (v w : Vars) : Type 0 where
  pub regs : (i : ℕ) → IsSome (width_at s.scope.regs i) → valued (width_at s.scope.regs i) (slice_index s.regs i) ≡ valued (width_at t.scope.regs i) (slice_index t.regs i)
  pub inputs : (i : ℕ) → IsSome (width_at s.scope.inputs i) → valued (width_at s.scope.inputs i) (slice_index s.inputs i) ≡ valued (width_at t.scope.inputs i) (slice_index t.inputs i)
  pub vars : (i : ℕ) → IsSome (width_at s.scope.vars i) → valued (width_at s.scope.vars i) (v i) ≡ valued (width_at t.scope.vars i) (w i)

pub same_value : (s t : EnvData) (v w : Vars) (e : Tree) → Agrees s t v w → IsSome (tree_width s.scope e) → value_at s v e ≡ value_at t w e
same_value s t v w (value n b) a h = refl
same_value s t v w (reg i) a h = a.regs i h
same_value s t v w (input i) a h = a.inputs i h
same_value s t v w (var i) a h = a.vars i h
same_value s t v w (apply1 op x) a h =
    ap (λ (p : Bv). applied op p unused unused) (same_value s t v w x a (fitted_parts op _ _ _ h).0)
same_value s t v w (apply2 op x y) a h =
    let k = fitted_parts op (tree_width s.scope x) (tree_width s.scope y) _ h in
    ap (λ (p : Bv). applied op p (value_at s v y) unused) (same_value s t v w x a k.0)
    ∙ ap (λ (p : Bv). applied op (value_at t w x) p unused) (same_value s t v w y a k.1)
same_value s t v w (apply3 op x y z) a h =
    let k = fitted_parts op (tree_width s.scope x) (tree_width s.scope y) (tree_width s.scope z) h in
    ap (λ (p : Bv). applied op p (value_at s v y) (value_at s v z)) (same_value s t v w x a k.0)
    ∙ ap (λ (p : Bv). applied op (value_at t w x) p (value_at s v z)) (same_value s t v w y a k.1)
    ∙ ap (λ (p : Bv). applied op (value_at t w x) (value_at t w y) p) (same_value s t v w z a k.2)
