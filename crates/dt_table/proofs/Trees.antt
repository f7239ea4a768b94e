-- The term that stands for an expression has its value.
use Rattle.std.proofs.Common.{◌≡◌, ℕ, ◌+◌, Bool, true, ◌||◌, List, Option, Some, None, refl, ap, ◌∙◌, subst}
use Rattle.std.specs.Prelude.{IsSome, slice_index, unwrap_or}
use Rattle.std.proofs.lemmas.Bool.{or_left, or_right, eq-eqb}
use Rattle.dt_lemmas.proofs.Options.{some_is}
use Rattle.dt_model.proofs.Fitting.{fitted_parts}
use Rattle.dt_bits.specs.Ops.{applied, width_of}
use Rattle.dt_bits.specs.declared.op.Op.{Op}
use Rattle.dt_bits.specs.declared.value.Bv.{Bv}
use Rattle.dt_model.specs.ModelData.{Tree, value, reg, input, var, apply1, apply2, apply3}
use Rattle.dt_model.specs.Widths.{Scope, HasArities, tree_width, width_at, uses, is_constant}
use Rattle.dt_terms.specs.declared.term.Term.{Term}
use Rattle.dt_walk.specs.Meaning.{EnvData, Vars, value_at, valued, unused}
use Rattle.dt_table.specs.Expressions.{Named}
use Rattle.dt_forms.specs.Forms.{form_placed, form_value}
use Rattle.dt_table.specs.Expressions.{form_of, var_form}
use Rattle.dt_forms.specs.Meaning.{Valuation, IsLawful}
use Rattle.dt_forms.proofs.FormValues.{form_is}
use Rattle.dt_forms.specs.Forms.{HasForm}
use Rattle.dt_forms.proofs.Fitted.{some_if, fitted_is}

-- an expression's form has as many operands as its operators take
pub tree_form : (at : Named) (t : Tree) → HasArities t → HasForm (form_of at t)
tree_form at (value w n) a = tt
tree_form at (reg i) a = tt
tree_form at (input i) a = tt
tree_form at (var i) a = by_term (at.vars i) (unwrap_or (width_at at.scope.vars i) 1)
  where
    by_term : (o : Option ℕ) (w : ℕ) → HasForm (var_form o w)
    by_term (Some t) w = tt
    by_term None w = tt
tree_form at (apply1 op x) a = (a.0, tree_form at x a.1)
tree_form at (apply2 op x y) a = (a.0, tree_form at x a.1, tree_form at y a.2)
tree_form at (apply3 op x y z) a = (a.0, tree_form at x a.1, tree_form at y a.2, tree_form at z a.3)

-- ---- values

-- a variable has a term, and its value
pub record IsBound (v : Valuation) (at : Named) (vars : Vars) (x : ℕ) : Type 0 where
  pub term : ℕ
  pub has : at.vars x ≡ Some term
  pub is : v term ≡ valued (width_at at.scope.vars x) (vars x)

-- names have their values; of variables those that are asked for
pub record AreNamed (v : Valuation) (s : EnvData) (vars : Vars) (at : Named) (asked : ℕ → Bool) : Type 0 where
  pub scope : at.scope ≡ s.scope
  pub reg_is : (i : ℕ) → IsSome (width_at at.scope.regs i) → v (at.regs + i) ≡ valued (width_at s.scope.regs i) (slice_index s.regs i)
  pub input_is : (i : ℕ) → IsSome (width_at at.scope.inputs i) → v (at.inputs + i) ≡ valued (width_at s.scope.inputs i) (slice_index s.inputs i)
  pub var_is : (x : ℕ) → asked x ≡ true → IsBound v at vars x

fewer : (v : Valuation) (s : EnvData) (vars : Vars) (at : Named) (f g : ℕ → Bool) → ((x : ℕ) → g x ≡ true → f x ≡ true) → AreNamed v s vars at f → AreNamed v s vars at g
fewer v s vars at f g k h = record { scope = h.scope; reg_is = h.reg_is; input_is = h.input_is; var_is = λ x e. h.var_is x (k x e) }

pub form_means : (v : Valuation) (s : EnvData) (vars : Vars) (at : Named) (t : Tree) → AreNamed v s vars at (uses t) → IsSome (tree_width at.scope t) → form_value v (form_of at t) ≡ value_at s vars t
form_means v s vars at (value w n) k i = refl
form_means v s vars at (reg r) k i = k.reg_is r i
form_means v s vars at (input r) k i = k.input_is r i
form_means v s vars at (var x) k i =
    let b = k.var_is x (eq-eqb x x refl) in
    ap (λ (o : Option ℕ). form_value v (var_form o (unwrap_or (width_at at.scope.vars x) 1))) b.has
    ∙ subst (λ (c : Scope). v b.term ≡ valued (width_at c.vars x) (vars x)) k.scope b.is
form_means v s vars at (apply1 op x) k i =
    ap (λ (y : Bv). applied op y unused unused) (form_means v s vars at x k (fitted_parts op _ _ _ i).0)
form_means v s vars at (apply2 op x y) k i =
    let p = fitted_parts op (tree_width at.scope x) (tree_width at.scope y) _ i in
    ap (λ (q : Bv). applied op q (form_value v (form_of at y)) unused) (form_means v s vars at x (fewer v s vars at _ _ (λ z e. or_left (uses x z) (uses y z) e) k) p.0)
    ∙ ap (λ (q : Bv). applied op (value_at s vars x) q unused) (form_means v s vars at y (fewer v s vars at _ _ (λ z e. or_right (uses x z) (uses y z) e) k) p.1)
form_means v s vars at (apply3 op x y z) k i =
    let p = fitted_parts op (tree_width at.scope x) (tree_width at.scope y) (tree_width at.scope z) i in
    ap (λ (q : Bv). applied op q (form_value v (form_of at y)) (form_value v (form_of at z))) (form_means v s vars at x (fewer v s vars at _ _ (λ u e. or_left (uses x u) (uses y u || uses z u) e) k) p.0)
    ∙ ap (λ (q : Bv). applied op (value_at s vars x) q (form_value v (form_of at z))) (form_means v s vars at y (fewer v s vars at _ _ (λ u e. or_right (uses x u) (uses y u || uses z u) (or_left (uses y u) (uses z u) e)) k) p.1)
    ∙ ap (λ (q : Bv). applied op (value_at s vars x) (value_at s vars y) q) (form_means v s vars at z (fewer v s vars at _ _ (λ u e. or_right (uses x u) (uses y u || uses z u) (or_right (uses y u) (uses z u) e)) k) p.2)

pub tree_value : (v : Valuation) (s : EnvData) (vars : Vars) (at : Named) (t : Tree) (terms : List Term) → AreNamed v s vars at (uses t) → HasArities t → IsSome (tree_width at.scope t)
    → IsLawful v (form_placed terms (form_of at t)).terms → v (form_placed terms (form_of at t)).at ≡ value_at s vars t
tree_value v s vars at t terms k a i h = form_is v (form_of at t) terms (tree_form at t a) h ∙ form_means v s vars at t k i

-- ---- widths, also where no walk comes

-- terms of names have the names' widths
pub record AreWide (v : Valuation) (at : Named) : Type 0 where
  pub reg_is : (i w : ℕ) → width_at at.scope.regs i ≡ Some w → (v (at.regs + i)).width.0 ≡ w
  pub input_is : (i w : ℕ) → width_at at.scope.inputs i ≡ Some w → (v (at.inputs + i)).width.0 ≡ w
  pub var_is : (x t w : ℕ) → at.vars x ≡ Some t → width_at at.scope.vars x ≡ Some w → (v t).width.0 ≡ w

wide_of : (op : Op) (m n o x y z w : ℕ) → m ≡ x → n ≡ y → o ≡ z → width_of op x y z ≡ w → width_of op m n o ≡ w
wide_of op m n o x y z w e f g h = ap (λ (k : ℕ). width_of op k n o) e ∙ ap (λ (k : ℕ). width_of op x k o) f ∙ ap (λ (k : ℕ). width_of op x y k) g ∙ h

form_wide : (v : Valuation) (at : Named) (t : Tree) (w : ℕ) → AreWide v at → tree_width at.scope t ≡ Some w → (form_value v (form_of at t)).width.0 ≡ w
form_wide v at (value u n) w k i = some_if (is_constant u n) u w i
form_wide v at (reg r) w k i = k.reg_is r w i
form_wide v at (input r) w k i = k.input_is r w i
form_wide v at (var x) w k i = by_term (at.vars x) refl
  where
    by_term : (o : Option ℕ) → at.vars x ≡ o → (form_value v (var_form o (unwrap_or (width_at at.scope.vars x) 1))).width.0 ≡ w
    by_term (Some t) e = k.var_is x t w e i
    by_term None e = ap (λ (o : Option ℕ). unwrap_or o 1) i
form_wide v at (apply1 op x) w k i =
    let p = fitted_is op (tree_width at.scope x) (Some 1) (Some 1) w i in
    wide_of op _ 1 1 p.0 p.1 p.2 w (form_wide v at x p.0 k p.3) (some_is 1 p.1 p.4) (some_is 1 p.2 p.5) p.6
form_wide v at (apply2 op x y) w k i =
    let p = fitted_is op (tree_width at.scope x) (tree_width at.scope y) (Some 1) w i in
    wide_of op _ _ 1 p.0 p.1 p.2 w (form_wide v at x p.0 k p.3) (form_wide v at y p.1 k p.4) (some_is 1 p.2 p.5) p.6
form_wide v at (apply3 op x y z) w k i =
    let p = fitted_is op (tree_width at.scope x) (tree_width at.scope y) (tree_width at.scope z) w i in
    wide_of op _ _ _ p.0 p.1 p.2 w (form_wide v at x p.0 k p.3) (form_wide v at y p.1 k p.4) (form_wide v at z p.2 k p.5) p.6

pub tree_wide : (v : Valuation) (at : Named) (t : Tree) (w : ℕ) (terms : List Term) → AreWide v at → HasArities t → tree_width at.scope t ≡ Some w
    → IsLawful v (form_placed terms (form_of at t)).terms → (v (form_placed terms (form_of at t)).at).width.0 ≡ w
tree_wide v at t w terms k a i h = ap (λ (x : Bv). x.width.0) (form_is v (form_of at t) terms (tree_form at t a) h) ∙ form_wide v at t w k i
