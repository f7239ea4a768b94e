-- Expressions over terms of the right widths can be put behind them.
use Rattle.std.proofs.Common.{◌≡◌, ℕ, ◌+◌, ◌*◌, ◌≤◌, List, Option, Some, None, sym, ap, ◌∙◌, subst, arith}
use Rattle.std.specs.Prelude.{IfSome, unwrap_or}
use Rattle.std.proofs.lemmas.Nat.{pow_pos}
use Rattle.dt_bits.specs.Bits.{IsWidth}
use Rattle.dt_model.specs.ModelData.{Tree, value, reg, input, var, apply1, apply2, apply3}
use Rattle.dt_model.specs.Widths.{HasArities, tree_width, fitted, width_at, operators}
use Rattle.dt_terms.specs.declared.term.Term.{Term}
use Rattle.dt_forms.specs.Sizes.{form_size}
use Rattle.dt_forms.proofs.Fitted.{fitted_is}
use Rattle.dt_forms.proofs.Fine.{IsSized, IsFine, term_fine, number_fine, one_fine, two_fine, three_fine}
use Rattle.dt_table.specs.Expressions.{Named, form_of, var_form}

-- names have terms of their widths; a variable that has none has a width
pub record AreSized (terms : List Term) (at : Named) : Type 0 where
  pub regs : (i w : ℕ) → width_at at.scope.regs i ≡ Some w → IsSized terms (at.regs + i) w
  pub inputs : (i w : ℕ) → width_at at.scope.inputs i ≡ Some w → IsSized terms (at.inputs + i) w
  pub vars : (x w : ℕ) → width_at at.scope.vars x ≡ Some w → IfSome (at.vars x) (λ t. IsSized terms t w)
  pub wide : (x w : ℕ) → width_at at.scope.vars x ≡ Some w → IsWidth w

pub tree_fine : (t : Tree) (terms : List Term) (at : Named) (w : ℕ) → AreSized terms at → HasArities t → tree_width at.scope t ≡ Some w → IsFine terms (form_of at t) w
tree_fine (value u n) terms at w h a e = record { has = tt; ops = tt; width_is = e }
tree_fine (reg i) terms at w h a e = term_fine terms (at.regs + i) w (h.regs i w e)
tree_fine (input i) terms at w h a e = term_fine terms (at.inputs + i) w (h.inputs i w e)
tree_fine (var x) terms at w h a e =
    subst (λ (o : Option ℕ). IsFine terms (var_form (at.vars x) (unwrap_or o 1)) w) (sym e) (by_term (at.vars x) (h.vars x w e))
  where
    by_term : (o : Option ℕ) → IfSome o (λ t. IsSized terms t w) → IsFine terms (var_form o w) w
    by_term (Some t) s = term_fine terms t w s
    by_term None s = number_fine terms w 0 (h.wide x w e) (pow_pos w)
tree_fine (apply1 op x) terms at w h a e =
    let p = fitted_is op (tree_width at.scope x) (Some 1) (Some 1) w e in
    one_fine terms op (form_of at x) p.0 w a.0 (tree_fine x terms at p.0 h a.1 p.3) (ap (λ (o : Option ℕ). fitted op o (Some 1) (Some 1)) (sym p.3) ∙ e)
tree_fine (apply2 op x y) terms at w h a e =
    let p = fitted_is op (tree_width at.scope x) (tree_width at.scope y) (Some 1) w e in
    two_fine terms op (form_of at x) (form_of at y) p.0 p.1 w a.0 (tree_fine x terms at p.0 h a.1 p.3) (tree_fine y terms at p.1 h a.2 p.4)
    (ap (λ (o : Option ℕ). fitted op o (Some p.1) (Some 1)) (sym p.3) ∙ ap (λ (o : Option ℕ). fitted op (tree_width at.scope x) o (Some 1)) (sym p.4) ∙ e)
tree_fine (apply3 op x y z) terms at w h a e =
    let p = fitted_is op (tree_width at.scope x) (tree_width at.scope y) (tree_width at.scope z) w e in
    three_fine terms op (form_of at x) (form_of at y) (form_of at z) p.0 p.1 p.2 w a.0 (tree_fine x terms at p.0 h a.1 p.3) (tree_fine y terms at p.1 h a.2 p.4) (tree_fine z terms at p.2 h a.3 p.5)
    (ap (λ (o : Option ℕ). fitted op o (Some p.1) (Some p.2)) (sym p.3) ∙ ap (λ (o : Option ℕ). fitted op (tree_width at.scope x) o (Some p.2)) (sym p.4)
    ∙ ap (λ (o : Option ℕ). fitted op (tree_width at.scope x) (tree_width at.scope y) o) (sym p.5) ∙ e)

-- a term for each operator, and one at most for each constant among its parts
pub tree_size : (at : Named) (t : Tree) → form_size (form_of at t) ≤ 3 * operators t + 1
tree_size at (value w n) = omega arith
tree_size at (reg i) = omega arith
tree_size at (input i) = omega arith
tree_size at (var x) = by_term (at.vars x) (unwrap_or (width_at at.scope.vars x) 1)
  where
    by_term : (o : Option ℕ) (w : ℕ) → form_size (var_form o w) ≤ 1
    by_term (Some t) w = omega arith
    by_term None w = omega arith
tree_size at (apply1 op x) = let a = tree_size at x in omega (arith, a)
tree_size at (apply2 op x y) = let a = tree_size at x in let b = tree_size at y in omega (arith, a, b)
tree_size at (apply3 op x y z) = let a = tree_size at x in let b = tree_size at y in let c = tree_size at z in omega (arith, a, b, c)
