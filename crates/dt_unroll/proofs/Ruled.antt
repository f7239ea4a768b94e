-- The rules of an accepted model as forms.
use Rattle.std.proofs.Common.{◌≡◌, ℕ, zero, suc, List, [], ◌∷◌, Some, map, sym, ap, ◌∙◌, subst}
use Rattle.std.specs.Prelude.{slice_get, is_some, IsSome}
use Rattle.std.proofs.lemmas.Simd.{map-map}
use Rattle.dt_lemmas.proofs.Lists.{each_has}
use Rattle.dt_lemmas.proofs.Equalities.{two}
use Rattle.dt_model.specs.declared.expr.Expr.{Expr}
use Rattle.dt_model.specs.declared.model.Model.{Model}
use Rattle.dt_model.specs.declared.model.Named.{Named}
use Rattle.dt_model.specs.ModelData.{ModelData, tree_of, data_of}
use Rattle.dt_model.specs.Widths.{Scope, HasArities, tree_width}
use Rattle.dt_model.specs.Faults.{IsAccepted, HaveArities, context_scope, access_scope}
use Rattle.dt_model.proofs.Accepting.{context_rule_width, access_rule_width, context_arities, access_arities}
use Rattle.dt_table.specs.Expressions.{form_of}
use Rattle.dt_table.specs.Table.{rule_named}
use Rattle.dt_unroll.specs.Fronts.{AreRules}

mapped_at : {X Y : Type 0} (f : X → Y) (xs : List X) (i : ℕ) (x : X) → slice_get xs i ≡ Some x → slice_get (map f xs) i ≡ Some (f x)
mapped_at f [] i x e = absurd (cc)
mapped_at f (y ∷ xs) zero x e = let s : y ≡ x = cc in ap (λ z. Some (f z)) s
mapped_at f (y ∷ xs) (suc i) x e = mapped_at f xs i x e

-- ---- each rule has a width

context_are : (m : Model) → IsAccepted (data_of m) → HaveArities (data_of m) → AreRules (context_scope (data_of m)) m.legal_context
context_are m a h = each_has (λ (e : Expr). HasArities (tree_of e) × IsSome (tree_width (context_scope (data_of m)) (tree_of e))) m.legal_context
    (λ i e q. let t = mapped_at tree_of m.legal_context i e q in (context_arities (data_of m) i (tree_of e) h t, ap is_some (context_rule_width (data_of m) i (tree_of e) a h t)))

access_are : (m : Model) → IsAccepted (data_of m) → HaveArities (data_of m) → AreRules (access_scope (data_of m)) m.legal_access
access_are m a h = each_has (λ (e : Expr). HasArities (tree_of e) × IsSome (tree_width (access_scope (data_of m)) (tree_of e))) m.legal_access
    (λ i e q. let t = mapped_at tree_of m.legal_access i e q in (access_arities (data_of m) i (tree_of e) h t, ap is_some (access_rule_width (data_of m) i (tree_of e) a h t)))

rules_as : (s t : Scope) (rules es : List Expr) → s ≡ t → rules ≡ es → AreRules t es → AreRules s rules
rules_as s t rules es h k a = subst (λ (z : Scope). AreRules z rules) (sym h) (subst (λ (l : List Expr). AreRules t l) (sym k) a)

pub context_rules_are : (d : ModelData) (m : Model) (regs : List Named) (rules : List Expr) → data_of m ≡ d → IsAccepted d → HaveArities d → regs ≡ m.regs → rules ≡ m.legal_context
    → AreRules (record { regs = regs; inputs = []; vars = [] }) rules
context_rules_are d m regs rules e a h r k =
    rules_as (record { regs = regs; inputs = []; vars = [] }) (context_scope (data_of m)) rules m.legal_context (ap (λ (l : List Named). let s : Scope = record { regs = l; inputs = []; vars = [] } in s) r) k
    (context_are m (subst IsAccepted (sym e) a) (subst HaveArities (sym e) h))

pub access_rules_are : (d : ModelData) (m : Model) (regs inputs : List Named) (rules : List Expr) → data_of m ≡ d → IsAccepted d → HaveArities d → regs ≡ m.regs → inputs ≡ m.inputs → rules ≡ m.legal_access
    → AreRules (record { regs = regs; inputs = inputs; vars = [] }) rules
access_rules_are d m regs inputs rules e a h r i k =
    rules_as (record { regs = regs; inputs = inputs; vars = [] }) (access_scope (data_of m)) rules m.legal_access (two (λ (l n : List Named). let s : Scope = record { regs = l; inputs = n; vars = [] } in s) r i) k
    (access_are m (subst IsAccepted (sym e) a) (subst HaveArities (sym e) h))

-- ---- the forms of rules

forms_as : (s t : Scope) (at ins : ℕ) (rules es : List Expr) → s ≡ t → rules ≡ es → map (λ e. form_of (rule_named s at ins) (tree_of e)) rules ≡ map (form_of (rule_named t at ins)) (map tree_of es)
forms_as s t at ins rules es h k =
    two (λ (z : Scope) (l : List Expr). map (λ e. form_of (rule_named z at ins) (tree_of e)) l) h k ∙ sym (map-map (form_of (rule_named t at ins)) tree_of es)

pub context_forms : (d : ModelData) (m : Model) (regs : List Named) (rules : List Expr) (at : ℕ) → data_of m ≡ d → regs ≡ m.regs → rules ≡ m.legal_context
    → map (λ e. form_of (rule_named (record { regs = regs; inputs = []; vars = [] }) at 0) (tree_of e)) rules ≡ map (form_of (rule_named (context_scope d) at 0)) d.legal_context
context_forms d m regs rules at e r k =
    forms_as (record { regs = regs; inputs = []; vars = [] }) (context_scope (data_of m)) at 0 rules m.legal_context (ap (λ (l : List Named). let s : Scope = record { regs = l; inputs = []; vars = [] } in s) r) k
    ∙ ap (λ (x : ModelData). map (form_of (rule_named (context_scope x) at 0)) x.legal_context) e

pub access_forms : (d : ModelData) (m : Model) (regs inputs : List Named) (rules : List Expr) (at ins : ℕ) → data_of m ≡ d → regs ≡ m.regs → inputs ≡ m.inputs → rules ≡ m.legal_access
    → map (λ e. form_of (rule_named (record { regs = regs; inputs = inputs; vars = [] }) at ins) (tree_of e)) rules ≡ map (form_of (rule_named (access_scope d) at ins)) d.legal_access
access_forms d m regs inputs rules at ins e r i k =
    forms_as (record { regs = regs; inputs = inputs; vars = [] }) (access_scope (data_of m)) at ins rules m.legal_access (two (λ (l n : List Named). let s : Scope = record { regs = l; inputs = n; vars = [] } in s) r i) k
    ∙ ap (λ (x : ModelData). map (form_of (rule_named (access_scope x) at ins)) x.legal_access) e
