-- The first place of a whole model, from the first places of its lists.
use Rattle.std.proofs.Common.{◌≡◌, ℕ, zero, suc, ◌<◌, ◌≤◌, true, eqb, ltb, List, Option, Some, None, length, zero-add, refl, sym, ap, ◌∙◌, subst, arith, ⊎_elim}
use Rattle.std.specs.Prelude.{IsSomeAnd, slice_get}
use Rattle.std.proofs.lemmas.Bool.{ltb-true, eqb-true, or_cases, and_parts, cases_lt}
use Rattle.dt_model.specs.declared.refusal.ModelRefusal.{ModelRefusal}
use Rattle.dt_model.specs.declared.refusal.Place.{Place}
use Rattle.dt_model.specs.declared.refusal.Place.TheVariants.{Header, Reg, Input, Var, LegalContext, LegalAccess, Node}
use Rattle.dt_model.specs.ModelData.{ModelData, Tree}
use Rattle.dt_model.specs.Widths.{Scope, AreWidths}
use Rattle.dt_model.specs.Faults.{Breaks, IsAccepted, IsRefused, group_of, index_of, RuleBreaks, rule_operators, context_scope, access_scope}
use Rattle.dt_lex.specs.declared.name.Name.{Name}
use Rattle.dt_model.specs.declared.model.Named.{Named}
use Rattle.dt_model.specs.Refusals.{IsFirst, Passes, NamesBreak, RulesBreak}
use Rattle.dt_model.proofs.Accepting.{clean_reg_widths, clean_input_widths, clean_var_widths, clean_few_vars}

-- the place at a position of a group
abbrev pub place : ℕ → ℕ → Place
place zero i = Header
place (suc zero) i = Reg i
place (suc (suc zero)) i = Input i
place (suc (suc (suc zero))) i = Var i
place (suc (suc (suc (suc zero)))) i = LegalContext i
place (suc (suc (suc (suc (suc zero))))) i = LegalAccess i
place (suc (suc (suc (suc (suc (suc g)))))) i = Node i

pub itself : (q : Place) → place (group_of q) (index_of q) ≡ q
itself Header = refl
itself (Reg i) = refl
itself (Input i) = refl
itself (Var i) = refl
itself (LegalContext i) = refl
itself (LegalAccess i) = refl
itself (Node i) = refl

group_below : (q : Place) → group_of q < 7
group_below Header = omega arith
group_below (Reg i) = omega arith
group_below (Input i) = omega arith
group_below (Var i) = omega arith
group_below (LegalContext i) = omega arith
group_below (LegalAccess i) = omega arith
group_below (Node i) = omega arith

in_group : (q : Place) (g : ℕ) → group_of q ≡ g → q ≡ place g (index_of q)
in_group q g e = sym (itself q) ∙ ap (λ k. place k (index_of q)) e

pub passes_none : (d : ModelData) → Passes d 0
passes_none d q r l b = absurd (omega arith)

pub passes_more : (d : ModelData) (g : ℕ) → Passes d g → IsFirst (λ i. Breaks d (place g i)) None → Passes d (suc g)
passes_more d g h n q r l b =
    ⊎_elim
    (λ (k : group_of q < g). h q r k b)
    (λ (k : g ≤ group_of q). n (index_of q) r (subst (λ (p : Place). Breaks d p r) (in_group q g (omega arith)) b))
    (cases_lt (group_of q) g)

pub accepted_of : (d : ModelData) → Passes d 7 → IsAccepted d
accepted_of d h p r b = h p r (group_below p) b

pub refused_at : (d : ModelData) (g i : ℕ) (r : ModelRefusal) → group_of (place g i) ≡ g → index_of (place g i) ≡ i → Passes d g → IsFirst (λ i. Breaks d (place g i)) (Some (i, r)) → IsRefused d (place g i) r
refused_at d g i r eg ei h n = record {
  breaks = n.0;
  smallest = n.1;
  first = λ q s l b. ⊎_elim
      (λ (k : ltb (group_of q) (group_of (place g i)) ≡ true). let below : group_of q < g = subst (λ m. group_of q < m) eg (ltb-true _ _ k) in h q s below b)
      (λ k.
      let p = and_parts (eqb (group_of q) (group_of (place g i))) _ k in
      let same : group_of q ≡ g = eqb-true _ _ p.0 ∙ eg in
      let earlier : index_of q < i = subst (λ m. index_of q < m) ei (ltb-true _ _ p.1) in
      n.2 (index_of q) s earlier (subst (λ (u : Place). Breaks d u s) (in_group q g same) b))
      (or_cases (ltb (group_of q) (group_of (place g i))) _ l);
}

-- the first fault is the same where the same faults are
pub first_same : (P Q : ℕ → ModelRefusal → Type 0) → ((i : ℕ) (r : ModelRefusal) → P i r → Q i r) → ((i : ℕ) (r : ModelRefusal) → Q i r → P i r) → (o : Option (ℕ × ModelRefusal)) → IsFirst P o → IsFirst Q o
first_same P Q f g None h = λ i r q. h i r (g i r q)
first_same P Q f g (Some x) h = (f x.0 x.1 h.0, λ s l q. h.1 s l (g x.0 s q), λ j s l q. h.2 j s l (g j s q))

-- the first fault of a list of names, where the lists are these
pub names_first : (limit : ℕ) (keys earlier : List Name) (names list : List Named) (o : Option (ℕ × ModelRefusal)) → keys ≡ earlier → names ≡ list → IsFirst (NamesBreak limit keys names) o → IsFirst (NamesBreak limit earlier list) o
names_first limit keys earlier names list o k n h =
    subst (λ (ks : List Name). IsFirst (NamesBreak limit ks list) o) k (subst (λ (ns : List Named). IsFirst (NamesBreak limit keys ns) o) n h)

-- ---- what holds past the registers, inputs and variables

pub passed_reg_widths : (d : ModelData) (g : ℕ) → 1 < g → Passes d g → AreWidths d.regs
passed_reg_widths d g l h = clean_reg_widths d (λ i r b. h (Reg i) r l b)

pub passed_input_widths : (d : ModelData) (g : ℕ) → 2 < g → Passes d g → AreWidths d.inputs
passed_input_widths d g l h = clean_input_widths d (λ i r b. h (Input i) r l b)

pub passed_var_widths : (d : ModelData) (g : ℕ) → 3 < g → Passes d g → AreWidths d.vars
passed_var_widths d g l h = clean_var_widths d (λ i r b. h (Var i) r l b)

pub passed_few_vars : (d : ModelData) (g : ℕ) → 3 < g → Passes d g → length d.vars ≤ 512
passed_few_vars d g l h = clean_few_vars d (λ i r b. h (Var i) r l b)

-- ---- rules

-- the scope and the rules are these, and no operators stand before them
pub context_first : (d : ModelData) (s : Scope) (trees : List Tree) (o : Option (ℕ × ModelRefusal)) → s ≡ context_scope d → trees ≡ d.legal_context → IsFirst (RulesBreak s 0 trees) o → IsFirst (λ i. Breaks d (LegalContext i)) o
context_first d s trees o e t h =
    let g : IsFirst (RulesBreak (context_scope d) 0 d.legal_context) o = subst (λ (x : Scope). IsFirst (RulesBreak x 0 d.legal_context) o) e (subst (λ (ts : List Tree). IsFirst (RulesBreak s 0 ts) o) t h) in
    let P : ℕ → ℕ → ModelRefusal → Type 0 = λ i k r. IsSomeAnd (slice_get d.legal_context i) (λ u. RuleBreaks (context_scope d) i k u r) in
    first_same (RulesBreak (context_scope d) 0 d.legal_context) (λ i. Breaks d (LegalContext i))
    (λ i r b. subst (λ k. P i k r) (zero-add _) b) (λ i r b. subst (λ k. P i k r) (sym (zero-add _)) b) o g

pub access_first : (d : ModelData) (s : Scope) (before : ℕ) (trees : List Tree) (o : Option (ℕ × ModelRefusal)) → s ≡ access_scope d → before ≡ rule_operators d.legal_context → trees ≡ d.legal_access → IsFirst (RulesBreak s before trees) o → IsFirst (λ i. Breaks d (LegalAccess i)) o
access_first d s before trees o e b t h =
    subst (λ (x : Scope). IsFirst (RulesBreak x (rule_operators d.legal_context) d.legal_access) o) e
    (subst (λ k. IsFirst (RulesBreak s k d.legal_access) o) b
    (subst (λ (ts : List Tree). IsFirst (RulesBreak s before ts) o) t h))
