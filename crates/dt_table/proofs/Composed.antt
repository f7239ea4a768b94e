-- What stands for the contexts and accesses of a list, one after another.
use Rattle.std.proofs.Common.{◌≡◌, ℕ, zero, suc, ◌+◌, ◌<◌, true, List, [], ◌∷◌, ◌++◌, length, map, Some, refl, sym, ap, ◌∙◌, subst, ◌||◌, ⊎_elim}
use Rattle.std.specs.Prelude.{is_some, IsSome, IsTrue}
use Rattle.std.specs.List.{AllByRecursion}
use Rattle.std.proofs.lemmas.Bool.{false≢true, or_cases}
use Rattle.std.proofs.lemmas.List.{append-nil, append_assoc}
use Rattle.dt_lemmas.proofs.Lists.{AllByRecursion-append, AllByRecursion-split}
use Rattle.dt_model.proofs.Fitting.{fitted_parts}
use Rattle.dt_model.specs.declared.model.Named.{Named as NamedWidth}
use Rattle.dt_model.specs.ModelData.{ModelData, Tree, value, reg, input, var, apply1, apply2, apply3}
use Rattle.dt_model.specs.Faults.{steps, context_scope, access_scope}
use Rattle.dt_model.specs.Widths.{Scope, HasArities, tree_width, width_at, uses}
use Rattle.dt_request.specs.declared.list.AccessWish.{AccessWish}
use Rattle.dt_request.specs.declared.list.Requests.{Requests}
use Rattle.dt_terms.specs.declared.term.Term.{Term}
use Rattle.dt_walk.specs.Meaning.{EnvData, env_of, unbound, rule_holds}
use Rattle.dt_walk.proofs.Narrow.{same_value}
use Rattle.dt_forms.specs.Meaning.{Valuation, IsLawful, AreValues, is_one}
use Rattle.dt_table.specs.Expressions.{Named}
use Rattle.dt_forms.specs.Forms.{Form, Placing, form_value, required_by}
use Rattle.dt_forms.specs.Folding.{fold}
use Rattle.dt_forms.specs.Placing.{place}
use Rattle.dt_forms.proofs.Folding.{fold_gives}
use Rattle.dt_table.specs.Expressions.{form_of}
use Rattle.dt_table.specs.declared.out.Out.{Out}
use Rattle.dt_table.specs.Passing.{walk_placed}
use Rattle.dt_table.specs.Table.{regs_at, inputs_at, words_at, access_of, first_state, rule_named, context_rules, access_rules, Built, with_by, with_forms, contexts_built, access_built, accesses_built, start, built, claim_forms, extra_forms, table}
use Rattle.dt_table.specs.Images.{bits_from}
use Rattle.dt_forms.proofs.FormValues.{GivesValues, place_gives, required_before, all_before, all_hold, all_held}
use Rattle.dt_forms.specs.Claims.{AreOnes, Hold}
use Rattle.dt_forms.specs.Forms.{HaveForms}
use Rattle.dt_table.proofs.Trees.{tree_form, form_means}
use Rattle.dt_table.proofs.Nodes.{walk_before}
use Rattle.dt_table.proofs.Stand.{name_value}
use Rattle.dt_table.proofs.Ready.{IsReady, AreSet}

-- ---- rules

-- the form of a rule is 1 where the rule holds
abbrev pub RuleSame : Valuation → ModelData → Named → List ℕ → List ℕ → Tree → Type 0
RuleSame v d at regs inputs t = is_one (form_value v (form_of at t)) ≡ rule_holds d regs inputs t

pub rules_hold : (v : Valuation) (d : ModelData) (at : Named) (regs inputs : List ℕ) (ts : List Tree) → AllByRecursion (RuleSame v d at regs inputs) ts → Hold v (map (form_of at) ts) → AllByRecursion IsTrue (map (rule_holds d regs inputs) ts)
rules_hold v d at regs inputs [] s h = tt
rules_hold v d at regs inputs (t ∷ ts) s h = (sym s.0 ∙ h.0, rules_hold v d at regs inputs ts s.1 h.1)

pub hold_rules : (v : Valuation) (d : ModelData) (at : Named) (regs inputs : List ℕ) (ts : List Tree) → AllByRecursion (RuleSame v d at regs inputs) ts → AllByRecursion IsTrue (map (rule_holds d regs inputs) ts) → Hold v (map (form_of at) ts)
hold_rules v d at regs inputs [] s h = tt
hold_rules v d at regs inputs (t ∷ ts) s h = (s.0 ∙ h.0, hold_rules v d at regs inputs ts s.1 h.1)

rules_form : (at : Named) (s : Scope) (ts : List Tree) → AllByRecursion (λ (t : Tree). HasArities t × IsSome (tree_width s t)) ts → HaveForms (map (form_of at) ts)
rules_form at s [] h = tt
rules_form at s (t ∷ ts) h = (tree_form at t h.0.0, rules_form at s ts h.1)

-- where no variable is known, none is used
no_var : (s : Scope) (t : Tree) (x : ℕ) → s.vars ≡ [] → IsSome (tree_width s t) → uses t x ≡ true → ⊥
no_var s (value w n) x e h u = false≢true u
no_var s (reg i) x e h u = false≢true u
no_var s (input i) x e h u = false≢true u
no_var s (var i) x e h u = false≢true (ap (λ (ns : List NamedWidth). is_some (width_at ns i)) (sym e) ∙ h)
no_var s (apply1 op a) x e h u = no_var s a x e (fitted_parts op (tree_width s a) (Some 1) (Some 1) h).0 u
no_var s (apply2 op a b) x e h u =
    let p = fitted_parts op (tree_width s a) (tree_width s b) (Some 1) h in
    ⊎_elim (λ (q : uses a x ≡ true). no_var s a x e p.0 q) (λ (q : uses b x ≡ true). no_var s b x e p.1 q) (or_cases (uses a x) (uses b x) u)
no_var s (apply3 op a b c) x e h u =
    let p = fitted_parts op (tree_width s a) (tree_width s b) (tree_width s c) h in
    ⊎_elim (λ (q : uses a x ≡ true). no_var s a x e p.0 q)
    (λ (k : (uses b x || uses c x) ≡ true). ⊎_elim (λ (q : uses b x ≡ true). no_var s b x e p.1 q) (λ (q : uses c x ≡ true). no_var s c x e p.2 q) (or_cases (uses b x) (uses c x) k))
    (or_cases (uses a x) (uses b x || uses c x) u)

pub context_same : (v : Valuation) (d : ModelData) (r : Requests) (c : ℕ) (ts : List Tree) → AreSet v d r → c < length r.contexts → AllByRecursion (λ (t : Tree). HasArities t × IsSome (tree_width (context_scope d) t)) ts
    → AllByRecursion (RuleSame v d (rule_named (context_scope d) (regs_at d c) 0) (bits_from v (regs_at d c) d.regs) []) ts
context_same v d r c [] set l h = tt
context_same v d r c (t ∷ ts) set l h =
    let regs = bits_from v (regs_at d c) d.regs in
    let at = rule_named (context_scope d) (regs_at d c) 0 in
    let st : EnvData = record { scope = context_scope d; regs = regs; inputs = [] } in (
      ap is_one (
          form_means v st unbound at t (record {
            scope = refl;
            reg_is = λ i s. name_value v d.regs (regs_at d c) i (set.regs c l) s;
            input_is = λ i s. absurd (false≢true s);
            var_is = λ x u. absurd (no_var (context_scope d) t x refl h.0.1 u);
          }) h.0.1
          ∙ same_value st (env_of d regs []) unbound unbound t (record { regs = λ i s. refl; inputs = λ i s. absurd (false≢true s); vars = λ i s. absurd (false≢true s) }) h.0.1),
      context_same v d r c ts set l h.1,
    )

pub access_same : (v : Valuation) (d : ModelData) (r : Requests) (k : ℕ) (a : AccessWish) (ts : List Tree) → AreSet v d r → a.context < length r.contexts → k < length r.accesses → AllByRecursion (λ (t : Tree). HasArities t × IsSome (tree_width (access_scope d) t)) ts
    → AllByRecursion (RuleSame v d (rule_named (access_scope d) (regs_at d a.context) (inputs_at d r k)) (bits_from v (regs_at d a.context) d.regs) (bits_from v (inputs_at d r k) d.inputs)) ts
access_same v d r k a [] set c l h = tt
access_same v d r k a (t ∷ ts) set c l h =
    let regs = bits_from v (regs_at d a.context) d.regs in
    let inputs = bits_from v (inputs_at d r k) d.inputs in
    let at = rule_named (access_scope d) (regs_at d a.context) (inputs_at d r k) in
    let st : EnvData = record { scope = access_scope d; regs = regs; inputs = inputs } in (
      ap is_one (
          form_means v st unbound at t (record {
            scope = refl;
            reg_is = λ i s. name_value v d.regs (regs_at d a.context) i (set.regs a.context c) s;
            input_is = λ i s. name_value v d.inputs (inputs_at d r k) i (set.inputs k l) s;
            var_is = λ x u. absurd (no_var (access_scope d) t x refl h.0.1 u);
          }) h.0.1
          ∙ same_value st (env_of d regs inputs) unbound unbound t (record { regs = λ i s. refl; inputs = λ i s. refl; vars = λ i s. absurd (false≢true s) }) h.0.1),
      access_same v d r k a ts set c l h.1,
    )

pub context_forms : (d : ModelData) (c : ℕ) → IsReady d → HaveForms (context_rules d c)
context_forms d c ready = rules_form (rule_named (context_scope d) (regs_at d c) 0) (context_scope d) d.legal_context ready.context_rules

pub access_forms : (d : ModelData) (r : Requests) (k : ℕ) (a : AccessWish) → IsReady d → HaveForms (access_rules d r k a)
access_forms d r k a ready = rules_form (rule_named (access_scope d) (regs_at d a.context) (inputs_at d r k)) (access_scope d) d.legal_access ready.access_rules

-- ---- forms that are required after others

forms_ones_by : (P : Valuation → List Term → Type 0) (placing : Placing) → GivesValues P placing → (v : Valuation) (b : Built) (fs : List Form) → HaveForms fs → P v (with_by placing b fs).terms → AreOnes v (with_by placing b fs).required → AreOnes v b.required × Hold v fs
forms_ones_by P placing g v b fs f h o =
    let p = AllByRecursion-split (λ (t : ℕ). is_one (v t) ≡ true) b.required (required_by placing b.terms fs).required o in
    (p.0, all_hold P placing g v fs b.terms f h p.1)

ones_forms_by : (P : Valuation → List Term → Type 0) (placing : Placing) → GivesValues P placing → (v : Valuation) (b : Built) (fs : List Form) → HaveForms fs → P v (with_by placing b fs).terms → AreOnes v b.required → Hold v fs → AreOnes v (with_by placing b fs).required
ones_forms_by P placing g v b fs f h o k = AllByRecursion-append (λ (t : ℕ). is_one (v t) ≡ true) b.required (required_by placing b.terms fs).required o (all_held P placing g v fs b.terms f h k)

forms_ones : (v : Valuation) (b : Built) (fs : List Form) → HaveForms fs → IsLawful v (with_forms b fs).terms → AreOnes v (with_forms b fs).required → AreOnes v b.required × Hold v fs
forms_ones v b fs f h o = forms_ones_by IsLawful place place_gives v b fs f h o

ones_forms : (v : Valuation) (b : Built) (fs : List Form) → HaveForms fs → IsLawful v (with_forms b fs).terms → AreOnes v b.required → Hold v fs → AreOnes v (with_forms b fs).required
ones_forms v b fs f h o k = ones_forms_by IsLawful place place_gives v b fs f h o k

-- ---- contexts

pub contexts_before : (v : Valuation) (d : ModelData) (n c : ℕ) (b : Built) → IsLawful v (contexts_built d b n c).terms → IsLawful v b.terms
contexts_before v d zero c b h = h
contexts_before v d (suc n) c b h = required_before v (context_rules d c) b.terms (contexts_before v d n (c + 1) (with_forms b (context_rules d c)) h)

pub contexts_outs : (d : ModelData) (n c : ℕ) (b : Built) → (contexts_built d b n c).outs ≡ b.outs
contexts_outs d zero c b = refl
contexts_outs d (suc n) c b = contexts_outs d n (c + 1) (with_forms b (context_rules d c))

-- the rules of so many contexts hold
abbrev pub ContextsHold : Valuation → ModelData → ℕ → ℕ → Type 0
ContextsHold v d zero c = Unit {0}
ContextsHold v d (suc n) c = Hold v (context_rules d c) × ContextsHold v d n (c + 1)

pub contexts_ones : (v : Valuation) (d : ModelData) (n c : ℕ) (b : Built) → IsReady d → IsLawful v (contexts_built d b n c).terms → AreOnes v (contexts_built d b n c).required → AreOnes v b.required × ContextsHold v d n c
contexts_ones v d zero c b ready h o = (o, tt)
contexts_ones v d (suc n) c b ready h o =
    let q = with_forms b (context_rules d c) in
    let p = contexts_ones v d n (c + 1) q ready h o in
    let s = forms_ones v b (context_rules d c) (context_forms d c ready) (contexts_before v d n (c + 1) q h) p.0 in
    (s.0, (s.1, p.1))

pub ones_contexts : (v : Valuation) (d : ModelData) (n c : ℕ) (b : Built) → IsReady d → IsLawful v (contexts_built d b n c).terms → AreOnes v b.required → ContextsHold v d n c → AreOnes v (contexts_built d b n c).required
ones_contexts v d zero c b ready h o k = o
ones_contexts v d (suc n) c b ready h o k =
    let q = with_forms b (context_rules d c) in
    ones_contexts v d n (c + 1) q ready h (ones_forms v b (context_rules d c) (context_forms d c ready) (contexts_before v d n (c + 1) q h) o k.0) k.1

-- ---- accesses

access_before : (v : Valuation) (d : ModelData) (r : Requests) (b : Built) (k : ℕ) (a : AccessWish) → IsLawful v (access_built d r b k a).terms → IsLawful v (with_forms b (access_rules d r k a)).terms
access_before v d r b k a h = walk_before v (access_of d r k a) (steps d) (first_state (access_of d r k a) (with_forms b (access_rules d r k a)).terms (words_at d r k)) 0 h

pub accesses_before : (v : Valuation) (d : ModelData) (r : Requests) (wishes : List AccessWish) (b : Built) (k : ℕ) → IsLawful v (accesses_built d r b k wishes).terms → IsLawful v b.terms
accesses_before v d r [] b k h = h
accesses_before v d r (a ∷ more) b k h = required_before v (access_rules d r k a) b.terms (access_before v d r b k a (accesses_before v d r more (access_built d r b k a) (k + 1) h))

-- what stands for the nodes of one access
pub record IsPlaced (v : Valuation) (d : ModelData) (r : Requests) (k : ℕ) (a : AccessWish) (outs : List Out) : Type 0 where
  pub terms : List Term
  pub outs_are : outs ≡ (walk_placed (access_of d r k a) (first_state (access_of d r k a) terms (words_at d r k)) (steps d) 0).outs
  pub lawful : IsLawful v (walk_placed (access_of d r k a) (first_state (access_of d r k a) terms (words_at d r k)) (steps d) 0).terms

abbrev pub ArePlaced : Valuation → ModelData → Requests → ℕ → List AccessWish → List (List Out) → Type 0
ArePlaced v d r k [] [] = Unit {0}
ArePlaced v d r k (a ∷ more) (os ∷ oss) = IsPlaced v d r k a os × ArePlaced v d r (k + 1) more oss
ArePlaced v d r k _ _ = ⊥

pub accesses_placed : (v : Valuation) (d : ModelData) (r : Requests) (wishes : List AccessWish) (b : Built) (k : ℕ) → IsLawful v (accesses_built d r b k wishes).terms
    → (oss : List (List Out)) × ((accesses_built d r b k wishes).outs ≡ b.outs ++ oss) × ArePlaced v d r k wishes oss
accesses_placed v d r [] b k h = ([], sym (append-nil b.outs), tt)
accesses_placed v d r (a ∷ more) b k h =
    let q = with_forms b (access_rules d r k a) in
    let c = access_built d r b k a in
    let w = walk_placed (access_of d r k a) (first_state (access_of d r k a) q.terms (words_at d r k)) (steps d) 0 in
    let p = accesses_placed v d r more c (k + 1) h in
    (w.outs ∷ p.0, p.1 ∙ append_assoc b.outs (w.outs ∷ []) p.0, (record { terms = q.terms; outs_are = refl; lawful = accesses_before v d r more c (k + 1) h }, p.2))

abbrev pub AccessesHold : Valuation → ModelData → Requests → ℕ → List AccessWish → Type 0
AccessesHold v d r k [] = Unit {0}
AccessesHold v d r k (a ∷ more) = Hold v (access_rules d r k a) × AccessesHold v d r (k + 1) more

pub accesses_ones : (v : Valuation) (d : ModelData) (r : Requests) (wishes : List AccessWish) (b : Built) (k : ℕ) → IsReady d → IsLawful v (accesses_built d r b k wishes).terms → AreOnes v (accesses_built d r b k wishes).required → AreOnes v b.required × AccessesHold v d r k wishes
accesses_ones v d r [] b k ready h o = (o, tt)
accesses_ones v d r (a ∷ more) b k ready h o =
    let c = access_built d r b k a in
    let p = accesses_ones v d r more c (k + 1) ready h o in
    let s = forms_ones v b (access_rules d r k a) (access_forms d r k a ready) (access_before v d r b k a (accesses_before v d r more c (k + 1) h)) p.0 in
    (s.0, (s.1, p.1))

pub ones_accesses : (v : Valuation) (d : ModelData) (r : Requests) (wishes : List AccessWish) (b : Built) (k : ℕ) → IsReady d → IsLawful v (accesses_built d r b k wishes).terms → AreOnes v b.required → AccessesHold v d r k wishes → AreOnes v (accesses_built d r b k wishes).required
ones_accesses v d r [] b k ready h o m = o
ones_accesses v d r (a ∷ more) b k ready h o m =
    let c = access_built d r b k a in
    ones_accesses v d r more c (k + 1) ready h (ones_forms v b (access_rules d r k a) (access_forms d r k a ready) (access_before v d r b k a (accesses_before v d r more c (k + 1) h)) o m.0) m.1

-- ---- the whole

-- the parts of a solved problem
pub record IsSolved (v : Valuation) (d : ModelData) (r : Requests) : Type 0 where
  pub contexts : ContextsHold v d (length r.contexts) 0
  pub accesses : AccessesHold v d r 0 r.accesses
  pub claims : Hold v (claim_forms d r (built d r).outs)

pub table_starts : (v : Valuation) (d : ModelData) (r : Requests) → AreValues v (table d r).terms → IsLawful v (built d r).terms × IsLawful v (start d r).terms
unfolding table
table_starts v d r h =
    let b = built d r in
    let h1 : IsLawful v b.terms = (all_before AreValues fold fold_gives v (claim_forms d r b.outs ++ extra_forms d r b.terms b.outs) b.terms h).lawful in
    (h1, contexts_before v d (length r.contexts) 0 (start d r) (accesses_before v d r r.accesses (contexts_built d (start d r) (length r.contexts) 0) 0 h1))

-- and so are those that stand before the claims
pub table_built : (v : Valuation) (d : ModelData) (r : Requests) → AreValues v (table d r).terms → AreValues v (built d r).terms
unfolding table
table_built v d r h = let b = built d r in all_before AreValues fold fold_gives v (claim_forms d r b.outs ++ extra_forms d r b.terms b.outs) b.terms h

pub table_placed : (v : Valuation) (d : ModelData) (r : Requests) → IsLawful v (built d r).terms → ArePlaced v d r 0 r.accesses (built d r).outs
table_placed v d r h =
    let c = contexts_built d (start d r) (length r.contexts) 0 in
    let p = accesses_placed v d r r.accesses c 0 h in
    let e : (built d r).outs ≡ p.0 = p.1 ∙ ap (λ (l : List (List Out)). l ++ p.0) (contexts_outs d (length r.contexts) 0 (start d r)) in
    subst (λ (l : List (List Out)). ArePlaced v d r 0 r.accesses l) (sym e) p.2

pub table_solved : (v : Valuation) (d : ModelData) (r : Requests) → IsReady d → HaveForms (claim_forms d r (built d r).outs ++ extra_forms d r (built d r).terms (built d r).outs) → AreValues v (table d r).terms → AreOnes v (table d r).required → IsSolved v d r
unfolding table
table_solved v d r ready f h o =
    let b = built d r in
    let c = contexts_built d (start d r) (length r.contexts) 0 in
    let s = forms_ones_by AreValues fold fold_gives v b (claim_forms d r b.outs ++ extra_forms d r b.terms b.outs) f h o in
    let h1 : IsLawful v b.terms = (all_before AreValues fold fold_gives v (claim_forms d r b.outs ++ extra_forms d r b.terms b.outs) b.terms h).lawful in
    let p = accesses_ones v d r r.accesses c 0 ready h1 s.0 in
    let q = contexts_ones v d (length r.contexts) 0 (start d r) ready (accesses_before v d r r.accesses c 0 h1) p.0 in
    record { contexts = q.1; accesses = p.1; claims = (AllByRecursion-split (λ (g : Form). is_one (form_value v g) ≡ true) (claim_forms d r b.outs) (extra_forms d r b.terms b.outs) s.1).0 }

pub solved_table : (v : Valuation) (d : ModelData) (r : Requests) → IsReady d → HaveForms (claim_forms d r (built d r).outs ++ extra_forms d r (built d r).terms (built d r).outs) → AreValues v (table d r).terms → IsSolved v d r → Hold v (extra_forms d r (built d r).terms (built d r).outs) → AreOnes v (table d r).required
unfolding table
solved_table v d r ready f h s x =
    let b = built d r in
    let c = contexts_built d (start d r) (length r.contexts) 0 in
    let h1 : IsLawful v b.terms = (all_before AreValues fold fold_gives v (claim_forms d r b.outs ++ extra_forms d r b.terms b.outs) b.terms h).lawful in
    let q = ones_contexts v d (length r.contexts) 0 (start d r) ready (accesses_before v d r r.accesses c 0 h1) tt s.contexts in
    let p = ones_accesses v d r r.accesses c 0 ready h1 q s.accesses in
    ones_forms_by AreValues fold fold_gives v b (claim_forms d r b.outs ++ extra_forms d r b.terms b.outs) f h p (AllByRecursion-append (λ (g : Form). is_one (form_value v g) ≡ true) (claim_forms d r b.outs) (extra_forms d r b.terms b.outs) s.claims x)
