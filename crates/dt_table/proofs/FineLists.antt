-- The terms of a list's problem are well formed, and what is required is one bit wide.
use Rattle.std.proofs.Common.{◌≡◌, ℕ, zero, suc, ◌+◌, ◌*◌, ◌<◌, ◌≤◌, ◌^◌, Bool, true, false, cond, eqb, List, [], ◌∷◌, ◌++◌, length, map, Some, refl, sym, ap, ◌∙◌, subst, arith, length-append}
use Rattle.std.specs.List.{flat_map, AllByRecursion}
use Rattle.std.proofs.lemmas.List.{length-map}
use Rattle.dt_lemmas.proofs.Lists.{AllByRecursion-append}
use Rattle.dt_bits.specs.Bits.{IsWidth}
use Rattle.dt_model.specs.ModelData.{ModelData, ActData, Tree}
use Rattle.dt_model.specs.Faults.{steps, context_scope, access_scope}
use Rattle.dt_model.specs.Widths.{Scope, HasArities, tree_width, width_at, operators}
use Rattle.dt_request.specs.declared.list.AccessWish.{AccessWish}
use Rattle.dt_request.specs.declared.list.Requests.{Requests}
use Rattle.dt_request.specs.declared.list.KeptRange.{KeptRange}
use Rattle.dt_request.specs.Choices.{read_nodes}
use Rattle.dt_request.specs.Lists.{IsDemand, IsLink}
use Rattle.dt_terms.specs.declared.term.Term.{Term}
use Rattle.dt_terms.specs.Terms.{AreTerms}
use Rattle.dt_terms.specs.Problem.{IsTest}
use Rattle.dt_forms.specs.Forms.{Form, Placing, required_by, term}
use Rattle.dt_forms.specs.Placing.{place}
use Rattle.dt_forms.specs.Sizes.{Grows}
use Rattle.dt_forms.proofs.Sizes.{Puts, place_can, grows_none, grows_on, grows_within}
use Rattle.dt_forms.proofs.Fine.{IsSized, AreFine, forms_size, all_stand, tests_on, fine_append, mul_more, term_fine, or_fine, size_append}
use Rattle.dt_table.specs.Expressions.{Named, form_of}
use Rattle.dt_table.specs.declared.out.Out.{Out}
use Rattle.dt_table.specs.Passing.{walk_placed}
use Rattle.dt_table.specs.Claims.{reads_of}
use Rattle.dt_table.proofs.Every.{every_pair, every_link, every_block, every_keep, every_list, every_claim, pages_in, tables_in, reads_among, claim_part}
use Rattle.dt_table.specs.Apart.{Sized, pages_at, tables_at}
use Rattle.dt_table.specs.Demands.{demand_forms}
use Rattle.dt_table.specs.Table.{choices, regs_at, inputs_at, words_at, access_of, first_state, rule_named, context_rules, access_rules, Built, with_by, with_forms, contexts_built, access_built, accesses_built, wish_forms, claim_forms, list_access}
use Rattle.dt_reach.specs.declared.ways.Ways.{Ways}
use Rattle.dt_ways.specs.Ways.{access_ways}
use Rattle.dt_reach.specs.Reach.{is_live, none_pass}
use Rattle.dt_table.specs.Extras.{dead_forms, sure_forms, dominator_if, is_new, dominator_forms, extras_of, all_extras}
use Rattle.dt_table.specs.Outs.{out_at}
use Rattle.dt_reach.specs.Dominating.{immediate_dominator}
use Rattle.dt_reach.proofs.Dominating.{immediate_within}
use Rattle.dt_table.proofs.Accesses.{length_outs}
use Rattle.dt_table.proofs.Ready.{IsReady, access_left, reads_in, reads_in_nodes}
use Rattle.dt_table.proofs.FineTrees.{AreSized, tree_fine, tree_size}
use Rattle.dt_table.proofs.FineChoices.{AreChosen, chosen_on}
use Rattle.dt_table.proofs.FineWalks.{IsPlain, IsSound, outs_on, steps_size, walk_sound, IsOutSized}
use Rattle.dt_table.proofs.FineClaims.{AreBits, AreWide, AreNamesSized, AreOutsSized, pages_sized, tables_sized, reads_sized, aparts_fine, pairs_fine, keeps_fine, demands_fine, links_fine, IsNodeSized, IsReadSized, node_sized}
use Rattle.dt_table.proofs.Flagged.{AllOuts}

-- ---- rules

-- the expressions are rules over these names
abbrev pub AreRules : Scope → List Tree → Type 0
AreRules s ts = AllByRecursion (λ (t : Tree). HasArities t × (tree_width s t ≡ Some 1)) ts

abbrev pub rules_size : List Tree → ℕ
rules_size [] = 0
rules_size (t ∷ ts) = 3 * operators t + 1 + rules_size ts

rules_fine : (terms : List Term) (at : Named) (ts : List Tree) → AreSized terms at → AreRules at.scope ts → AreFine terms (map (form_of at) ts)
rules_fine terms at [] h r = tt
rules_fine terms at (t ∷ ts) h r = (tree_fine t terms at 1 h r.0.0 r.0.1, rules_fine terms at ts h r.1)

rules_most : (at : Named) (ts : List Tree) → forms_size (map (form_of at) ts) ≤ rules_size ts
rules_most at [] = omega arith
rules_most at (t ∷ ts) = let a = tree_size at t in let b = rules_most at ts in omega (arith, a, b)

no_name : (i w : ℕ) → width_at [] i ≡ Some w → ⊥
no_name i w e = absurd (cc)

-- ---- what is built

-- the terms are well formed, the choices stand, and what is required is one bit wide
pub record IsBuilt (d : ModelData) (r : Requests) (b : Built) : Type 0 where
  pub terms_are : AreTerms b.terms
  pub chosen : AreChosen b.terms d r
  pub tests : AllByRecursion (IsTest b.terms) b.required

-- after another, with so many terms more at most
pub record IsOnward (d : ModelData) (r : Requests) (b c : Built) (k : ℕ) : Type 0 where
  pub grows : Grows b.terms c.terms k
  pub built_is : IsBuilt d r c

pub onward_by : (placing : Placing) → Puts placing → (d : ModelData) (r : Requests) (b : Built) (fs : List Form) (k : ℕ) → IsBuilt d r b → AreFine b.terms fs → forms_size fs ≤ k → IsOnward d r b (with_by placing b fs) k
onward_by placing puts d r b fs k h f l =
    let q = required_by placing b.terms fs in
    let s = all_stand placing puts fs b.terms h.terms_are f in
    let g = grows_within b.terms q.terms (forms_size fs) k l s.grows in
    record {
      grows = g;
      built_is = record {
        terms_are = g.terms_are;
        chosen = chosen_on b.terms q.terms k d r g h.chosen;
        tests = AllByRecursion-append (IsTest q.terms) b.required q.required (tests_on b.terms q.terms k b.required g h.tests) s.tests;
      };
    }

pub forms_onward : (d : ModelData) (r : Requests) (b : Built) (fs : List Form) (k : ℕ) → IsBuilt d r b → AreFine b.terms fs → forms_size fs ≤ k → IsOnward d r b (with_forms b fs) k
forms_onward d r b fs k h f l = onward_by place place_can d r b fs k h f l

-- ---- contexts

pub contexts_onward : (d : ModelData) (r : Requests) (n c : ℕ) (b : Built) → AreRules (context_scope d) d.legal_context → IsBuilt d r b → c + n ≤ length r.contexts → IsOnward d r b (contexts_built d b n c) (n * rules_size d.legal_context)
contexts_onward d r zero c b rules h l = record { grows = grows_within b.terms b.terms 0 (0 * rules_size d.legal_context) (omega arith) (grows_none b.terms h.terms_are); built_is = h }
contexts_onward d r (suc n) c b rules h l =
    let at = rule_named (context_scope d) (regs_at d c) 0 in
    let sized : AreSized b.terms at = record {
      regs = λ i w e. h.chosen.regs c (omega (arith, l)) i w e;
      inputs = λ i w e. absurd (no_name i w e);
      vars = λ x w e. absurd (no_name x w e);
      wide = λ x w e. absurd (no_name x w e);
    } in
    let q = with_forms b (context_rules d c) in
    let x = forms_onward d r b (context_rules d c) (rules_size d.legal_context) h (rules_fine b.terms at d.legal_context sized rules) (rules_most at d.legal_context) in
    let y = contexts_onward d r n (c + 1) q rules x.built_is (omega (arith, l)) in
    let all = contexts_built d q n (c + 1) in
    let m : rules_size d.legal_context + n * rules_size d.legal_context ≡ suc n * rules_size d.legal_context = sym (mul_more n (rules_size d.legal_context)) in
    record { grows = subst (λ (k : ℕ). Grows b.terms all.terms k) m (grows_on b.terms q.terms all.terms (rules_size d.legal_context) (n * rules_size d.legal_context) x.grows y.grows); built_is = y.built_is }

-- ---- accesses

-- what is asked of the model, beside that it is ready
pub record IsModel (d : ModelData) : Type 0 where
  pub ready : IsReady d
  pub wide : AreWide d
  pub vars : (x w : ℕ) → width_at d.vars x ≡ Some w → IsWidth w
  pub context_rules : AreRules (context_scope d) d.legal_context
  pub access_rules : AreRules (access_scope d) d.legal_access

abbrev pub access_size : ModelData → ℕ
access_size d = rules_size d.legal_access + steps_size (steps d)

pub record IsAccessOnward (d : ModelData) (r : Requests) (b : Built) (k : ℕ) (a : AccessWish) : Type 0 where
  pub onward : IsOnward d r b (access_built d r b k a) (access_size d)
  pub outs : (os : List Out) × ((access_built d r b k a).outs ≡ b.outs ++ os ∷ []) × AreOutsSized d (access_built d r b k a).terms os

access_onward : (d : ModelData) (r : Requests) (b : Built) (k : ℕ) (a : AccessWish) → IsModel d → ((k : ℕ) → k < length r.accesses → IsPlain (access_of d r k a)) → IsBuilt d r b → a.context < length r.contexts → k < length r.accesses → IsAccessOnward d r b k a
access_onward d r b k a model plain h c l =
    let at = rule_named (access_scope d) (regs_at d a.context) (inputs_at d r k) in
    let sized : AreSized b.terms at = record {
      regs = λ i w e. h.chosen.regs a.context c i w e;
      inputs = λ i w e. h.chosen.inputs k l i w e;
      vars = λ x w e. absurd (no_name x w e);
      wide = λ x w e. absurd (no_name x w e);
    } in
    let q = with_forms b (access_rules d r k a) in
    let x = forms_onward d r b (access_rules d r k a) (rules_size d.legal_access) h (rules_fine b.terms at d.legal_access sized model.access_rules) (rules_most at d.legal_access) in
    let acc = access_of d r k a in
    let s = first_state acc q.terms (words_at d r k) in
    let chosen = x.built_is.chosen in
    let same : reads_in (steps d) ≡ read_nodes d = reads_in_nodes d.nodes in
    let sound : IsSound acc d.word (reads_in (steps d)) q.terms s = record {
      terms_are = x.built_is.terms_are;
      zero_is = chosen.zero_is;
      one_is = chosen.one_is;
      names = record { regs = λ i w e. chosen.regs a.context c i w e; inputs = λ i w e. chosen.inputs k l i w e; vars = λ x w e. tt; wide = model.vars };
      come = λ n. by_first (eqb n 0) chosen.zero_is chosen.one_is;
      away = chosen.zero_is;
      words = λ j m. chosen.words k l j (omega (arith, m, same));
    } in
    let w = walk_sound acc d.word (steps d) (steps d) s 0 (plain k l) (access_left d r k a model.ready) sound in
    let all = (walk_placed acc s (steps d) 0).terms in
    let os = (walk_placed acc s (steps d) 0).outs in
    let n = steps_size (steps d) in
    record {
      onward = record {
        grows = grows_on b.terms q.terms all (rules_size d.legal_access) n x.grows w.grows;
        built_is = record { terms_are = w.grows.terms_are; chosen = chosen_on q.terms all n d r w.grows chosen; tests = tests_on q.terms all n q.required w.grows x.built_is.tests };
      };
      outs = (os, refl, record { count = length_outs acc (steps d) s 0; outs = w.outs });
    }
  where
    by_first : (z : Bool) {terms : List Term} → IsSized terms (length (choices d r)) 1 → IsSized terms (length (choices d r) + 1) 1 → IsSized terms (cond z (length (choices d r) + 1) (length (choices d r))) 1
    by_first true p q = q
    by_first false p q = p

outs_move : (d : ModelData) (xs ys : List Term) (k : ℕ) (os : List Out) → Grows xs ys k → AreOutsSized d xs os → AreOutsSized d ys os
outs_move d xs ys k os g h = record { count = h.count; outs = outs_on d.address d.word xs ys k (steps d) os g h.outs }

all_move : (d : ModelData) (xs ys : List Term) (k : ℕ) (oss : List (List Out)) → Grows xs ys k → AllByRecursion (AreOutsSized d xs) oss → AllByRecursion (AreOutsSized d ys) oss
all_move d xs ys k [] g h = tt
all_move d xs ys k (os ∷ oss) g h = (outs_move d xs ys k os g h.0, all_move d xs ys k oss g h.1)

pub record AreAccessesOnward (d : ModelData) (r : Requests) (b : Built) (k : ℕ) (wishes : List AccessWish) : Type 0 where
  pub onward : IsOnward d r b (accesses_built d r b k wishes) (length wishes * access_size d)
  pub outs : AllByRecursion (AreOutsSized d (accesses_built d r b k wishes).terms) (accesses_built d r b k wishes).outs
  pub count : length (accesses_built d r b k wishes).outs ≡ length b.outs + length wishes

pub accesses_onward : (d : ModelData) (r : Requests) (wishes : List AccessWish) (b : Built) (k : ℕ) → IsModel d → ((k : ℕ) (a : AccessWish) → IsPlain (access_of d r k a)) → IsBuilt d r b → AllByRecursion (AreOutsSized d b.terms) b.outs
    → AllByRecursion (λ (a : AccessWish). a.context < length r.contexts) wishes → k + length wishes ≤ length r.accesses → AreAccessesOnward d r b k wishes
accesses_onward d r [] b k model plain h o c l = record {
  onward = record { grows = grows_within b.terms b.terms 0 (0 * access_size d) (omega arith) (grows_none b.terms h.terms_are); built_is = h };
  outs = o;
  count = omega arith;
}
accesses_onward d r (a ∷ more) b k model plain h o c l =
    let x = access_onward d r b k a model (λ j m. plain j a) h c.0 (omega (arith, l)) in
    let q = access_built d r b k a in
    let os = x.outs.0 in
    let moved = all_move d b.terms q.terms (access_size d) b.outs x.onward.grows o in
    let outs = subst (λ (l : List (List Out)). AllByRecursion (AreOutsSized d q.terms) l) (sym x.outs.1) (AllByRecursion-append (AreOutsSized d q.terms) b.outs (os ∷ []) moved (x.outs.2, tt)) in
    let y = accesses_onward d r more q (k + 1) model plain x.onward.built_is outs c.1 (omega (arith, l)) in
    let all = accesses_built d r q (k + 1) more in
    let m : access_size d + length more * access_size d ≡ suc (length more) * access_size d = sym (mul_more (length more) (access_size d)) in
    let n : length q.outs ≡ length b.outs + 1 = ap length x.outs.1 ∙ length-append b.outs (os ∷ []) in
    record {
      onward = record { grows = subst (λ (j : ℕ). Grows b.terms all.terms j) m (grows_on b.terms q.terms all.terms (access_size d) (length more * access_size d) x.onward.grows y.onward.grows); built_is = y.onward.built_is };
      outs = y.outs;
      count = let e = y.count in omega (arith, e, n);
    }

-- ---- claims

wishes_fine : (d : ModelData) (r : Requests) (terms : List Term) (wishes : List AccessWish) (oss : List (List Out)) (k : ℕ) → IsModel d → AreChosen terms d r → AllByRecursion (AreOutsSized d terms) oss
    → AllByRecursion (λ (a : AccessWish). a.context < length r.contexts) wishes → AllByRecursion (λ (a : AccessWish). AllByRecursion (IsDemand d) a.demands) wishes → k + length wishes ≤ length r.accesses → AreFine terms (wish_forms d r k wishes oss)
wishes_fine d r terms [] oss k model h o c q l = tt
wishes_fine d r terms (a ∷ more) [] k model h o c q l = tt
wishes_fine d r terms (a ∷ more) (os ∷ oss) k model h o c q l =
    let acc = access_of d r k a in
    let names : AreNamesSized d acc terms = record { regs = λ i w e. h.regs a.context c.0 i w e; inputs = λ i w e. h.inputs k (omega (arith, l)) i w e } in
    fine_append terms (flat_map (demand_forms d acc os) a.demands) (wish_forms d r (k + 1) more oss)
    (demands_fine d acc terms os a.demands (length-map d.nodes _) model.wide names o.0 q.0) (wishes_fine d r terms more oss (k + 1) model h o.1 c.1 q.1 (omega (arith, l)))

flat_pages : (d : ModelData) (terms : List Term) (oss : List (List Out)) → AllByRecursion (AreOutsSized d terms) oss → AllByRecursion (λ (x : Sized). IsNodeSized d.address d.word terms x.out) (flat_map (pages_at (steps d)) oss)
flat_pages d terms [] h = tt
flat_pages d terms (os ∷ oss) h = AllByRecursion-append (λ (x : Sized). IsNodeSized d.address d.word terms x.out) (pages_at (steps d) os) (flat_map (pages_at (steps d)) oss) (pages_sized d.address d.word terms (steps d) os h.0.outs) (flat_pages d terms oss h.1)

flat_tables : (d : ModelData) (terms : List Term) (oss : List (List Out)) → AllByRecursion (AreOutsSized d terms) oss → AllByRecursion (λ (x : Sized). IsNodeSized d.address d.word terms x.out) (flat_map (tables_at (steps d)) oss)
flat_tables d terms [] h = tt
flat_tables d terms (os ∷ oss) h = AllByRecursion-append (λ (x : Sized). IsNodeSized d.address d.word terms x.out) (tables_at (steps d) os) (flat_map (tables_at (steps d)) oss) (tables_sized d.address d.word terms (steps d) os h.0.outs) (flat_tables d terms oss h.1)

flat_reads : (d : ModelData) (terms : List Term) (oss : List (List Out)) → AllByRecursion (AreOutsSized d terms) oss → AllByRecursion (IsReadSized d.address d.word terms) (flat_map (reads_of (steps d)) oss)
flat_reads d terms [] h = tt
flat_reads d terms (os ∷ oss) h = AllByRecursion-append (IsReadSized d.address d.word terms) (reads_of (steps d) os) (flat_map (reads_of (steps d)) oss) (reads_sized d.address d.word terms (steps d) os h.0.outs) (flat_reads d terms oss h.1)

-- what is asked of a list
pub record IsAsked (d : ModelData) (r : Requests) : Type 0 where
  pub contexts : AllByRecursion (λ (a : AccessWish). a.context < length r.contexts) r.accesses
  pub demands : AllByRecursion (λ (a : AccessWish). AllByRecursion (IsDemand d) a.demands) r.accesses
  pub links : AllByRecursion (IsLink d (length r.accesses)) r.links
  pub kept : AllByRecursion (λ (k : KeptRange). k.hi ≤ 2 ^ d.address) r.kept

every_fine : (d : ModelData) (r : Requests) (terms : List Term) (oss : List (List Out)) → IsModel d → IsAsked d r → AreChosen terms d r → AllByRecursion (AreOutsSized d terms) oss → length oss ≡ length r.accesses → AreFine terms (every_claim d r oss)
every_fine d r terms oss model asked h o n =
    let a = list_access d r in
    let bits : AreBits terms a = record { zero_is = h.zero_is; one_is = h.one_is; wide = model.wide.address } in
    let pages = pages_in d oss in
    let tables = tables_in d oss in
    let links = flat_map (every_link d a oss) r.links in
    fine_append terms (every_pair (reads_among d oss)) (every_list d r oss) (pairs_fine d.address d.word terms (reads_among d oss) (flat_reads d terms oss o))
    (fine_append terms (wish_forms d r 0 r.accesses oss) (links ++ (every_block d r oss ++ every_keep d r oss)) (wishes_fine d r terms r.accesses oss 0 model h o asked.contexts asked.demands (omega arith))
    (fine_append terms links (every_block d r oss ++ every_keep d r oss) (links_fine d a terms oss r.links refl bits o (subst (λ (m : ℕ). AllByRecursion (IsLink d m) r.links) (sym n) asked.links))
    (fine_append terms (every_block d r oss) (every_keep d r oss) (aparts_fine d.word terms a pages tables bits (flat_pages d terms oss o) (flat_tables d terms oss o))
    (keeps_fine d.word terms a pages tables r.kept bits (flat_pages d terms oss o) (flat_tables d terms oss o) asked.kept))))

pub claims_fine : (d : ModelData) (r : Requests) (terms : List Term) (oss : List (List Out)) → IsModel d → IsAsked d r → AreChosen terms d r → AllByRecursion (AreOutsSized d terms) oss → length oss ≡ length r.accesses → AreFine terms (claim_forms d r oss)
claims_fine d r terms oss model asked h o n = (claim_part d r oss).all _ (every_fine d r terms oss model asked h o n)

-- ---- further forms

dead_fine : (address word : ℕ) (terms : List Term) (live : ℕ → Bool) (ps : List ActData) (os : List Out) (n : ℕ) → length os ≡ length ps → AllOuts (IsOutSized address word terms) ps os → AreFine terms (dead_forms live os n)
dead_fine address word terms live ps [] n e h = tt
dead_fine address word terms live [] (o ∷ os) n e h = absurd (omega (arith, e))
dead_fine address word terms live (p ∷ ps) (o ∷ os) n e h = by_live (live n) (dead_fine address word terms live ps os (n + 1) (omega (arith, e)) h.1)
  where
    by_live : (b : Bool) → AreFine terms (dead_forms live os (n + 1)) → AreFine terms (cond b (dead_forms live os (n + 1)) (term o.away ∷ dead_forms live os (n + 1)))
    by_live true g = g
    by_live false g = (term_fine terms o.away 1 h.0.away, g)

sure_fine : (address word : ℕ) (terms : List Term) (live : ℕ → Bool) (all : List Ways) (ps : List ActData) (os : List Out) (n : ℕ) → length os ≡ length ps → AllOuts (IsOutSized address word terms) ps os → AreFine terms (sure_forms live all os n)
sure_fine address word terms live all ps [] n e h = tt
sure_fine address word terms live all [] (o ∷ os) n e h = absurd (omega (arith, e))
sure_fine address word terms live all (p ∷ ps) (o ∷ os) n e h = by_sure (none_pass live all 0 n) (sure_fine address word terms live all ps os (n + 1) (omega (arith, e)) h.1)
  where
    by_sure : (b : Bool) → AreFine terms (sure_forms live all os (n + 1)) → AreFine terms (cond b (term o.come ∷ sure_forms live all os (n + 1)) (sure_forms live all os (n + 1)))
    by_sure true g = (term_fine terms o.come 1 h.0.come, g)
    by_sure false g = g

dominators_fine : (d : ModelData) (terms : List Term) (live sure : ℕ → Bool) (last : ℕ → ℕ) (all : List Out) (os : List Out) (n : ℕ) → ((k : ℕ) → last k ≤ k) → AreOutsSized d terms all → n + length os ≤ length all → ((j : ℕ) → j < length os → IsSized terms (out_at os j).away 1) → AreFine terms (dominator_forms live sure last all os n)
dominators_fine d terms live sure last all [] n before h l away = tt
dominators_fine d terms live sure last all (o ∷ os) n before h l away =
    fine_append terms (dominator_if (is_new live sure n (last n)) o (out_at all (last n))) (dominator_forms live sure last all os (n + 1)) (by_new (is_new live sure n (last n)))
    (dominators_fine d terms live sure last all os (n + 1) before h (omega (arith, l)) (λ j m. away (suc j) (omega (arith, m))))
  where
    by_new : (b : Bool) → AreFine terms (dominator_if b o (out_at all (last n)))
    by_new true =
        let m = before n in
        let count = h.count in
        let by = (node_sized d terms all (last n) h (omega (arith, l, m, count))).1 in
        (or_fine terms (term o.away) (term (out_at all (last n)).come) (term_fine terms o.away 1 (away 0 (omega arith))) (term_fine terms (out_at all (last n)).come 1 by.come), tt)
    by_new false = tt

pub extras_fine : (d : ModelData) (r : Requests) (terms : List Term) (k : ℕ) (oss : List (List Out)) → AllByRecursion (AreOutsSized d terms) oss → AreFine terms (all_extras d r k oss)
extras_fine d r terms k [] h = tt
extras_fine d r terms k (os ∷ oss) h =
    let ws = access_ways d r k in
    let live = is_live ws in
    let sure = none_pass live ws 0 in
    let last = immediate_dominator ws in
    let count = h.0.count in
    let away : (j : ℕ) → j < length os → IsSized terms (out_at os j).away 1 = λ j l. (node_sized d terms os j h.0 (omega (arith, l, count))).1.away in
    fine_append terms (extras_of ws os) (all_extras d r (k + 1) oss)
    (fine_append terms (dead_forms live os 0) (sure_forms live ws os 0 ++ dominator_forms live sure last os os 0) (dead_fine d.address d.word terms live (steps d) os 0 count h.0.outs)
    (fine_append terms (sure_forms live ws os 0) (dominator_forms live sure last os os 0) (sure_fine d.address d.word terms live ws (steps d) os 0 count h.0.outs)
    (dominators_fine d terms live sure last os os 0 (immediate_within ws) h.0 (omega arith) away)))
    (extras_fine d r terms (k + 1) oss h.1)

dead_size : (live : ℕ → Bool) (os : List Out) (n : ℕ) → forms_size (dead_forms live os n) ≡ 0
dead_size live [] n = refl
dead_size live (o ∷ os) n = by_live (live n) (dead_size live os (n + 1))
  where
    by_live : (b : Bool) → forms_size (dead_forms live os (n + 1)) ≡ 0 → forms_size (cond b (dead_forms live os (n + 1)) (term o.away ∷ dead_forms live os (n + 1))) ≡ 0
    by_live true g = g
    by_live false g = omega (arith, g)

sure_size : (live : ℕ → Bool) (ws : List Ways) (os : List Out) (n : ℕ) → forms_size (sure_forms live ws os n) ≡ 0
sure_size live ws [] n = refl
sure_size live ws (o ∷ os) n = by_sure (none_pass live ws 0 n) (sure_size live ws os (n + 1))
  where
    by_sure : (b : Bool) → forms_size (sure_forms live ws os (n + 1)) ≡ 0 → forms_size (cond b (term o.come ∷ sure_forms live ws os (n + 1)) (sure_forms live ws os (n + 1))) ≡ 0
    by_sure true g = omega (arith, g)
    by_sure false g = g

dominators_size : (live sure : ℕ → Bool) (last : ℕ → ℕ) (all os : List Out) (n : ℕ) → forms_size (dominator_forms live sure last all os n) ≤ length os
dominators_size live sure last all [] n = omega arith
dominators_size live sure last all (o ∷ os) n =
    let here = by_new (is_new live sure n (last n)) in
    let s = size_append (dominator_if (is_new live sure n (last n)) o (out_at all (last n))) (dominator_forms live sure last all os (n + 1)) in
    let rest = dominators_size live sure last all os (n + 1) in
    omega (arith, here, s, rest)
  where
    by_new : (b : Bool) → forms_size (dominator_if b o (out_at all (last n))) ≤ 1
    by_new true = omega arith
    by_new false = omega arith

-- they take a term for each node of each access at most
pub extras_size : (d : ModelData) (r : Requests) (k : ℕ) (oss : List (List Out)) (nodes : ℕ) → AllByRecursion (λ (os : List Out). length os ≡ nodes) oss → forms_size (all_extras d r k oss) ≤ length oss * nodes
extras_size d r k [] nodes h = omega arith
extras_size d r k (os ∷ oss) nodes h =
    let ws = access_ways d r k in
    let live = is_live ws in
    let sure = none_pass live ws 0 in
    let last = immediate_dominator ws in
    let s = size_append (extras_of ws os) (all_extras d r (k + 1) oss) in
    let t = size_append (dead_forms live os 0) (sure_forms live ws os 0 ++ dominator_forms live sure last os os 0) in
    let u = size_append (sure_forms live ws os 0) (dominator_forms live sure last os os 0) in
    let x = dead_size live os 0 in
    let z = sure_size live ws os 0 in
    let w = dominators_size live sure last os os 0 in
    let y = extras_size d r (k + 1) oss nodes h.1 in
    let m = mul_more (length oss) nodes in
    let e = h.0 in
    omega (arith, s, t, u, x, z, w, y, m, e)

pub outs_counted : (d : ModelData) (terms : List Term) (oss : List (List Out)) → AllByRecursion (AreOutsSized d terms) oss → AllByRecursion (λ (os : List Out). length os ≡ length (steps d)) oss
outs_counted d terms [] h = tt
outs_counted d terms (os ∷ oss) h = (h.0.count, outs_counted d terms oss h.1)
