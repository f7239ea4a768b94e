-- The claims of a list hold of an image exactly where their forms hold of the values that tell the image.
use Rattle.std.proofs.Common.{◌≡◌, ℕ, zero, suc, ◌+◌, ◌<◌, ◌≤◌, ◌^◌, Bool, not, List, Option, Some, None, [], ◌∷◌, length, map, refl, sym, ap, ◌∙◌, subst, arith}
use Rattle.std.specs.Prelude.{slice_index_or, slice_get, IsSome, IsSomeAnd, IsTrue}
use Rattle.std.specs.List.{flat_map, zip, AllByRecursion}
use Rattle.std.proofs.lemmas.List.{length-map}
use Rattle.dt_lemmas.proofs.Lists.{AllByRecursion-append, AllByRecursion-split}
use Rattle.dt_bits.specs.Memory.{Memory}
use Rattle.dt_model.specs.ModelData.{ModelData, ActData}
use Rattle.dt_model.specs.Faults.{steps, context_scope, access_scope}
use Rattle.dt_request.specs.declared.list.AccessWish.{AccessWish}
use Rattle.dt_request.specs.declared.list.Requests.{Requests}
use Rattle.dt_request.specs.declared.list.Demand.{Demand}
use Rattle.dt_request.specs.declared.list.Demand.TheVariants.{Via, Avoid, Take, EndDone, EndFault, Page, Bits, Span}
use Rattle.dt_request.specs.Lists.{IsNode, IsDemand, is_fork, width_of}
use Rattle.dt_walk.specs.Meaning.{rule_holds}
use Rattle.dt_walk.specs.Walks.{RunData, walk_of}
use Rattle.dt_image.specs.declared.image.Image.{Image}
use Rattle.dt_image.specs.declared.image.ImageAccess.{ImageAccess}
use Rattle.dt_satisfy.specs.Demands.{Made, meets, visits, leaves, is_done, is_fault, is_page, is_masked, is_within}
use Rattle.dt_satisfy.specs.Claims.{registers, run_of, made_of, demand_claims}
use Rattle.dt_forms.specs.Meaning.{Valuation, is_one}
use Rattle.dt_forms.specs.Forms.{term}
use Rattle.dt_forms.proofs.Tells.{Tells, one_tells, TellAll, none_tell, tell_as, many_tell, each_tells}
use Rattle.dt_table.specs.declared.out.Out.{Out}
use Rattle.dt_table.specs.Told.{told}
use Rattle.dt_ways.specs.Ends.{ends_done, ends_fault, ends_page}
use Rattle.dt_table.specs.Demands.{is_masked_form, is_within_form, quantity_width, demand_forms}
use Rattle.dt_table.specs.Table.{regs_at, inputs_at, access_of, rule_named, wish_forms}
use Rattle.dt_table.specs.Images.{bits_from, contexts_told, accesses_told}
use Rattle.dt_table.specs.Outs.{out_at, edge_at}
use Rattle.dt_table.proofs.Ends.{ends_tell}
use Rattle.dt_table.proofs.Ready.{IsReady, AreSet}
use Rattle.dt_table.proofs.Composed.{rules_hold, hold_rules, context_same, access_same, ContextsHold, AccessesHold}
use Rattle.dt_table.proofs.Sides.{leaves_told}
use Rattle.dt_table.proofs.Visits.{visited, away_at}
use Rattle.dt_table.proofs.Quantities.{told_made, quantity_tells, masked_test, within_test}
use Rattle.dt_table.proofs.Told.{AreNodes, AllNodes, regs_of, inputs_of, done_same, fault_same, page_same}

-- the image that the values tell, over a memory
abbrev pub seen : Valuation → ModelData → Requests → Memory → Image
seen v d r m = record { memory = m; contexts = contexts_told v d (length r.contexts) 0; accesses = accesses_told v d r 0 r.accesses }

pub context_told : (v : Valuation) (d : ModelData) (n c j : ℕ) → j < n → slice_index_or (contexts_told v d n c) j [] ≡ bits_from v (regs_at d (c + j)) d.regs
context_told v d zero c j l = absurd (omega (arith, l))
context_told v d (suc n) c zero l = let z : c ≡ c + 0 = omega arith in ap (λ (k : ℕ). bits_from v (regs_at d k) d.regs) z
context_told v d (suc n) c (suc j) l =
    let z : c + 1 + j ≡ c + suc j = omega arith in
    context_told v d n (c + 1) j (omega (arith, l)) ∙ ap (λ (k : ℕ). bits_from v (regs_at d k) d.regs) z

abbrev pub access_told : Valuation → ModelData → Requests → ℕ → AccessWish → ImageAccess
access_told v d r k a = record { context = a.context; inputs = inputs_of v d r k }

pub registers_told : (v : Valuation) (d : ModelData) (r : Requests) (m : Memory) (k : ℕ) (a : AccessWish) → a.context < length r.contexts → registers (seen v d r m) (access_told v d r k a) ≡ regs_of v d a
registers_told v d r m k a l =
    let z : 0 + a.context ≡ a.context = omega arith in
    context_told v d (length r.contexts) 0 a.context l ∙ ap (λ (c : ℕ). bits_from v (regs_at d c) d.regs) z

-- ---- rules of contexts

pub contexts_claimed : (v : Valuation) (d : ModelData) (r : Requests) (n c : ℕ) → IsReady d → AreSet v d r → c + n ≤ length r.contexts → ContextsHold v d n c
    → AllByRecursion IsTrue (flat_map (λ regs. map (rule_holds d regs []) d.legal_context) (contexts_told v d n c))
contexts_claimed v d r zero c ready set l h = tt
contexts_claimed v d r (suc n) c ready set l h =
    let regs = bits_from v (regs_at d c) d.regs in
    AllByRecursion-append IsTrue (map (rule_holds d regs []) d.legal_context) (flat_map (λ regs. map (rule_holds d regs []) d.legal_context) (contexts_told v d n (c + 1)))
    (rules_hold v d (rule_named (context_scope d) (regs_at d c) 0) regs [] d.legal_context (context_same v d r c d.legal_context set (omega (arith, l)) ready.context_rules) h.0)
    (contexts_claimed v d r n (c + 1) ready set (omega (arith, l)) h.1)

pub claimed_contexts : (v : Valuation) (d : ModelData) (r : Requests) (n c : ℕ) → IsReady d → AreSet v d r → c + n ≤ length r.contexts
    → AllByRecursion IsTrue (flat_map (λ regs. map (rule_holds d regs []) d.legal_context) (contexts_told v d n c)) → ContextsHold v d n c
claimed_contexts v d r zero c ready set l h = tt
claimed_contexts v d r (suc n) c ready set l h =
    let regs = bits_from v (regs_at d c) d.regs in
    let p = AllByRecursion-split IsTrue (map (rule_holds d regs []) d.legal_context) (flat_map (λ regs. map (rule_holds d regs []) d.legal_context) (contexts_told v d n (c + 1))) h in (
      hold_rules v d (rule_named (context_scope d) (regs_at d c) 0) regs [] d.legal_context (context_same v d r c d.legal_context set (omega (arith, l)) ready.context_rules) p.0,
      claimed_contexts v d r n (c + 1) ready set (omega (arith, l)) p.1,
    )

-- ---- accesses

-- each access has one of the contexts
abbrev pub HaveContexts : Requests → List AccessWish → Type 0
HaveContexts r wishes = AllByRecursion (λ (a : AccessWish). a.context < length r.contexts) wishes

abbrev pub rule_claims : ModelData → Image → ImageAccess → List Bool
rule_claims d i a = map (rule_holds d (registers i a) a.inputs) d.legal_access

pub accesses_claimed : (v : Valuation) (d : ModelData) (r : Requests) (m : Memory) (wishes : List AccessWish) (k : ℕ) → IsReady d → AreSet v d r → HaveContexts r wishes → k + length wishes ≤ length r.accesses → AccessesHold v d r k wishes
    → AllByRecursion IsTrue (flat_map (λ a. map (rule_holds d (registers (seen v d r m) a) a.inputs) d.legal_access) (accesses_told v d r k wishes))
accesses_claimed v d r m [] k ready set c l h = tt
accesses_claimed v d r m (a ∷ more) k ready set c l h =
    let i = seen v d r m in
    AllByRecursion-append IsTrue (rule_claims d i (access_told v d r k a)) (flat_map (λ a. map (rule_holds d (registers i a) a.inputs) d.legal_access) (accesses_told v d r (k + 1) more))
    (subst (λ (regs : List ℕ). AllByRecursion IsTrue (map (rule_holds d regs (inputs_of v d r k)) d.legal_access)) (sym (registers_told v d r m k a c.0))
    (rules_hold v d (rule_named (access_scope d) (regs_at d a.context) (inputs_at d r k)) (regs_of v d a) (inputs_of v d r k) d.legal_access (access_same v d r k a d.legal_access set c.0 (omega (arith, l)) ready.access_rules) h.0))
    (accesses_claimed v d r m more (k + 1) ready set c.1 (omega (arith, l)) h.1)

pub claimed_accesses : (v : Valuation) (d : ModelData) (r : Requests) (m : Memory) (wishes : List AccessWish) (k : ℕ) → IsReady d → AreSet v d r → HaveContexts r wishes → k + length wishes ≤ length r.accesses
    → AllByRecursion IsTrue (flat_map (λ a. map (rule_holds d (registers (seen v d r m) a) a.inputs) d.legal_access) (accesses_told v d r k wishes)) → AccessesHold v d r k wishes
claimed_accesses v d r m [] k ready set c l h = tt
claimed_accesses v d r m (a ∷ more) k ready set c l h =
    let i = seen v d r m in
    let p = AllByRecursion-split IsTrue (rule_claims d i (access_told v d r k a)) (flat_map (λ a. map (rule_holds d (registers i a) a.inputs) d.legal_access) (accesses_told v d r (k + 1) more)) h in (
      hold_rules v d (rule_named (access_scope d) (regs_at d a.context) (inputs_at d r k)) (regs_of v d a) (inputs_of v d r k) d.legal_access (access_same v d r k a d.legal_access set c.0 (omega (arith, l)) ready.access_rules)
          (subst (λ (regs : List ℕ). AllByRecursion IsTrue (map (rule_holds d regs (inputs_of v d r k)) d.legal_access)) (registers_told v d r m k a c.0) p.0),
      claimed_accesses v d r m more (k + 1) ready set c.1 (omega (arith, l)) p.1,
    )

-- ---- runs

-- each access's walk over the memory is the one that is told
abbrev pub AllTold : Valuation → ModelData → Requests → Memory → ℕ → List AccessWish → List (List Out) → Type 0
AllTold v d r m k [] [] = Unit {0}
AllTold v d r m k (a ∷ more) (os ∷ oss) = (walk_of d (regs_of v d a) (inputs_of v d r k) m ≡ told v (steps d) os 0) × AllTold v d r m (k + 1) more oss
AllTold v d r m k _ _ = ⊥

run_told : (v : Valuation) (d : ModelData) (r : Requests) (m : Memory) (k : ℕ) (a : AccessWish) (os : List Out) → a.context < length r.contexts → walk_of d (regs_of v d a) (inputs_of v d r k) m ≡ told v (steps d) os 0
    → run_of d (seen v d r m) (access_told v d r k a) ≡ told v (steps d) os 0
run_told v d r m k a os c e = ap (λ (regs : List ℕ). walk_of d regs (inputs_of v d r k) m) (registers_told v d r m k a c) ∙ e

pub runs_told : (v : Valuation) (d : ModelData) (r : Requests) (m : Memory) (wishes : List AccessWish) (oss : List (List Out)) (k : ℕ) → HaveContexts r wishes → AllTold v d r m k wishes oss
    → map (run_of d (seen v d r m)) (accesses_told v d r k wishes) ≡ map (λ os. told v (steps d) os 0) oss
runs_told v d r m [] [] k c h = refl
runs_told v d r m [] (os ∷ oss) k c h = absurd h
runs_told v d r m (a ∷ more) [] k c h = absurd h
runs_told v d r m (a ∷ more) (os ∷ oss) k c h =
    let e = run_told v d r m k a os c.0 h.0 in
    ap (λ (q : RunData). q ∷ map (run_of d (seen v d r m)) (accesses_told v d r (k + 1) more)) e
    ∙ ap (λ (l : List RunData). told v (steps d) os 0 ∷ l) (runs_told v d r m more oss (k + 1) c.1 h.1)

-- ---- demands

node_within : (d : ModelData) (os : List Out) (n : ℕ) → length os ≡ length (steps d) → IsNode d n → n < length os
node_within d os n e o = let z : length (steps d) ≡ length d.nodes = length-map d.nodes _ in omega (arith, e, z, o)

visit_told : (v : Valuation) (d : ModelData) (os : List Out) (n : ℕ) → length os ≡ length (steps d) → IsNode d n → visits (told v (steps d) os 0) n ≡ is_one (v (out_at os n).come)
visit_told v d os n e o =
    let z : n ≡ 0 + n = omega arith in
    ap (visits (told v (steps d) os 0)) z ∙ visited v (steps d) os 0 n e (let l = node_within d os n e o in omega (arith, l, e))

some_there : (o : Option ℕ) (P : ℕ → Type 0) → IsSomeAnd o P → IsSome o
some_there None P h = absurd h
some_there (Some x) P h = refl

-- the forms of a demand hold exactly where the access meets it
pub demand_tells : (v : Valuation) (d : ModelData) (r : Requests) (k : ℕ) (a : AccessWish) (os : List Out) (demand : Demand) → AreNodes v d os → IsDemand d demand
    → Tells v (demand_forms d (access_of d r k a) os demand) (meets (told_made v d r k a os) demand)
demand_tells v d r k a os EndDone h o =
    let end = (told v (steps d) os 0).end in
    ends_tell v ends_done (steps d) os end (is_done end) h.away h.ends (done_same end)
demand_tells v d r k a os (EndFault code) h o =
    let end = (told v (steps d) os 0).end in
    ends_tell v (ends_fault code) (steps d) os end (is_fault code end) h.away h.ends (fault_same code end)
demand_tells v d r k a os (Page page) h o =
    let end = (told v (steps d) os 0).end in
    ends_tell v (ends_page page) (steps d) os end (is_page page end) h.away h.ends (page_same page end)
demand_tells v d r k a os (Via n) h o = one_tells v (term (out_at os n).come) _ (sym (visit_told v d os n h.count o))
demand_tells v d r k a os (Avoid n) h o =
    one_tells v (term (out_at os n).away) _ (away_at v os n h.away (node_within d os n h.count o) ∙ ap not (sym (visit_told v d os n h.count o)))
demand_tells v d r k a os (Take n b) h o = by_step (slice_get (steps d) n) refl o
  where
    by_step : (q : Option ActData) → slice_get (steps d) n ≡ q → IsSomeAnd q (λ x. IsTrue (is_fork x)) → Tells v (term (edge_at b (out_at os n)) ∷ []) (leaves (told v (steps d) os 0) n b)
    by_step None s g = absurd g
    by_step (Some x) s g = one_tells v (term (edge_at b (out_at os n))) _ (sym (leaves_told v d.address (steps d) os n b x h.flagged h.count s g))
demand_tells v d r k a os (Bits q mask value) h o =
    quantity_tells v d r k a os q (is_masked_form (quantity_width d q) mask value) (is_masked mask value) h (some_there (width_of d q) (λ (w : ℕ). mask < 2 ^ w) o.0) (masked_test v (quantity_width d q) mask value)
demand_tells v d r k a os (Span q lo hi) h o =
    quantity_tells v d r k a os q (is_within_form (quantity_width d q) lo hi) (is_within lo hi) h (some_there (width_of d q) (λ (w : ℕ). lo < 2 ^ w) o.0) (within_test v (quantity_width d q) lo hi)

each_demand : (v : Valuation) (d : ModelData) (r : Requests) (k : ℕ) (a : AccessWish) (os : List Out) (demands : List Demand) → AreNodes v d os → AllByRecursion (IsDemand d) demands
    → AllByRecursion (λ (q : Demand). Tells v (demand_forms d (access_of d r k a) os q) (meets (told_made v d r k a os) q)) demands
each_demand v d r k a os [] h o = tt
each_demand v d r k a os (q ∷ qs) h o = (demand_tells v d r k a os q h o.0, each_demand v d r k a os qs h o.1)

-- each access has demands of the model
abbrev pub HaveDemands : ModelData → List AccessWish → Type 0
HaveDemands d wishes = AllByRecursion (λ (a : AccessWish). AllByRecursion (IsDemand d) a.demands) wishes

-- the accesses, as the values tell them
abbrev pub told_mades : Valuation → ModelData → Requests → ℕ → List AccessWish → List (List Out) → List Made
told_mades v d r k (a ∷ more) (os ∷ oss) = told_made v d r k a os ∷ told_mades v d r (k + 1) more oss
told_mades v d r k _ _ = []

abbrev pub wish_claims : List Made → List AccessWish → List Bool
wish_claims mades wishes = flat_map (λ p. map (meets p.0) p.1.demands) (zip mades wishes)

wishes_tell : (v : Valuation) (d : ModelData) (r : Requests) (wishes : List AccessWish) (oss : List (List Out)) (k : ℕ) → AllNodes v d oss → HaveDemands d wishes
    → TellAll v (wish_forms d r k wishes oss) (wish_claims (told_mades v d r k wishes oss) wishes)
wishes_tell v d r [] oss k h o = none_tell v
wishes_tell v d r (a ∷ more) [] k h o = none_tell v
wishes_tell v d r (a ∷ more) (os ∷ oss) k h o =
    many_tell v (flat_map (demand_forms d (access_of d r k a) os) a.demands) (wish_forms d r (k + 1) more oss) (map (meets (told_made v d r k a os)) a.demands) (wish_claims (told_mades v d r (k + 1) more oss) more)
    (each_tells v (demand_forms d (access_of d r k a) os) (meets (told_made v d r k a os)) a.demands (each_demand v d r k a os a.demands h.0 o.0))
    (wishes_tell v d r more oss (k + 1) h.1 o.1)

made_told : (v : Valuation) (d : ModelData) (r : Requests) (m : Memory) (k : ℕ) (a : AccessWish) (os : List Out) → a.context < length r.contexts → walk_of d (regs_of v d a) (inputs_of v d r k) m ≡ told v (steps d) os 0
    → made_of d (seen v d r m) (access_told v d r k a) ≡ told_made v d r k a os
made_told v d r m k a os c e =
    let inputs = inputs_of v d r k in
    ap (λ (regs : List ℕ). record { regs = regs; inputs = inputs; run = walk_of d regs inputs m }) (registers_told v d r m k a c)
    ∙ ap (λ (run : RunData). record { regs = regs_of v d a; inputs = inputs; run = run }) e

mades_told : (v : Valuation) (d : ModelData) (r : Requests) (m : Memory) (wishes : List AccessWish) (oss : List (List Out)) (k : ℕ) → HaveContexts r wishes → AllTold v d r m k wishes oss
    → map (made_of d (seen v d r m)) (accesses_told v d r k wishes) ≡ told_mades v d r k wishes oss
mades_told v d r m [] [] k c h = refl
mades_told v d r m [] (os ∷ oss) k c h = absurd h
mades_told v d r m (a ∷ more) [] k c h = absurd h
mades_told v d r m (a ∷ more) (os ∷ oss) k c h =
    ap (λ (q : Made). q ∷ map (made_of d (seen v d r m)) (accesses_told v d r (k + 1) more)) (made_told v d r m k a os c.0 h.0)
    ∙ ap (λ (l : List Made). told_made v d r k a os ∷ l) (mades_told v d r m more oss (k + 1) c.1 h.1)

-- the claims of demands over the accesses that are told
pub demand_claims_told : (v : Valuation) (d : ModelData) (r : Requests) (m : Memory) (oss : List (List Out)) → HaveContexts r r.accesses → AllTold v d r m 0 r.accesses oss → demand_claims d r (seen v d r m) ≡ wish_claims (told_mades v d r 0 r.accesses oss) r.accesses
demand_claims_told v d r m oss c all = ap (λ (l : List Made). wish_claims l r.accesses) (mades_told v d r m r.accesses oss 0 c all)

-- the forms of all demands tell the claims of the demands
pub demands_tell : (v : Valuation) (d : ModelData) (r : Requests) (m : Memory) (oss : List (List Out)) → HaveContexts r r.accesses → HaveDemands d r.accesses → AllNodes v d oss → AllTold v d r m 0 r.accesses oss
    → TellAll v (wish_forms d r 0 r.accesses oss) (demand_claims d r (seen v d r m))
demands_tell v d r m oss c o nodes all =
    tell_as v (wish_forms d r 0 r.accesses oss) (wish_claims (told_mades v d r 0 r.accesses oss) r.accesses) (demand_claims d r (seen v d r m))
    (sym (demand_claims_told v d r m oss c all))
    (wishes_tell v d r r.accesses oss 0 nodes o)
