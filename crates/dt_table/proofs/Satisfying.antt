-- Values that solve the problem of a list tell an image that satisfies the list.
use Rattle.std.proofs.Common.{◌≡◌, ℕ, zero, suc, ◌+◌, ◌<◌, ◌≤◌, true, List, [], ◌∷◌, ◌++◌, length, map, refl, sym, ap, subst, arith}
use Rattle.std.specs.Prelude.{IsTrue}
use Rattle.std.specs.List.{flat_map, AllByRecursion}
use Rattle.std.proofs.lemmas.List.Elements.{recursion_from_All, All-from_recursion}
use Rattle.dt_lemmas.proofs.Lists.{AllByRecursion-append, AllByRecursion-split}
use Rattle.dt_bits.specs.Memory.{Memory}
use Rattle.dt_model.specs.ModelData.{ModelData}
use Rattle.dt_model.specs.Values.{FitNames}
use Rattle.dt_model.specs.Faults.{steps}
use Rattle.dt_request.specs.declared.list.AccessWish.{AccessWish}
use Rattle.dt_request.specs.declared.list.Requests.{Requests}
use Rattle.dt_request.specs.Lists.{IsDemand, IsWish, IsLink, IsKept, IsList}
use Rattle.dt_image.specs.declared.image.ImageAccess.{ImageAccess}
use Rattle.dt_satisfy.specs.Claims.{context_claims, access_claims, demand_claims, link_claims, apart_claim, kept_claims, claims}
use Rattle.dt_satisfy.specs.Satisfies.{Satisfies}
use Rattle.dt_forms.specs.Meaning.{Valuation, AreValues, is_one}
use Rattle.dt_forms.specs.Forms.{Form, form_value}
use Rattle.dt_forms.specs.Claims.{AreOnes, Hold}
use Rattle.dt_forms.proofs.Tells.{TellAll, one_more_tells, many_tell}
use Rattle.dt_table.specs.declared.out.Out.{Out}
use Rattle.dt_table.specs.Told.{told}
use Rattle.dt_table.specs.Links.{link_forms}
use Rattle.dt_table.specs.Pairs.{pair_forms}
use Rattle.dt_table.specs.Spots.{all_reads}
use Rattle.dt_table.specs.Table.{wish_forms, page_forms, keep_forms, list_forms, list_access, built, table, regs_at}
use Rattle.dt_table.proofs.Every.{every_pair, every_link, every_block, every_keep, every_list, reads_among}
use Rattle.dt_table.specs.Images.{contexts_told, accesses_told, reads_told, image_told}
use Rattle.dt_table.proofs.Pairs.{hold_agree}
use Rattle.dt_table.proofs.Words.{AllAgree, all_listed}
use Rattle.dt_table.proofs.Remembered.{Remembers}
use Rattle.dt_table.proofs.Stand.{names_fit}
use Rattle.dt_table.proofs.Ready.{IsReady, AreSet, Fits, set_from}
use Rattle.dt_table.proofs.Composed.{ArePlaced, IsSolved, table_starts, table_placed, table_solved}
use Rattle.dt_table.proofs.Told.{AtAccess, placed_nodes, placed_remembered, AllNodes, told_all, all_told, plain_agree}
use Rattle.dt_table.proofs.Claimed.{seen, HaveContexts, HaveDemands, AllTold, contexts_claimed, accesses_claimed, demands_tell}
use Rattle.dt_table.proofs.Linked.{links_tell}
use Rattle.dt_table.proofs.ListForms.{claims_form}
use Rattle.dt_table.proofs.Asked.{AreAsked}
use Rattle.dt_table.proofs.Wide.{claims_wide}
use Rattle.dt_table.proofs.Pages.{pages_tell, fit_from}
use Rattle.dt_table.proofs.Ranges.{within_all, ranges_tell}

-- ---- accesses

contexts_have : (d : ModelData) (r : Requests) (wishes : List AccessWish) → AllByRecursion (IsWish d (length r.contexts)) wishes → HaveContexts r wishes
contexts_have d r [] h = tt
contexts_have d r (a ∷ more) h = (h.0.context, contexts_have d r more h.1)

demands_have : (d : ModelData) (r : Requests) (wishes : List AccessWish) → AllByRecursion (IsWish d (length r.contexts)) wishes → HaveDemands d wishes
demands_have d r [] h = tt
demands_have d r (a ∷ more) h = (recursion_from_All (IsDemand d) a.demands h.0.demands, demands_have d r more h.1)

placed_count : (v : Valuation) (d : ModelData) (r : Requests) (wishes : List AccessWish) (oss : List (List Out)) (k : ℕ) → ArePlaced v d r k wishes oss → length wishes ≡ length oss
placed_count v d r [] [] k p = refl
placed_count v d r [] (os ∷ oss) k p = absurd p
placed_count v d r (a ∷ more) [] k p = absurd p
placed_count v d r (a ∷ more) (os ∷ oss) k p = ap suc (placed_count v d r more oss (k + 1) p.1)

all_nodes : (v : Valuation) (d : ModelData) (r : Requests) (m : Memory) (wishes : List AccessWish) (oss : List (List Out)) (k : ℕ) → IsReady d → AreSet v d r → Fits d r m → HaveContexts r wishes → k + length wishes ≤ length r.accesses
    → ArePlaced v d r k wishes oss → AllNodes v d oss
all_nodes v d r m [] [] k ready set fits c l p = tt
all_nodes v d r m [] (os ∷ oss) k ready set fits c l p = absurd p
all_nodes v d r m (a ∷ more) [] k ready set fits c l p = absurd p
all_nodes v d r m (a ∷ more) (os ∷ oss) k ready set fits c l p =
    let h : AtAccess v d r k a m = record { ready = ready; set = set; context = c.0; access = omega (arith, l); fits = fits } in
    (placed_nodes v d r k a m os h p.0, all_nodes v d r m more oss (k + 1) ready set fits c.1 (omega (arith, l)) p.1)

all_remembered : (v : Valuation) (d : ModelData) (r : Requests) (m : Memory) (wishes : List AccessWish) (oss : List (List Out)) (k : ℕ) → IsReady d → AreSet v d r → Fits d r m → HaveContexts r wishes → k + length wishes ≤ length r.accesses
    → ArePlaced v d r k wishes oss → Remembers m (reads_told v (steps d) oss) → AllTold v d r m k wishes oss
all_remembered v d r m [] [] k ready set fits c l p g = tt
all_remembered v d r m [] (os ∷ oss) k ready set fits c l p g = absurd p
all_remembered v d r m (a ∷ more) [] k ready set fits c l p g = absurd p
all_remembered v d r m (a ∷ more) (os ∷ oss) k ready set fits c l p g =
    let h : AtAccess v d r k a m = record { ready = ready; set = set; context = c.0; access = omega (arith, l); fits = fits } in
    let q = AllByRecursion-split _ (told v (steps d) os 0).reads (reads_told v (steps d) oss) g in
    (placed_remembered v d r k a m os h p.0 q.0, all_remembered v d r m more oss (k + 1) ready set fits c.1 (omega (arith, l)) p.1 q.1)

-- ---- the image

contexts_fit : (v : Valuation) (d : ModelData) (r : Requests) (n c : ℕ) → AreSet v d r → c + n ≤ length r.contexts → AllByRecursion (FitNames d.regs) (contexts_told v d n c)
contexts_fit v d r zero c set l = tt
contexts_fit v d r (suc n) c set l = (names_fit v d.regs (regs_at d c) set.range (set.regs c (omega (arith, l))), contexts_fit v d r n (c + 1) set (omega (arith, l)))

pub contexts_length : (v : Valuation) (d : ModelData) (n c : ℕ) → length (contexts_told v d n c) ≡ n
contexts_length v d zero c = refl
contexts_length v d (suc n) c = ap suc (contexts_length v d n (c + 1))

accesses_fit : (v : Valuation) (d : ModelData) (r : Requests) (count : ℕ) (wishes : List AccessWish) (k : ℕ) → AreSet v d r → count ≡ length r.contexts → HaveContexts r wishes → k + length wishes ≤ length r.accesses
    → AllByRecursion (λ (a : ImageAccess). (a.context < count) × FitNames d.inputs a.inputs) (accesses_told v d r k wishes)
accesses_fit v d r count [] k set e c l = tt
accesses_fit v d r count (a ∷ more) k set e c l =
    let b : a.context < length r.contexts = c.0 in
    ((omega (arith, b, e), names_fit v d.inputs _ set.range (set.inputs k (omega (arith, l)))), accesses_fit v d r count more (k + 1) set e c.1 (omega (arith, l)))

accesses_match : (v : Valuation) (d : ModelData) (r : Requests) (wishes : List AccessWish) (k : ℕ) → map (λ a. a.context) (accesses_told v d r k wishes) ≡ map (λ a. a.context) wishes
accesses_match v d r [] k = refl
accesses_match v d r (a ∷ more) k = ap (λ (l : List ℕ). a.context ∷ l) (accesses_match v d r more (k + 1))

-- ---- the list

-- what holds of the values of a list's terms
pub record AreGiven (v : Valuation) (d : ModelData) (r : Requests) : Type 0 where
  pub set : AreSet v d r
  pub contexts : HaveContexts r r.accesses
  pub demands : HaveDemands d r.accesses
  pub links : AllByRecursion (IsLink d (length (built d r).outs)) r.links
  pub placed : ArePlaced v d r 0 r.accesses (built d r).outs
  pub nodes : AllNodes v d (built d r).outs

pub given_from : (v : Valuation) (d : ModelData) (r : Requests) (m : Memory) → IsReady d → IsList d r → AreValues v (table d r).terms → Fits d r m → AreGiven v d r
given_from v d r m ready list h fits =
    let starts = table_starts v d r h in
    let set = set_from v d r h.ranged starts.1 in
    let wishes = recursion_from_All (IsWish d (length r.contexts)) r.accesses list.accesses in
    let c = contexts_have d r r.accesses wishes in
    let placed = table_placed v d r starts.0 in
    let oss = (built d r).outs in
    record {
      set = set;
      contexts = c;
      demands = demands_have d r r.accesses wishes;
      links = subst (λ (n : ℕ). AllByRecursion (IsLink d n) r.links) (placed_count v d r r.accesses oss 0 placed) (recursion_from_All (IsLink d (length r.accesses)) r.links list.links);
      placed = placed;
      nodes = all_nodes v d r m r.accesses oss 0 ready set fits c (omega arith) placed;
    }

-- the forms of what a list asks tell its claims of the image that the values tell
pub list_tells : (v : Valuation) (d : ModelData) (r : Requests) (m : Memory) → IsList d r → AreGiven v d r → AllTold v d r m 0 r.accesses (built d r).outs
    → TellAll v (every_list d r (built d r).outs) (demand_claims d r (seen v d r m) ++ (link_claims d r (seen v d r m) ++ apart_claim d (seen v d r m) ∷ kept_claims d r (seen v d r m)))
list_tells v d r m list g all =
    let oss = (built d r).outs in
    let i = seen v d r m in
    let links = flat_map (every_link d (list_access d r) oss) r.links in
    many_tell v (wish_forms d r 0 r.accesses oss) (links ++ (every_block d r oss ++ every_keep d r oss)) (demand_claims d r i) (link_claims d r i ++ apart_claim d i ∷ kept_claims d r i) (demands_tell v d r m oss g.contexts g.demands g.nodes all)
    (many_tell v links (every_block d r oss ++ every_keep d r oss) (link_claims d r i) (apart_claim d i ∷ kept_claims d r i) (links_tell v d r m oss g.set g.contexts g.links g.nodes all)
    (one_more_tells v (every_block d r oss) (every_keep d r oss) (apart_claim d i) (kept_claims d r i) (pages_tell v d r m oss g.set g.contexts g.nodes all) (ranges_tell v d r m oss list g.set g.contexts g.nodes all)))

-- ---- what is asked of where walks go

pub asked_from : (v : Valuation) (d : ModelData) (r : Requests) → AreGiven v d r → Hold v (list_forms d r (built d r).outs) → AreAsked v d r (built d r).outs
asked_from v d r g h =
    let oss = (built d r).outs in
    let links = flat_map (link_forms d r (list_access d r) oss) r.links in
    let p = AllByRecursion-split (λ (f : Form). is_one (form_value v f) ≡ true) (wish_forms d r 0 r.accesses oss) (links ++ (page_forms d r oss ++ keep_forms d r oss)) h in
    let q = AllByRecursion-split (λ (f : Form). is_one (form_value v f) ≡ true) links (page_forms d r oss ++ keep_forms d r oss) p.1 in
    record { nodes = g.nodes; demands = g.demands; links = g.links; count = placed_count v d r r.accesses oss 0 g.placed; wishes = p.0; linked = q.0 }

-- ---- the theorem

-- what holds of values that solve the problem, and of the walks over the image that they tell
pub record AreSolving (v : Valuation) (d : ModelData) (r : Requests) : Type 0 where
  pub given : AreGiven v d r
  pub solved : IsSolved v d r
  pub asked : Hold v (every_list d r (built d r).outs)
  pub walks : AllTold v d r (image_told v d r).memory 0 r.accesses (built d r).outs

pub solving_from : (v : Valuation) (d : ModelData) (r : Requests) → IsReady d → IsList d r → AreValues v (table d r).terms → AreOnes v (table d r).required → AreSolving v d r
solving_from v d r ready list h ones =
    let oss = (built d r).outs in
    let m = (image_told v d r).memory in
    let fits : Fits d r m = record { bytes = refl; lo = refl; hi = refl } in
    let g = given_from v d r m ready list h fits in
    let solved = table_solved v d r ready (claims_form d r (built d r).terms oss) h ones in
    let reads = reads_among d oss in
    let asked = asked_from v d r g (AllByRecursion-split (λ (f : Form). is_one (form_value v f) ≡ true) (pair_forms (all_reads d r 0 oss)) (list_forms d r oss) solved.claims).1 in
    let within = within_all d r.kept (recursion_from_All (IsKept d) r.kept list.kept) in
    let every = claims_wide v d r oss asked (fit_from v d r g.set) within solved.claims in
    let parts = AllByRecursion-split (λ (f : Form). is_one (form_value v f) ≡ true) (every_pair reads) (every_list d r oss) every in
    let agree : AllAgree (reads_told v (steps d) oss) = plain_agree (reads_told v (steps d) oss) (subst AllAgree (sym (told_all v d oss g.nodes)) (hold_agree v reads (all_told v d oss g.nodes) parts.0)) in
    record {
      given = g;
      solved = solved;
      asked = parts.1;
      walks = all_remembered v d r m r.accesses oss 0 ready g.set fits g.contexts (omega arith) g.placed (all_listed (reads_told v (steps d) oss) agree);
    }

pub told_satisfies : (v : Valuation) (d : ModelData) (r : Requests) → IsReady d → IsList d r → AreValues v (table d r).terms → AreOnes v (table d r).required → Satisfies d r (image_told v d r)
told_satisfies v d r ready list h ones =
    let all = solving_from v d r ready list h ones in
    let g = all.given in
    let i = image_told v d r in
    let m = i.memory in
    let asked = (list_tells v d r m list g all.walks).holds all.asked in
    let p = AllByRecursion-split IsTrue (demand_claims d r i) (link_claims d r i ++ apart_claim d i ∷ kept_claims d r i) asked in
    let q = AllByRecursion-split IsTrue (link_claims d r i) (apart_claim d i ∷ kept_claims d r i) p.1 in
    record {
      image = record {
        word = ready.word;
        end = list.bounds.within;
        contexts = contexts_fit v d r (length r.contexts) 0 g.set (omega arith);
        accesses = accesses_fit v d r (length (contexts_told v d (length r.contexts) 0)) r.accesses 0 g.set (contexts_length v d (length r.contexts) 0) g.contexts (omega arith);
      };
      matches = record { lo = refl; hi = refl; contexts = contexts_length v d (length r.contexts) 0; accesses = accesses_match v d r r.accesses 0 };
      claims = All-from_recursion IsTrue (claims d r i) (
          AllByRecursion-append IsTrue (context_claims d i ++ access_claims d i ++ demand_claims d r i ++ link_claims d r i) (apart_claim d i ∷ kept_claims d r i)
          (AllByRecursion-append IsTrue (context_claims d i ++ access_claims d i ++ demand_claims d r i) (link_claims d r i)
          (AllByRecursion-append IsTrue (context_claims d i ++ access_claims d i) (demand_claims d r i)
          (AllByRecursion-append IsTrue (context_claims d i) (access_claims d i)
          (contexts_claimed v d r (length r.contexts) 0 ready g.set (omega arith) all.solved.contexts)
          (accesses_claimed v d r m r.accesses 0 ready g.set g.contexts (omega arith) all.solved.accesses))
          p.0) q.0) q.1);
    }
