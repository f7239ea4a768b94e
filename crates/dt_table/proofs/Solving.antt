-- Values whose choices have the numbers of a satisfying image solve the problem of its list.
use Rattle.std.proofs.Common.{◌≡◌, ℕ, ◌+◌, ◌*◌, ◌≤◌, true, List, [], ◌∷◌, ◌++◌, length, get_or, Some, sym, ap, ◌∙◌, subst, arith}
use Rattle.std.specs.Prelude.{slice_get, IsTrue}
use Rattle.std.specs.List.{flat_map, AllByRecursion}
use Rattle.std.proofs.lemmas.List.Elements.{recursion_from_All}
use Rattle.dt_lemmas.proofs.Lists.{AllByRecursion-append, AllByRecursion-split}
use Rattle.dt_bits.specs.Memory.{Memory}
use Rattle.dt_model.specs.ModelData.{ModelData}
use Rattle.dt_model.specs.Faults.{steps}
use Rattle.dt_request.specs.declared.list.AccessWish.{AccessWish}
use Rattle.dt_request.specs.declared.list.Requests.{Requests}
use Rattle.dt_request.specs.Lists.{IsList}
use Rattle.dt_walk.specs.Meaning.{env_of, unbound}
use Rattle.dt_walk.specs.Walks.{RunData, walk_of}
use Rattle.dt_image.specs.declared.image.Image.{Image}
use Rattle.dt_image.specs.declared.image.ImageAccess.{ImageAccess}
use Rattle.dt_satisfy.specs.Claims.{run_of, context_claims, access_claims, demand_claims, link_claims, apart_claim, kept_claims, claims}
use Rattle.dt_satisfy.specs.Satisfies.{Satisfies}
use Rattle.dt_forms.specs.Meaning.{Valuation, AreValues, is_one}
use Rattle.dt_forms.specs.Forms.{Form, form_value}
use Rattle.dt_table.specs.declared.out.Out.{Out}
use Rattle.dt_table.specs.Told.{told}
use Rattle.dt_table.proofs.Every.{every_pair, every_link, every_block, every_keep, every_list, reads_among, claim_part}
use Rattle.dt_table.specs.Pairs.{pair_forms}
use Rattle.dt_table.specs.Spots.{all_reads}
use Rattle.dt_terms.specs.Terms.{AreTerms}
use Rattle.dt_table.specs.Extras.{all_extras}
use Rattle.dt_table.specs.Unlike.{all_unlikes, unlike_forms}
use Rattle.dt_table.specs.Table.{regs_at, inputs_at, words_at, access_of, first_state, list_access, wish_forms, list_forms, built, table}
use Rattle.dt_table.specs.Images.{contexts_told, accesses_told, reads_told}
use Rattle.dt_table.specs.Numbers.{word_in, words_for, access_numbers, numbers_of}
use Rattle.dt_forms.specs.Claims.{AreOnes}
use Rattle.dt_table.proofs.Remembered.{Remembers}
use Rattle.dt_table.proofs.Pairs.{all_made, agree_hold}
use Rattle.dt_table.proofs.Words.{AllAgree}
use Rattle.dt_table.proofs.Nodes.{words_of}
use Rattle.dt_table.proofs.Ready.{IsReady, AreSet, Fits}
use Rattle.dt_table.proofs.Composed.{IsPlaced, ArePlaced, table_built, solved_table}
use Rattle.dt_table.proofs.Told.{AtAccess, regs_of, inputs_of, placed_said, told_all, all_told, agree_plain}
use Rattle.dt_table.proofs.Claimed.{seen, access_told, registers_told, HaveContexts, AllTold, claimed_contexts, claimed_accesses}
use Rattle.dt_table.proofs.ListForms.{claims_form}
use Rattle.dt_table.proofs.Satisfying.{given_from, list_tells, asked_from}
use Rattle.dt_table.proofs.Rising.{walk_rising, rising_remembers, remembers_agree, rising_said}
use Rattle.dt_table.proofs.Numbers.{HaveBits, bits_split, contexts_back, contexts_total, HaveWords, accesses_back, words_back}
use Rattle.dt_table.proofs.Dead.{extras_hold}
use Rattle.dt_table.proofs.Pages.{fit_from}
use Rattle.dt_table.proofs.Unlike.{unlikes_hold}

one_said : (v : Valuation) (d : ModelData) (r : Requests) (k : ℕ) (a : AccessWish) (m : Memory) (os : List Out) → AtAccess v d r k a m → IsPlaced v d r k a os
    → HaveBits v (words_at d r k) (words_for (steps d) (run_of d (seen v d r m) (access_told v d r k a)).reads 0)
    → walk_of d (regs_of v d a) (inputs_of v d r k) m ≡ told v (steps d) os 0
one_said v d r k a m os h p b =
    let w = walk_of d (regs_of v d a) (inputs_of v d r k) m in
    let e : run_of d (seen v d r m) (access_told v d r k a) ≡ w = ap (λ (regs : List ℕ). walk_of d regs (inputs_of v d r k) m) (registers_told v d r m k a h.context) in
    let b2 : HaveBits v (words_at d r k) (words_for (steps d) w.reads 0) = subst (λ (q : RunData). HaveBits v (words_at d r k) (words_for (steps d) q.reads 0)) e b in
    let acc = access_of d r k a in
    let s = first_state acc p.terms (words_at d r k) in
    placed_said v d r k a m os h p (rising_said (steps d) m (λ n. get_or (words_of v os) n 0) w.reads 0
    (λ j at. let z : 0 + j ≡ j = omega arith in ap (λ (l : List Out). get_or (words_of v l) j 0) p.outs_are ∙ words_back v acc w.reads (steps d) s 0 b2 j at ∙ ap (word_in w.reads) z)
    (walk_rising (steps d) (env_of d (regs_of v d a) (inputs_of v d r k)) m (steps d) 0 0 unbound (λ j q x. let z : j ≡ 0 + j = omega arith in subst (λ (i : ℕ). slice_get (steps d) i ≡ Some q) z x)))

all_said : (v : Valuation) (d : ModelData) (r : Requests) (m : Memory) (wishes : List AccessWish) (oss : List (List Out)) (k : ℕ) → IsReady d → AreSet v d r → Fits d r m → HaveContexts r wishes → k + length wishes ≤ length r.accesses
    → ArePlaced v d r k wishes oss → HaveWords v d r (seen v d r m) k (accesses_told v d r k wishes) → AllTold v d r m k wishes oss
all_said v d r m [] [] k ready set fits c l p g = tt
all_said v d r m [] (os ∷ oss) k ready set fits c l p g = absurd p
all_said v d r m (a ∷ more) [] k ready set fits c l p g = absurd p
all_said v d r m (a ∷ more) (os ∷ oss) k ready set fits c l p g =
    let h : AtAccess v d r k a m = record { ready = ready; set = set; context = c.0; access = omega (arith, l); fits = fits } in
    (one_said v d r k a m os h p.0 g.0, all_said v d r m more oss (k + 1) ready set fits c.1 (omega (arith, l)) p.1 g.1)

-- the reads that are told are of the memory's words
told_remember : (v : Valuation) (d : ModelData) (r : Requests) (m : Memory) (wishes : List AccessWish) (oss : List (List Out)) (k : ℕ) → AllTold v d r m k wishes oss → Remembers m (reads_told v (steps d) oss)
told_remember v d r m [] [] k h = tt
told_remember v d r m [] (os ∷ oss) k h = absurd h
told_remember v d r m (a ∷ more) [] k h = absurd h
told_remember v d r m (a ∷ more) (os ∷ oss) k h =
    let w = walk_of d (regs_of v d a) (inputs_of v d r k) m in
    let g : Remembers m w.reads = rising_remembers (steps d) m 0 w.reads (walk_rising (steps d) (env_of d (regs_of v d a) (inputs_of v d r k)) m (steps d) 0 0 unbound (λ j q x. let z : j ≡ 0 + j = omega arith in subst (λ (i : ℕ). slice_get (steps d) i ≡ Some q) z x)) in
    AllByRecursion-append _ (told v (steps d) os 0).reads (reads_told v (steps d) oss) (subst (λ (q : RunData). Remembers m q.reads) h.0 g) (told_remember v d r m more oss (k + 1) h.1)

-- an image that the values tell, over its memory
seen_solved : (v : Valuation) (d : ModelData) (r : Requests) (m : Memory) → IsReady d → IsList d r → AreTerms (built d r).terms → AreValues v (table d r).terms → Fits d r m
    → HaveWords v d r (seen v d r m) 0 (accesses_told v d r 0 r.accesses) → AllByRecursion IsTrue (claims d r (seen v d r m)) → AreOnes v (table d r).required
seen_solved v d r m ready list formed h fits words holds =
    let oss = (built d r).outs in
    let g = given_from v d r m ready list h fits in
    let i = seen v d r m in
    let all = all_said v d r m r.accesses oss 0 ready g.set fits g.contexts (omega arith) g.placed words in
    let p4 = AllByRecursion-split IsTrue (context_claims d i ++ access_claims d i ++ demand_claims d r i ++ link_claims d r i) (apart_claim d i ∷ kept_claims d r i) holds in
    let p3 = AllByRecursion-split IsTrue (context_claims d i ++ access_claims d i ++ demand_claims d r i) (link_claims d r i) p4.0 in
    let p2 = AllByRecursion-split IsTrue (context_claims d i ++ access_claims d i) (demand_claims d r i) p3.0 in
    let p1 = AllByRecursion-split IsTrue (context_claims d i) (access_claims d i) p2.0 in
    let reads = reads_among d oss in
    let agree : AllAgree (all_made v reads) = subst AllAgree (told_all v d oss g.nodes) (agree_plain (reads_told v (steps d) oss) (remembers_agree m (reads_told v (steps d) oss) (told_remember v d r m r.accesses oss 0 all))) in
    let asked = AllByRecursion-append IsTrue (demand_claims d r i) (link_claims d r i ++ apart_claim d i ∷ kept_claims d r i) p2.1 (AllByRecursion-append IsTrue (link_claims d r i) (apart_claim d i ∷ kept_claims d r i) p3.1 p4.1) in
    let listed = (list_tells v d r m list g all).held asked in
    let every = AllByRecursion-append (λ (f : Form). is_one (form_value v f) ≡ true) (every_pair reads) (every_list d r oss) (agree_hold v reads (all_told v d oss g.nodes) agree) listed in
    let claimed = (claim_part d r oss).all (λ (f : Form). is_one (form_value v f) ≡ true) every in
    let own = (AllByRecursion-split (λ (f : Form). is_one (form_value v f) ≡ true) (pair_forms (all_reads d r 0 oss)) (list_forms d r oss) claimed).1 in
    let a = list_access d r in
    let links = flat_map (every_link d a oss) r.links in
    let behind = AllByRecursion-split (λ (f : Form). is_one (form_value v f) ≡ true) (wish_forms d r 0 r.accesses oss) (links ++ (every_block d r oss ++ every_keep d r oss)) listed in
    let linked = AllByRecursion-split (λ (f : Form). is_one (form_value v f) ≡ true) links (every_block d r oss ++ every_keep d r oss) behind.1 in
    let terms = (built d r).terms in
    let further = AllByRecursion-append (λ (f : Form). is_one (form_value v f) ≡ true) (all_extras d r 0 oss) (unlike_forms a (all_unlikes d r terms oss)) (extras_hold v d r oss (asked_from v d r g own))
    (unlikes_hold v d r terms oss (record { terms_are = formed; values_are = table_built v d r h; fit = fit_from v d r g.set; nodes = g.nodes }) g.links linked.0) in
    solved_table v d r ready (claims_form d r terms oss) h (record {
      contexts = claimed_contexts v d r (length r.contexts) 0 ready g.set (omega arith) p1.0;
      accesses = claimed_accesses v d r m r.accesses 0 ready g.set g.contexts (omega arith) p1.1;
      claims = claimed;
    }) further

pub image_solved : (v : Valuation) (d : ModelData) (r : Requests) (i : Image) → IsReady d → IsList d r → AreTerms (built d r).terms → AreValues v (table d r).terms → HaveBits v 0 (numbers_of d i) → Satisfies d r i → AreOnes v (table d r).required
image_solved v d r i ready list formed h bits sat =
    let m = i.memory in
    let p = bits_split v (flat_map (λ regs. regs) i.contexts) (flat_map (access_numbers d i) i.accesses) 0 bits in
    let z0 : 0 ≡ regs_at d 0 = omega arith in
    let n : length i.contexts ≡ length r.contexts = sat.matches.contexts in
    let ce : contexts_told v d (length r.contexts) 0 ≡ i.contexts = subst (λ (j : ℕ). contexts_told v d j 0 ≡ i.contexts) n
    (contexts_back v d i.contexts 0 sat.image.contexts (subst (λ (j : ℕ). HaveBits v j (flat_map (λ regs. regs) i.contexts)) z0 p.0)) in
    let t = contexts_total d i.contexts sat.image.contexts in
    let place : 0 + length (flat_map (λ regs. regs) i.contexts) ≡ inputs_at d r 0 =
    (let y : length i.contexts * length d.regs ≡ length r.contexts * length d.regs = ap (λ (j : ℕ). j * length d.regs) n in omega (arith, t, y)) in
    let ae = accesses_back v d r i (length i.contexts) r.accesses i.accesses 0 sat.matches.accesses sat.image.accesses (subst (λ (j : ℕ). HaveBits v j (flat_map (access_numbers d i) i.accesses)) place p.1) in
    let e : seen v d r m ≡ i =
    ap (λ (cs : List (List ℕ)). record { memory = m; contexts = cs; accesses = accesses_told v d r 0 r.accesses }) ce
    ∙ ap (λ (l : List ImageAccess). record { memory = m; contexts = i.contexts; accesses = l }) ae.0 in
    let fits : Fits d r m = record { bytes = (let x = sat.image.word in let y = ready.word in omega (arith, x, y)); lo = sat.matches.lo; hi = sat.matches.hi } in
    seen_solved v d r m ready list formed h fits (subst (λ (j : Image). HaveWords v d r j 0 j.accesses) (sym e) ae.1)
    (subst (λ (j : Image). AllByRecursion IsTrue (claims d r j)) (sym e) (recursion_from_All IsTrue (claims d r i) sat.claims))
