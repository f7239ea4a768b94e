-- The walks that the values tell meet all that is asked of where they go, where the forms of demands and links hold; so they go by open ways.
use Rattle.std.proofs.Common.{◌≡◌, ℕ, zero, suc, ◌+◌, ◌<◌, ◌^◌, Bool, true, false, cond, eqb, List, [], ◌∷◌, ◌++◌, length, map, Option, Some, None, refl, sym, subst, arith}
use Rattle.std.specs.Prelude.{slice_get, slice_index_or, IsSomeAnd, IsTrue}
use Rattle.std.specs.List.{flat_map, AllByRecursion}
use Rattle.std.proofs.lemmas.Bool.{eqb-true}
use Rattle.dt_lemmas.proofs.Lists.{AllByRecursion-append, AllByRecursion-split, element}
use Rattle.dt_lemmas.proofs.Options.{some_is}
use Rattle.dt_model.specs.ModelData.{ModelData, ActData, bind, read, branch, fault, done}
use Rattle.dt_model.specs.Faults.{steps, is_read}
use Rattle.dt_request.specs.declared.list.AccessWish.{AccessWish}
use Rattle.dt_request.specs.declared.list.Requests.{Requests}
use Rattle.dt_request.specs.declared.list.Demand.{Demand}
use Rattle.dt_request.specs.declared.list.Demand.TheVariants.{Via, Avoid, Take, EndDone, EndFault, Page, Bits, Span}
use Rattle.dt_request.specs.declared.list.Link.{Link}
use Rattle.dt_request.specs.declared.list.Link.TheVariants.{ShareTable, ShareCell, SharePage, ApartTable, ApartPage}
use Rattle.dt_request.specs.declared.list.Quantity.TheVariants.{Reg, Input, Word, Cell, Pa}
use Rattle.dt_request.specs.declared.list.Side.{Side}
use Rattle.dt_request.specs.Lists.{IsDemand, IsSide, IsLink, is_fork, read_width}
use Rattle.dt_satisfy.specs.Demands.{Made, meets, visits}
use Rattle.dt_forms.specs.Meaning.{Valuation, is_one}
use Rattle.dt_forms.specs.Forms.{Form, form_value}
use Rattle.dt_forms.specs.Claims.{Hold}
use Rattle.dt_table.specs.declared.out.Out.{Out}
use Rattle.dt_table.specs.Claims.{ends_only}
use Rattle.dt_ways.specs.Ends.{ends_done}
use Rattle.dt_table.specs.Apart.{Sized, apart_form}
use Rattle.dt_table.specs.Demands.{demand_forms}
use Rattle.dt_table.specs.Links.{outs_of, side_at, one_page, pages_forms, page_if, access_pages, link_forms}
use Rattle.dt_table.specs.Spots.{Spot}
use Rattle.dt_table.specs.Table.{access_of, list_access, wish_forms}
use Rattle.dt_table.specs.Told.{told}
use Rattle.dt_ways.specs.Ways.{asks, side_asks, page_asks, link_asks, demands_of, all_asks, access_ways}
use Rattle.dt_table.proofs.Claimed.{HaveDemands, demand_tells}
use Rattle.dt_reach.proofs.Gone.{Gone}
use Rattle.dt_table.proofs.Linked.{nodes_at}
use Rattle.dt_table.proofs.Opened.{run_gone}
use Rattle.dt_table.proofs.Quantities.{told_made}
use Rattle.dt_table.proofs.Told.{AreNodes, AllNodes}

-- what is known where the forms of demands and links hold
pub record AreAsked (v : Valuation) (d : ModelData) (r : Requests) (oss : List (List Out)) : Type 0 where
  pub nodes : AllNodes v d oss
  pub demands : HaveDemands d r.accesses
  pub links : AllByRecursion (IsLink d (length oss)) r.links
  pub count : length r.accesses ≡ length oss
  pub wishes : Hold v (wish_forms d r 0 r.accesses oss)
  pub linked : Hold v (flat_map (link_forms d r (list_access d r) oss) r.links)

abbrev AllMet : Made → List Demand → Type 0
AllMet made qs = AllByRecursion (λ (q : Demand). meets made q ≡ true) qs

-- ---- demands

fork_there : (w : ℕ) (P : ℕ → Type 0) (o : Option ActData) → IsSomeAnd (read_width w o) P → IsSomeAnd o (λ p. IsTrue (is_fork p))
fork_there w P None h = absurd h
fork_there w P (Some (bind x e to)) h = absurd h
fork_there w P (Some (read x e g t o)) h = refl
fork_there w P (Some (branch e t o)) h = refl
fork_there w P (Some (fault c)) h = absurd h
fork_there w P (Some (done e p)) h = absurd h

demand_met : (v : Valuation) (d : ModelData) (r : Requests) (k : ℕ) (a : AccessWish) (os : List Out) (q : Demand) → AreNodes v d os → IsDemand d q → Hold v (demand_forms d (access_of d r k a) os q) → meets (told_made v d r k a os) (asks q) ≡ true
demand_met v d r k a os (Via n) h o g = (demand_tells v d r k a os (Via n) h o).holds g
demand_met v d r k a os (Avoid n) h o g = (demand_tells v d r k a os (Avoid n) h o).holds g
demand_met v d r k a os (Take n b) h o g = (demand_tells v d r k a os (Take n b) h o).holds g
demand_met v d r k a os EndDone h o g = (demand_tells v d r k a os EndDone h o).holds g
demand_met v d r k a os (EndFault code) h o g = (demand_tells v d r k a os (EndFault code) h o).holds g
demand_met v d r k a os (Page exponent) h o g = (demand_tells v d r k a os (Page exponent) h o).holds g
demand_met v d r k a os (Bits (Reg i) mask value) h o g = (demand_tells v d r k a os (Bits (Reg i) mask value) h o).holds g
demand_met v d r k a os (Bits (Input i) mask value) h o g = (demand_tells v d r k a os (Bits (Input i) mask value) h o).holds g
demand_met v d r k a os (Bits (Word n) mask value) h o g = (demand_tells v d r k a os (Take n true) h (fork_there d.word (λ w. mask < 2 ^ w) (slice_get (steps d) n) o.0)).holds (g.0, tt)
demand_met v d r k a os (Bits (Cell n) mask value) h o g = (demand_tells v d r k a os (Take n true) h (fork_there d.address (λ w. mask < 2 ^ w) (slice_get (steps d) n) o.0)).holds (g.0, tt)
demand_met v d r k a os (Bits Pa mask value) h o g = (demand_tells v d r k a os EndDone h tt).holds (AllByRecursion-split (λ (f : Form). is_one (form_value v f) ≡ true) (ends_only ends_done (steps d) os) _ g).0
demand_met v d r k a os (Span (Reg i) lo hi) h o g = (demand_tells v d r k a os (Span (Reg i) lo hi) h o).holds g
demand_met v d r k a os (Span (Input i) lo hi) h o g = (demand_tells v d r k a os (Span (Input i) lo hi) h o).holds g
demand_met v d r k a os (Span (Word n) lo hi) h o g = (demand_tells v d r k a os (Take n true) h (fork_there d.word (λ w. lo < 2 ^ w) (slice_get (steps d) n) o.0)).holds (g.0, tt)
demand_met v d r k a os (Span (Cell n) lo hi) h o g = (demand_tells v d r k a os (Take n true) h (fork_there d.address (λ w. lo < 2 ^ w) (slice_get (steps d) n) o.0)).holds (g.0, tt)
demand_met v d r k a os (Span Pa lo hi) h o g = (demand_tells v d r k a os EndDone h tt).holds (AllByRecursion-split (λ (f : Form). is_one (form_value v f) ≡ true) (ends_only ends_done (steps d) os) _ g).0

demands_met : (v : Valuation) (d : ModelData) (r : Requests) (k : ℕ) (a : AccessWish) (os : List Out) (qs : List Demand) → AreNodes v d os → AllByRecursion (IsDemand d) qs → Hold v (flat_map (demand_forms d (access_of d r k a) os) qs) → AllMet (told_made v d r k a os) (map asks qs)
demands_met v d r k a os [] h o g = tt
demands_met v d r k a os (q ∷ qs) h o g =
    let p = AllByRecursion-split (λ (f : Form). is_one (form_value v f) ≡ true) (demand_forms d (access_of d r k a) os q) (flat_map (demand_forms d (access_of d r k a) os) qs) g in
    (demand_met v d r k a os q h o.0 p.0, demands_met v d r k a os qs h o.1 p.1)

wish_met : (v : Valuation) (d : ModelData) (r : Requests) (wishes : List AccessWish) (oss : List (List Out)) (k j : ℕ) (a : AccessWish) → AllNodes v d oss → HaveDemands d wishes → Hold v (wish_forms d r k wishes oss) → slice_get wishes j ≡ Some a → j < length oss
    → AllMet (told_made v d r (k + j) a (outs_of oss j)) (map asks a.demands)
wish_met v d r [] oss k j a h o g e l = absurd (cc)
wish_met v d r (b ∷ more) [] k j a h o g e l = absurd (omega (arith, l))
wish_met v d r (b ∷ more) (os ∷ oss) k zero a h o g e l =
    let same : b ≡ a = some_is b a e in
    let z : k ≡ k + 0 = omega arith in
    let p = AllByRecursion-split (λ (f : Form). is_one (form_value v f) ≡ true) (flat_map (demand_forms d (access_of d r k b) os) b.demands) (wish_forms d r (k + 1) more oss) g in
    subst (λ (x : AccessWish). AllMet (told_made v d r (k + 0) x os) (map asks x.demands)) same (subst (λ (n : ℕ). AllMet (told_made v d r n b os) (map asks b.demands)) z (demands_met v d r k b os b.demands h.0 o.0 p.0))
wish_met v d r (b ∷ more) (os ∷ oss) k (suc j) a h o g e l =
    let z : k + 1 + j ≡ k + suc j = omega arith in
    let p = AllByRecursion-split (λ (f : Form). is_one (form_value v f) ≡ true) (flat_map (demand_forms d (access_of d r k b) os) b.demands) (wish_forms d r (k + 1) more oss) g in
    subst (λ (n : ℕ). AllMet (told_made v d r n a (outs_of oss j)) (map asks a.demands)) z (wish_met v d r more oss (k + 1) j a h.1 o.1 p.1 e (omega (arith, l)))

-- ---- links

fork_read : (o : Option ActData) → IsSomeAnd o (λ p. IsTrue (is_read p)) → IsSomeAnd o (λ p. IsTrue (is_fork p))
fork_read None h = absurd h
fork_read (Some (bind x e to)) h = h
fork_read (Some (read x e g t o)) h = refl
fork_read (Some (branch e t o)) h = refl
fork_read (Some (fault c)) h = h
fork_read (Some (done e p)) h = h

side_met : (v : Valuation) (d : ModelData) (r : Requests) (oss : List (List Out)) (k : ℕ) (a : AccessWish) (s : Side) → AreNodes v d (outs_of oss k) → IsSide d (length oss) s → is_one (v (side_at d oss s).out.by_then) ≡ true
    → AllMet (told_made v d r k a (outs_of oss k)) (side_asks k s)
side_met v d r oss k a s h i g = by_access (eqb s.access k) refl
  where
    by_access : (b : Bool) → eqb s.access k ≡ b → AllMet (told_made v d r k a (outs_of oss k)) (cond b (Take s.node true ∷ []) [])
    by_access false e = tt
    by_access true e =
        let same = eqb-true s.access k e in
        ((demand_tells v d r k a (outs_of oss k) (Take s.node true) h (fork_read (slice_get (steps d) s.node) i.1)).holds (subst (λ (n : ℕ). is_one (v (slice_index_or (outs_of oss n) s.node (record { come = 0; value = 0; by_then = 0; by_other = 0; word = 0; away = 0 })).by_then) ≡ true) same g, tt), tt)

page_met : (v : Valuation) (d : ModelData) (r : Requests) (oss : List (List Out)) (k : ℕ) (a : AccessWish) (j : ℕ) → AreNodes v d (outs_of oss k) → Hold v (ends_only ends_done (steps d) (outs_of oss j)) → AllMet (told_made v d r k a (outs_of oss k)) (page_asks k j)
page_met v d r oss k a j h g = by_access (eqb j k) refl
  where
    by_access : (b : Bool) → eqb j k ≡ b → AllMet (told_made v d r k a (outs_of oss k)) (cond b (EndDone ∷ []) [])
    by_access false e = tt
    by_access true e = ((demand_tells v d r k a (outs_of oss k) EndDone h tt).holds (subst (λ (n : ℕ). Hold v (ends_only ends_done (steps d) (outs_of oss n))) (eqb-true j k e) g), tt)

pages_met : (v : Valuation) (d : ModelData) (r : Requests) (oss : List (List Out)) (k : ℕ) (a : AccessWish) (i j : ℕ) (form : Sized → Sized → Form) → AreNodes v d (outs_of oss k)
    → Hold v (pages_forms d form (outs_of oss i) (outs_of oss j) (access_pages d r oss i) (access_pages d r oss j)) → AllMet (told_made v d r k a (outs_of oss k)) (page_asks k i ++ page_asks k j)
pages_met v d r oss k a i j form h g =
    let rows = flat_map (λ (x : Spot). flat_map (page_if form x) (access_pages d r oss j)) (access_pages d r oss i) in
    let one = ends_only ends_done (steps d) (outs_of oss i) in
    let other = ends_only ends_done (steps d) (outs_of oss j) in
    let p = AllByRecursion-split (λ (f : Form). is_one (form_value v f) ≡ true) one (other ++ rows) g in
    let q = AllByRecursion-split (λ (f : Form). is_one (form_value v f) ≡ true) other rows p.1 in
    AllByRecursion-append (λ (x : Demand). meets (told_made v d r k a (outs_of oss k)) x ≡ true) (page_asks k i) (page_asks k j) (page_met v d r oss k a i h p.0) (page_met v d r oss k a j h q.0)

link_met : (v : Valuation) (d : ModelData) (r : Requests) (oss : List (List Out)) (k : ℕ) (a : AccessWish) (link : Link) → AreNodes v d (outs_of oss k) → IsLink d (length oss) link → Hold v (link_forms d r (list_access d r) oss link) → AllMet (told_made v d r k a (outs_of oss k)) (link_asks k link)
link_met v d r oss k a (ShareTable s t) h i g = AllByRecursion-append (λ (x : Demand). meets (told_made v d r k a (outs_of oss k)) x ≡ true) (side_asks k s) (side_asks k t) (side_met v d r oss k a s h i.0 g.0) (side_met v d r oss k a t h i.1 g.1.0)
link_met v d r oss k a (ShareCell s t) h i g = AllByRecursion-append (λ (x : Demand). meets (told_made v d r k a (outs_of oss k)) x ≡ true) (side_asks k s) (side_asks k t) (side_met v d r oss k a s h i.0 g.0) (side_met v d r oss k a t h i.1 g.1.0)
link_met v d r oss k a (ApartTable s t) h i g = AllByRecursion-append (λ (x : Demand). meets (told_made v d r k a (outs_of oss k)) x ≡ true) (side_asks k s) (side_asks k t) (side_met v d r oss k a s h i.0 g.0) (side_met v d r oss k a t h i.1 g.1.0)
link_met v d r oss k a (SharePage i j) h o g = pages_met v d r oss k a i j (one_page (list_access d r)) h g
link_met v d r oss k a (ApartPage i j) h o g = pages_met v d r oss k a i j (apart_form (list_access d r) (λ (o : Out). o.come)) h g

links_met : (v : Valuation) (d : ModelData) (r : Requests) (oss : List (List Out)) (k : ℕ) (a : AccessWish) (links : List Link) → AreNodes v d (outs_of oss k) → AllByRecursion (IsLink d (length oss)) links → Hold v (flat_map (link_forms d r (list_access d r) oss) links)
    → AllMet (told_made v d r k a (outs_of oss k)) (flat_map (link_asks k) links)
links_met v d r oss k a [] h i g = tt
links_met v d r oss k a (l ∷ ls) h i g =
    let p = AllByRecursion-split (λ (f : Form). is_one (form_value v f) ≡ true) (link_forms d r (list_access d r) oss l) (flat_map (link_forms d r (list_access d r) oss) ls) g in
    AllByRecursion-append (λ (x : Demand). meets (told_made v d r k a (outs_of oss k)) x ≡ true) (link_asks k l) (flat_map (link_asks k) ls) (link_met v d r oss k a l h i.0 p.0) (links_met v d r oss k a ls h i.1 p.1)

-- ---- all of it

-- the walk of access k goes by open ways
pub access_gone : (v : Valuation) (d : ModelData) (r : Requests) (oss : List (List Out)) (k : ℕ) → AreAsked v d r oss → k < length oss → Gone (access_ways d r k) (visits (told v (steps d) (outs_of oss k) 0))
access_gone v d r oss k h l =
    let c = h.count in
    let wish = element r.accesses k (omega (arith, l, c)) in
    let a = wish.0 in
    let own = nodes_at v d oss k h.nodes l in
    let made = told_made v d r k a (outs_of oss k) in
    let z : 0 + k ≡ k = omega arith in
    let demands : AllMet made (map asks a.demands) = subst (λ (n : ℕ). AllMet (told_made v d r n a (outs_of oss k)) (map asks a.demands)) z (wish_met v d r r.accesses oss 0 k a h.nodes h.demands h.wishes wish.1 l) in
    let own_asks : AllMet made (map asks (demands_of (slice_get r.accesses k))) = subst (λ (o : Option AccessWish). AllMet made (map asks (demands_of o))) (sym wish.1) demands in
    run_gone (steps d) made (all_asks r k) own.walked
    (AllByRecursion-append (λ (x : Demand). meets made x ≡ true) (map asks (demands_of (slice_get r.accesses k))) (flat_map (link_asks k) r.links) own_asks (links_met v d r oss k a r.links own h.links h.linked))
