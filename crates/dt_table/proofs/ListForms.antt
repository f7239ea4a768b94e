-- The claims of a list are forms whose operators are applied to as many operands as they take.
use Rattle.std.proofs.Common.{ℕ, ◌+◌, Bool, true, false, cond, not, ◌&&◌, eqb, leb, List, [], ◌∷◌, ◌++◌, map, refl}
use Rattle.std.specs.Prelude.{max}
use Rattle.std.specs.List.{flat_map}
use Rattle.dt_lemmas.proofs.Lists.{AllByRecursion-append}
use Rattle.dt_bits.specs.declared.op.Op.TheVariants.{Shr}
use Rattle.dt_model.specs.ModelData.{ModelData, ActData}
use Rattle.dt_model.specs.Faults.{steps}
use Rattle.dt_request.specs.declared.list.AccessWish.{AccessWish}
use Rattle.dt_request.specs.declared.list.Requests.{Requests}
use Rattle.dt_request.specs.declared.list.Link.{Link}
use Rattle.dt_request.specs.declared.list.Link.TheVariants.{ShareTable, ShareCell, SharePage, ApartTable, ApartPage}
use Rattle.dt_request.specs.declared.list.Demand.{Demand}
use Rattle.dt_request.specs.declared.list.Demand.TheVariants.{Via, Avoid, Take, EndDone, EndFault, Page, Bits, Span}
use Rattle.dt_request.specs.declared.list.Quantity.{Quantity}
use Rattle.dt_request.specs.declared.list.Quantity.TheVariants.{Reg, Input, Word, Cell, Pa}
use Rattle.dt_forms.specs.Forms.{Form, HasForm, HaveForms, term, form1, not_of, both_of, implies, same_of}
use Rattle.dt_table.specs.declared.out.Out.{Out}
use Rattle.dt_table.specs.Passing.{Access}
use Rattle.dt_table.specs.Claims.{ends_only, pair_form}
use Rattle.dt_ways.specs.Ends.{is_end, ends_done, ends_fault, ends_page}
use Rattle.dt_table.specs.Apart.{Sized, same_block, apart_form, pages_at}
use Rattle.dt_table.specs.Demands.{result_form, quantity_forms, is_masked_form, is_within_form, quantity_width, demand_forms}
use Rattle.dt_table.specs.Links.{outs_of, side_at, one_block, one_page}
use Rattle.dt_terms.specs.declared.term.Term.{Term}
use Rattle.dt_table.specs.Extras.{all_extras}
use Rattle.dt_table.specs.Unlike.{all_unlikes, unlike_forms}
use Rattle.dt_table.specs.Table.{access_of, list_access, wish_forms, claim_forms, extra_forms}
use Rattle.dt_table.proofs.Every.{every_pair, every_apart, every_page, every_link, every_block, every_keep, every_list, every_claim, pages_in, tables_in, reads_among, claim_part}
use Rattle.dt_table.proofs.Kept.{kept_have}
use Rattle.dt_table.proofs.Dead.{dead_have}
use Rattle.dt_table.proofs.Unlike.{unlike_have}

-- ---- lists of forms

each_form : {X : Type 0} (f : X → Form) → ((x : X) → HasForm (f x)) → (xs : List X) → HaveForms (map f xs)
each_form f h [] = tt
each_form f h (x ∷ xs) = (h x, each_form f h xs)

all_forms : {X : Type 0} (f : X → List Form) → ((x : X) → HaveForms (f x)) → (xs : List X) → HaveForms (flat_map f xs)
all_forms f h [] = tt
all_forms f h (x ∷ xs) = AllByRecursion-append HasForm (f x) (flat_map f xs) (h x) (all_forms f h xs)

-- ---- demands

ends_form : (test : ActData → Bool) (ps : List ActData) (os : List Out) → HaveForms (ends_only test ps os)
ends_form test [] os = tt
ends_form test (p ∷ ps) [] = tt
ends_form test (p ∷ ps) (o ∷ os) = by_step (is_end p && not (test p)) (ends_form test ps os)
  where
    by_step : (b : Bool) → HaveForms (ends_only test ps os) → HaveForms (cond b (term o.away ∷ ends_only test ps os) (ends_only test ps os))
    by_step true h = (tt, h)
    by_step false h = h

quantity_form : (d : ModelData) (a : Access) (os : List Out) (q : Quantity) (test : ℕ → Form) → ((t : ℕ) → HasForm (test t)) → HaveForms (quantity_forms d a os q test)
quantity_form d a os (Reg i) test h = (h _, tt)
quantity_form d a os (Input i) test h = (h _, tt)
quantity_form d a os (Word n) test h = (tt, (h _, tt))
quantity_form d a os (Cell n) test h = (tt, (h _, tt))
quantity_form d a os Pa test h =
    AllByRecursion-append HasForm (ends_only ends_done (steps d) os) (map (result_form test) (pages_at (steps d) os)) (ends_form ends_done (steps d) os)
    (each_form (result_form test) (λ x. (refl, tt, h x.out.value)) (pages_at (steps d) os))

demand_form : (d : ModelData) (a : Access) (os : List Out) (demand : Demand) → HaveForms (demand_forms d a os demand)
demand_form d a os EndDone = ends_form ends_done (steps d) os
demand_form d a os (EndFault code) = ends_form (ends_fault code) (steps d) os
demand_form d a os (Via n) = (tt, tt)
demand_form d a os (Avoid n) = (tt, tt)
demand_form d a os (Take n b) = (tt, tt)
demand_form d a os (Page n) = ends_form (ends_page n) (steps d) os
demand_form d a os (Bits q mask value) = quantity_form d a os q (is_masked_form (quantity_width d q) mask value) (λ t. (refl, (refl, tt, tt), tt))
demand_form d a os (Span q lo hi) = quantity_form d a os q (is_within_form (quantity_width d q) lo hi) (λ t. (refl, (refl, (refl, tt, tt)), (refl, (refl, tt, tt))))

wishes_form : (d : ModelData) (r : Requests) (wishes : List AccessWish) (oss : List (List Out)) (k : ℕ) → HaveForms (wish_forms d r k wishes oss)
wishes_form d r [] oss k = tt
wishes_form d r (a ∷ more) [] k = tt
wishes_form d r (a ∷ more) (os ∷ oss) k =
    AllByRecursion-append HasForm (flat_map (demand_forms d (access_of d r k a) os) a.demands) (wish_forms d r (k + 1) more oss)
    (all_forms (demand_forms d (access_of d r k a) os) (demand_form d (access_of d r k a) os) a.demands) (wishes_form d r more oss (k + 1))

-- ---- reads at one cell

pairs_form : (os : List Out) → HaveForms (every_pair os)
pairs_form [] = tt
pairs_form (o ∷ os) = AllByRecursion-append HasForm (map (pair_form o) os) (every_pair os) (each_form (pair_form o) (λ x. (refl, (refl, (refl, (refl, tt, tt), (refl, tt, tt))), (refl, tt, tt))) os) (pairs_form os)

-- ---- blocks

block_form : (a : Access) (e s t : ℕ) → HasForm (same_block a e s t)
block_form a e s t = by_size (leb a.address e)
  where
    by_size : (b : Bool) → HasForm (cond b (term a.one_term) (same_of (form1 (Shr e) (term s)) (form1 (Shr e) (term t))))
    by_size true = tt
    by_size false = (refl, (refl, tt), (refl, tt))

apart_has : (a : Access) (key : Out → ℕ) (x y : Sized) → HasForm (apart_form a key x y)
apart_has a key x y = (refl, (refl, (refl, tt, tt), block_form a (max x.exponent y.exponent) x.out.value y.out.value))

aparts_form : (a : Access) (pages tables : List Sized) → HaveForms (every_apart a pages tables)
aparts_form a pages tables = all_forms (λ (p : Sized). map (apart_form a (λ (o : Out). o.by_then) p) tables) (λ p. each_form (apart_form a (λ (o : Out). o.by_then) p) (apart_has a (λ (o : Out). o.by_then) p) tables) pages

-- ---- links

one_block_has : (a : Access) (x y : Sized) → HasForm (one_block a x y)
one_block_has a x y = by_size (eqb x.exponent y.exponent)
  where
    by_size : (b : Bool) → HasForm (cond b (same_block a x.exponent x.out.value y.out.value) (term a.zero_term))
    by_size true = block_form a x.exponent x.out.value y.out.value
    by_size false = tt

one_page_has : (a : Access) (x y : Sized) → HasForm (one_page a x y)
one_page_has a x y = by_size (eqb x.exponent y.exponent)
  where
    by_size : (b : Bool) → HasForm (cond b (implies (both_of (term x.out.come) (term y.out.come)) (same_block a x.exponent x.out.value y.out.value)) (not_of (both_of (term x.out.come) (term y.out.come))))
    by_size true = (refl, (refl, (refl, tt, tt)), block_form a x.exponent x.out.value y.out.value)
    by_size false = (refl, (refl, tt, tt))

pages_have : (d : ModelData) (form : Sized → Sized → Form) (os others : List Out) → ((x y : Sized) → HasForm (form x y)) → HaveForms (every_page d form os others)
pages_have d form os others h =
    let rows = flat_map (λ (x : Sized). map (form x) (pages_at (steps d) others)) (pages_at (steps d) os) in
    AllByRecursion-append HasForm (ends_only ends_done (steps d) os) (ends_only ends_done (steps d) others ++ rows) (ends_form ends_done (steps d) os)
    (AllByRecursion-append HasForm (ends_only ends_done (steps d) others) rows (ends_form ends_done (steps d) others)
    (all_forms (λ (x : Sized). map (form x) (pages_at (steps d) others)) (λ x. each_form (form x) (h x) (pages_at (steps d) others)) (pages_at (steps d) os)))

link_form : (d : ModelData) (a : Access) (oss : List (List Out)) (link : Link) → HaveForms (every_link d a oss link)
link_form d a oss (ShareTable s t) = (tt, (tt, (one_block_has a (side_at d oss s) (side_at d oss t), tt)))
link_form d a oss (ShareCell s t) = (tt, (tt, ((refl, tt, tt), tt)))
link_form d a oss (ApartTable s t) = (tt, (tt, ((refl, block_form a (max (side_at d oss s).exponent (side_at d oss t).exponent) (side_at d oss s).out.value (side_at d oss t).out.value), tt)))
link_form d a oss (SharePage j k) = pages_have d (one_page a) (outs_of oss j) (outs_of oss k) (one_page_has a)
link_form d a oss (ApartPage j k) = pages_have d (apart_form a (λ (o : Out). o.come)) (outs_of oss j) (outs_of oss k) (apart_has a (λ (o : Out). o.come))

-- ---- all claims

every_form : (d : ModelData) (r : Requests) (oss : List (List Out)) → HaveForms (every_claim d r oss)
every_form d r oss =
    let a = list_access d r in
    let links = flat_map (every_link d a oss) r.links in
    AllByRecursion-append HasForm (every_pair (reads_among d oss)) (every_list d r oss) (pairs_form (reads_among d oss)) (
    AllByRecursion-append HasForm (wish_forms d r 0 r.accesses oss) (links ++ (every_block d r oss ++ every_keep d r oss)) (wishes_form d r r.accesses oss 0) (
    AllByRecursion-append HasForm links (every_block d r oss ++ every_keep d r oss) (all_forms (every_link d a oss) (link_form d a oss) r.links) (
    AllByRecursion-append HasForm (every_block d r oss) (every_keep d r oss) (aparts_form a (pages_in d oss) (tables_in d oss)) (kept_have a (pages_in d oss) (tables_in d oss) r.kept)
    )))

pub claims_form : (d : ModelData) (r : Requests) (terms : List Term) (oss : List (List Out)) → HaveForms (claim_forms d r oss ++ extra_forms d r terms oss)
claims_form d r terms oss =
    let us = all_unlikes d r terms oss in
    AllByRecursion-append HasForm (claim_forms d r oss) (extra_forms d r terms oss) ((claim_part d r oss).all HasForm (every_form d r oss))
    (AllByRecursion-append HasForm (all_extras d r 0 oss) (unlike_forms (list_access d r) us) (dead_have d r 0 oss) (unlike_have (list_access d r) us))
