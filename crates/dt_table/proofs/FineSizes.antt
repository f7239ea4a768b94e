-- How many terms the claims of a list take.
use Rattle.std.proofs.Common.{◌≡◌, ℕ, suc, ◌+◌, ◌-◌, ◌*◌, ◌/◌, ◌≤◌, ◌^◌, Bool, true, false, cond, not, ◌&&◌, eqb, leb, ltb, List, [], ◌∷◌, ◌++◌, length, map, refl, ap, ◌∙◌, arith}
use Rattle.std.specs.Prelude.{max}
use Rattle.std.specs.List.{flat_map, AllByRecursion}
use Rattle.std.proofs.Math.Nat.{mul-le-mul, mul-le-mul_right, mul-add}
use Rattle.dt_bits.specs.declared.op.Op.TheVariants.{Shr}
use Rattle.dt_model.specs.ModelData.{ModelData, ActData, bind, read, branch, fault, done}
use Rattle.dt_model.specs.Faults.{steps}
use Rattle.dt_request.specs.declared.list.AccessWish.{AccessWish}
use Rattle.dt_request.specs.declared.list.Requests.{Requests}
use Rattle.dt_request.specs.declared.list.KeptRange.{KeptRange}
use Rattle.dt_request.specs.declared.list.Link.{Link}
use Rattle.dt_request.specs.declared.list.Link.TheVariants.{ShareTable, ShareCell, SharePage, ApartTable, ApartPage}
use Rattle.dt_request.specs.declared.list.Demand.{Demand}
use Rattle.dt_request.specs.declared.list.Demand.TheVariants.{Via, Avoid, Take, EndDone, EndFault, Page, Bits, Span}
use Rattle.dt_request.specs.declared.list.Quantity.{Quantity}
use Rattle.dt_request.specs.declared.list.Quantity.TheVariants.{Reg, Input, Word, Cell, Pa}
use Rattle.dt_forms.specs.Forms.{Form, term, number, form1, not_of, both_of, implies, same_of, less_of}
use Rattle.dt_forms.specs.Sizes.{form_size}
use Rattle.dt_forms.proofs.Fine.{forms_size, size_append, size_map, size_flat, mul_more}
use Rattle.dt_table.specs.declared.out.Out.{Out}
use Rattle.dt_table.specs.Passing.{Access}
use Rattle.dt_table.specs.Claims.{ends_only, pair_form, reads_of}
use Rattle.dt_ways.specs.Ends.{is_end, ends_done, ends_fault, ends_page}
use Rattle.dt_table.specs.Apart.{Sized, same_block, apart_form, pages_at, tables_at}
use Rattle.dt_table.specs.Kept.{touches_form, kept_form}
use Rattle.dt_table.specs.Demands.{result_form, quantity_forms, is_masked_form, is_within_form, quantity_width, demand_forms}
use Rattle.dt_table.specs.Links.{outs_of, side_at, one_block, one_page}
use Rattle.dt_table.proofs.Every.{every_pair, every_apart, every_kept, every_page, every_link}
use Rattle.dt_table.specs.Outs.{out_at}
use Rattle.dt_table.specs.Table.{access_of, wish_forms}
use Rattle.dt_table.proofs.Ready.{reads_in}

-- ---- how many nodes there are of a kind

abbrev pub dones_in : List ActData → ℕ
dones_in [] = 0
dones_in (done e p ∷ ps) = 1 + dones_in ps
dones_in (p ∷ ps) = dones_in ps

pub pages_count : (ps : List ActData) (os : List Out) → length (pages_at ps os) ≤ dones_in ps
pages_count [] os = omega arith
pages_count (bind x e to ∷ ps) [] = omega arith
pages_count (read x e g t f ∷ ps) [] = omega arith
pages_count (branch e t f ∷ ps) [] = omega arith
pages_count (fault c ∷ ps) [] = omega arith
pages_count (done e p ∷ ps) [] = omega arith
pages_count (bind x e to ∷ ps) (o ∷ os) = pages_count ps os
pages_count (read x e g t f ∷ ps) (o ∷ os) = pages_count ps os
pages_count (branch e t f ∷ ps) (o ∷ os) = pages_count ps os
pages_count (fault c ∷ ps) (o ∷ os) = pages_count ps os
pages_count (done e p ∷ ps) (o ∷ os) = let h = pages_count ps os in omega (arith, h)

pub tables_count : (ps : List ActData) (os : List Out) → length (tables_at ps os) ≤ reads_in ps
tables_count [] os = omega arith
tables_count (bind x e to ∷ ps) [] = omega arith
tables_count (read x e g t f ∷ ps) [] = omega arith
tables_count (branch e t f ∷ ps) [] = omega arith
tables_count (fault c ∷ ps) [] = omega arith
tables_count (done e p ∷ ps) [] = omega arith
tables_count (bind x e to ∷ ps) (o ∷ os) = let h = tables_count ps os in omega (arith, h)
tables_count (branch e t f ∷ ps) (o ∷ os) = let h = tables_count ps os in omega (arith, h)
tables_count (fault c ∷ ps) (o ∷ os) = let h = tables_count ps os in omega (arith, h)
tables_count (done e p ∷ ps) (o ∷ os) = let h = tables_count ps os in omega (arith, h)
tables_count (read x e g t f ∷ ps) (o ∷ os) = let h = tables_count ps os in omega (arith, h)

pub reads_count : (ps : List ActData) (os : List Out) → length (reads_of ps os) ≤ reads_in ps
reads_count [] os = omega arith
reads_count (bind x e to ∷ ps) [] = omega arith
reads_count (read x e g t f ∷ ps) [] = omega arith
reads_count (branch e t f ∷ ps) [] = omega arith
reads_count (fault c ∷ ps) [] = omega arith
reads_count (done e p ∷ ps) [] = omega arith
reads_count (bind x e to ∷ ps) (o ∷ os) = let h = reads_count ps os in omega (arith, h)
reads_count (branch e t f ∷ ps) (o ∷ os) = let h = reads_count ps os in omega (arith, h)
reads_count (fault c ∷ ps) (o ∷ os) = let h = reads_count ps os in omega (arith, h)
reads_count (done e p ∷ ps) (o ∷ os) = let h = reads_count ps os in omega (arith, h)
reads_count (read x e g t f ∷ ps) (o ∷ os) = let h = reads_count ps os in omega (arith, h)

-- ---- blocks

block_size : (a : Access) (e s t : ℕ) → form_size (same_block a e s t) ≤ 3
block_size a e s t = by_size (leb a.address e)
  where
    by_size : (c : Bool) → form_size (cond c (term a.one_term) (same_of (form1 (Shr e) (term s)) (form1 (Shr e) (term t)))) ≤ 3
    by_size true = omega arith
    by_size false = omega arith

apart_size : (a : Access) (key : Out → ℕ) (x y : Sized) → form_size (apart_form a key x y) ≤ 6
apart_size a key x y = let h = block_size a (max x.exponent y.exponent) x.out.value y.out.value in omega (arith, h)

pub aparts_size : (a : Access) (pages tables : List Sized) → forms_size (every_apart a pages tables) ≤ length pages * (length tables * 6)
aparts_size a pages tables =
    size_flat (λ (p : Sized). map (apart_form a (λ (o : Out). o.by_then) p) tables) (length tables * 6) (λ x. size_map (apart_form a (λ (o : Out). o.by_then) x) 6 (λ y. apart_size a (λ (o : Out). o.by_then) x y) tables) pages

-- ---- reads at one cell

pub pairs_size : (os : List Out) → 2 * forms_size (every_pair os) ≤ length os * (length os * 6)
pairs_size [] = omega arith
pairs_size (o ∷ os) =
    let n = length os in
    let a = size_append (map (pair_form o) os) (every_pair os) in
    let b = size_map (pair_form o) 6 (λ q. omega arith) os in
    let c = pairs_size os in
    let d = mul_more n (n * 6) in
    let e : suc n * 6 ≡ n * 6 + 6 = omega arith in
    let f : suc n * (suc n * 6) ≡ suc n * (n * 6) + suc n * 6 = ap (λ (k : ℕ). suc n * k) e ∙ mul-add (suc n) (n * 6) 6 in
    omega (arith, a, b, c, d, e, f)

-- ---- kept ranges

touches_size : (a : Access) (e : ℕ) (k : KeptRange) (t : ℕ) → form_size (touches_form a e k t) ≤ 9
touches_size a e k t = by_size (leb a.address e)
  where
    by_size : (c : Bool) → form_size (cond c (term a.one_term) (both_of (not_of (less_of (number a.address ((k.hi - 1) / 2 ^ e)) (form1 (Shr e) (term t)))) (not_of (less_of (form1 (Shr e) (term t)) (number a.address (k.lo / 2 ^ e)))))) ≤ 9
    by_size true = omega arith
    by_size false = omega arith

kept_size : (a : Access) (k : KeptRange) (key : Out → ℕ) (x : Sized) → form_size (kept_form a k key x) ≤ 11
kept_size a k key x = let h = touches_size a x.exponent k x.out.value in omega (arith, h)

range_size : (a : Access) (pages tables : List Sized) (k : KeptRange) → forms_size (every_kept a pages tables k) ≤ length pages * 11 + length tables * 11
range_size a pages tables k = by_range (ltb k.lo k.hi)
  where
    by_range : (c : Bool) → forms_size (cond c (map (kept_form a k (λ (o : Out). o.come)) pages ++ map (kept_form a k (λ (o : Out). o.by_then)) tables) []) ≤ length pages * 11 + length tables * 11
    by_range true =
        let s = size_append (map (kept_form a k (λ (o : Out). o.come)) pages) (map (kept_form a k (λ (o : Out). o.by_then)) tables) in
        let x = size_map (kept_form a k (λ (o : Out). o.come)) 11 (kept_size a k (λ (o : Out). o.come)) pages in
        let y = size_map (kept_form a k (λ (o : Out). o.by_then)) 11 (kept_size a k (λ (o : Out). o.by_then)) tables in
        omega (arith, s, x, y)
    by_range false = omega arith

pub keeps_size : (a : Access) (pages tables : List Sized) (ks : List KeptRange) → forms_size (flat_map (every_kept a pages tables) ks) ≤ length ks * (length pages * 11 + length tables * 11)
keeps_size a pages tables ks = size_flat (every_kept a pages tables) (length pages * 11 + length tables * 11) (range_size a pages tables) ks

-- ---- demands

ends_size : (test : ActData → Bool) (ps : List ActData) (os : List Out) → forms_size (ends_only test ps os) ≡ 0
ends_size test [] os = refl
ends_size test (p ∷ ps) [] = refl
ends_size test (p ∷ ps) (o ∷ os) = by_step (is_end p && not (test p)) (ends_size test ps os)
  where
    by_step : (b : Bool) → forms_size (ends_only test ps os) ≡ 0 → forms_size (cond b (term o.away ∷ ends_only test ps os) (ends_only test ps os)) ≡ 0
    by_step true h = omega (arith, h)
    by_step false h = h

quantity_size : (d : ModelData) (a : Access) (os : List Out) (q : Quantity) (test : ℕ → Form) → ((t : ℕ) → form_size (test t) ≤ 7) → forms_size (quantity_forms d a os q test) ≤ dones_in (steps d) * 8 + 7
quantity_size d a os (Reg i) test h = let x = h (a.regs + i) in omega (arith, x)
quantity_size d a os (Input i) test h = let x = h (a.inputs + i) in omega (arith, x)
quantity_size d a os (Word n) test h = let x = h (out_at os n).word in omega (arith, x)
quantity_size d a os (Cell n) test h = let x = h (out_at os n).value in omega (arith, x)
quantity_size d a os Pa test h =
    let s = size_append (ends_only ends_done (steps d) os) (map (result_form test) (pages_at (steps d) os)) in
    let e = ends_size ends_done (steps d) os in
    let m = size_map (result_form test) 8 (λ x. let y = h x.out.value in omega (arith, y)) (pages_at (steps d) os) in
    let c = pages_count (steps d) os in
    let l : length (pages_at (steps d) os) * 8 ≤ dones_in (steps d) * 8 = mul-le-mul_right 8 c in
    omega (arith, s, e, m, l)

demand_size : (d : ModelData) (a : Access) (os : List Out) (demand : Demand) → forms_size (demand_forms d a os demand) ≤ dones_in (steps d) * 8 + 7
demand_size d a os (Via n) = omega arith
demand_size d a os (Avoid n) = omega arith
demand_size d a os (Take n b) = omega arith
demand_size d a os EndDone = let e = ends_size ends_done (steps d) os in omega (arith, e)
demand_size d a os (EndFault code) = let e = ends_size (ends_fault code) (steps d) os in omega (arith, e)
demand_size d a os (Page page) = let e = ends_size (ends_page page) (steps d) os in omega (arith, e)
demand_size d a os (Bits q mask value) = quantity_size d a os q (is_masked_form (quantity_width d q) mask value) (λ t. omega arith)
demand_size d a os (Span q lo hi) = quantity_size d a os q (is_within_form (quantity_width d q) lo hi) (λ t. omega arith)

pub wishes_size : (d : ModelData) (r : Requests) (wishes : List AccessWish) (oss : List (List Out)) (k : ℕ) → AllByRecursion (λ (a : AccessWish). length a.demands ≤ 64) wishes → forms_size (wish_forms d r k wishes oss) ≤ length wishes * (64 * (dones_in (steps d) * 8 + 7))
wishes_size d r [] oss k h = omega arith
wishes_size d r (a ∷ more) [] k h = omega arith
wishes_size d r (a ∷ more) (os ∷ oss) k h =
    let acc = access_of d r k a in
    let most = dones_in (steps d) * 8 + 7 in
    let s = size_append (flat_map (demand_forms d acc os) a.demands) (wish_forms d r (k + 1) more oss) in
    let f = size_flat (demand_forms d acc os) most (demand_size d acc os) a.demands in
    let l : length a.demands * most ≤ 64 * most = mul-le-mul_right most h.0 in
    let m = mul_more (length more) (64 * most) in
    let rest = wishes_size d r more oss (k + 1) h.1 in
    omega (arith, s, f, l, m, rest)

-- ---- links

one_block_size : (a : Access) (x y : Sized) → form_size (one_block a x y) ≤ 3
one_block_size a x y = by_size (eqb x.exponent y.exponent)
  where
    by_size : (c : Bool) → form_size (cond c (same_block a x.exponent x.out.value y.out.value) (term a.zero_term)) ≤ 3
    by_size true = block_size a x.exponent x.out.value y.out.value
    by_size false = omega arith

one_page_size : (a : Access) (x y : Sized) → form_size (one_page a x y) ≤ 6
one_page_size a x y = by_size (eqb x.exponent y.exponent)
  where
    by_size : (c : Bool) → form_size (cond c (implies (both_of (term x.out.come) (term y.out.come)) (same_block a x.exponent x.out.value y.out.value)) (not_of (both_of (term x.out.come) (term y.out.come)))) ≤ 6
    by_size true = let h = block_size a x.exponent x.out.value y.out.value in omega (arith, h)
    by_size false = omega arith

pages_size : (d : ModelData) (form : Sized → Sized → Form) (os others : List Out) → ((x y : Sized) → form_size (form x y) ≤ 6) → forms_size (every_page d form os others) ≤ dones_in (steps d) * (dones_in (steps d) * 6)
pages_size d form os others h =
    let xs = pages_at (steps d) os in
    let ys = pages_at (steps d) others in
    let rows = flat_map (λ (x : Sized). map (form x) ys) xs in
    let s = size_append (ends_only ends_done (steps d) os) (ends_only ends_done (steps d) others ++ rows) in
    let t = size_append (ends_only ends_done (steps d) others) rows in
    let e = ends_size ends_done (steps d) os in
    let f = ends_size ends_done (steps d) others in
    let m = size_flat (λ (x : Sized). map (form x) ys) (length ys * 6) (λ x. size_map (form x) 6 (h x) ys) xs in
    let l : length xs * (length ys * 6) ≤ dones_in (steps d) * (dones_in (steps d) * 6) = mul-le-mul (pages_count (steps d) os) (mul-le-mul_right 6 (pages_count (steps d) others)) in
    omega (arith, s, t, e, f, m, l)

link_size : (d : ModelData) (a : Access) (oss : List (List Out)) (link : Link) → dones_in (steps d) ≤ 16 → forms_size (every_link d a oss link) ≤ 1536
link_size d a oss (ShareTable s t) few = let h = one_block_size a (side_at d oss s) (side_at d oss t) in omega (arith, h)
link_size d a oss (ShareCell s t) few = omega arith
link_size d a oss (ApartTable s t) few =
    let x = side_at d oss s in
    let y = side_at d oss t in
    let h = block_size a (max x.exponent y.exponent) x.out.value y.out.value in
    omega (arith, h)
link_size d a oss (SharePage j k) few =
    let h = pages_size d (one_page a) (outs_of oss j) (outs_of oss k) (one_page_size a) in
    let m : dones_in (steps d) * (dones_in (steps d) * 6) ≤ 16 * (16 * 6) = mul-le-mul few (mul-le-mul_right 6 few) in
    omega (arith, h, m)
link_size d a oss (ApartPage j k) few =
    let h = pages_size d (apart_form a (λ (o : Out). o.come)) (outs_of oss j) (outs_of oss k) (apart_size a (λ (o : Out). o.come)) in
    let m : dones_in (steps d) * (dones_in (steps d) * 6) ≤ 16 * (16 * 6) = mul-le-mul few (mul-le-mul_right 6 few) in
    omega (arith, h, m)

pub links_size : (d : ModelData) (a : Access) (oss : List (List Out)) (links : List Link) → dones_in (steps d) ≤ 16 → forms_size (flat_map (every_link d a oss) links) ≤ length links * 1536
links_size d a oss links few = size_flat (every_link d a oss) 1536 (λ l. link_size d a oss l few) links
