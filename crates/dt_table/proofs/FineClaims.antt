-- The claims of a list can be put behind the terms of its accesses, each of one bit, and how many terms they take.
use Rattle.std.proofs.Common.{◌≡◌, ℕ, zero, suc, ◌+◌, ◌-◌, ◌/◌, ◌<◌, ◌≤◌, ◌^◌, Bool, true, false, cond, not, ◌&&◌, eqb, leb, ltb, List, [], ◌∷◌, ◌++◌, length, map, Option, Some, None, refl, sym, subst, arith}
use Rattle.std.specs.Prelude.{slice_get, max, unwrap_or, IsTrue, IsSomeAnd}
use Rattle.std.specs.List.{flat_map, AllByRecursion}
use Rattle.std.proofs.Math.Nat.{div-le_self}
use Rattle.std.proofs.lemmas.Bool.{leb-false, ltb-true, false≢true}
use Rattle.dt_lemmas.proofs.Lists.{element}
use Rattle.dt_bits.specs.Bits.{IsWidth}
use Rattle.dt_bits.specs.declared.op.Op.TheVariants.{Shr}
use Rattle.dt_model.specs.declared.model.Named.{Named as NamedWidth}
use Rattle.dt_model.specs.ModelData.{ModelData, ActData, bind, read, branch, fault, done}
use Rattle.dt_model.specs.Faults.{steps, is_read}
use Rattle.dt_model.specs.Widths.{AreWidths, width_at}
use Rattle.dt_request.specs.declared.list.KeptRange.{KeptRange}
use Rattle.dt_request.specs.declared.list.Side.{Side}
use Rattle.dt_request.specs.declared.list.Link.{Link}
use Rattle.dt_request.specs.declared.list.Link.TheVariants.{ShareTable, ShareCell, SharePage, ApartTable, ApartPage}
use Rattle.dt_request.specs.declared.list.Demand.{Demand}
use Rattle.dt_request.specs.declared.list.Demand.TheVariants.{Via, Avoid, Take, EndDone, EndFault, Page, Bits, Span}
use Rattle.dt_request.specs.declared.list.Quantity.{Quantity}
use Rattle.dt_request.specs.declared.list.Quantity.TheVariants.{Reg, Input, Word, Cell, Pa}
use Rattle.dt_request.specs.Lists.{IsNode, IsReadNode, IsDemand, CanBe, IsSide, IsLink, is_fork, width_of, read_width}
use Rattle.dt_terms.specs.declared.term.Term.{Term}
use Rattle.dt_forms.specs.Forms.{Form, term, number, form1, not_of, both_of, implies, same_of, less_of}
use Rattle.dt_forms.proofs.Fine.{IsSized, IsFine, AreFine, term_fine, number_fine, not_fine, and_fine, both_fine, or_fine, implies_fine, same_fine, less_fine, shr_fine, fine_map, fine_append, fine_flat}
use Rattle.dt_table.specs.declared.out.Out.{Out}
use Rattle.dt_table.specs.Passing.{Access}
use Rattle.dt_table.specs.Claims.{ends_only, pair_form, reads_of}
use Rattle.dt_ways.specs.Ends.{is_end, ends_done, ends_fault, ends_page}
use Rattle.dt_table.specs.Apart.{Sized, same_block, apart_form, pages_at, tables_at}
use Rattle.dt_table.specs.Kept.{touches_form, kept_form}
use Rattle.dt_table.specs.Demands.{result_form, quantity_forms, is_masked_form, is_within_form, quantity_width, demand_forms}
use Rattle.dt_table.specs.Links.{outs_of, side_at, reads_forms, one_block, apart_blocks, one_cell, one_page}
use Rattle.dt_table.proofs.Every.{every_pair, every_apart, every_kept, every_page, every_link}
use Rattle.dt_table.specs.Outs.{out_at, edge_at}
use Rattle.dt_table.proofs.Flagged.{AllOuts}
use Rattle.dt_table.proofs.Sides.{out_fact}
use Rattle.dt_table.proofs.FineWalks.{IsOutSized}
use Rattle.dt_table.proofs.NodeKinds.{pages_have, tables_have, reads_have}

-- ---- what stands for nodes

-- the terms of a read or a result
pub record IsNodeSized (address word : ℕ) (terms : List Term) (o : Out) : Type 0 where
  pub come : IsSized terms o.come 1
  pub by_then : IsSized terms o.by_then 1
  pub away : IsSized terms o.away 1
  pub value : IsSized terms o.value address

abbrev pub AreNodesSized : ℕ → ℕ → List Term → List Sized → Type 0
AreNodesSized address word terms xs = AllByRecursion (λ (x : Sized). IsNodeSized address word terms x.out) xs

pub pages_sized : (address word : ℕ) (terms : List Term) (ps : List ActData) (os : List Out) → AllOuts (IsOutSized address word terms) ps os → AreNodesSized address word terms (pages_at ps os)
pages_sized address word terms ps os h =
    pages_have (IsOutSized address word terms) (λ (x : Sized). IsNodeSized address word terms x.out) (λ e p o k. record { come = k.come; by_then = k.by_then; away = k.away; value = k.value refl }) ps os h

pub tables_sized : (address word : ℕ) (terms : List Term) (ps : List ActData) (os : List Out) → AllOuts (IsOutSized address word terms) ps os → AreNodesSized address word terms (tables_at ps os)
tables_sized address word terms ps os h =
    tables_have (IsOutSized address word terms) (λ (x : Sized). IsNodeSized address word terms x.out) (λ x e g t f o k. record { come = k.come; by_then = k.by_then; away = k.away; value = k.value refl }) ps os h

-- the terms of a read
pub record IsReadSized (address word : ℕ) (terms : List Term) (o : Out) : Type 0 where
  pub by_then : IsSized terms o.by_then 1
  pub away : IsSized terms o.away 1
  pub value : IsSized terms o.value address
  pub word_is : IsSized terms o.word word

pub reads_sized : (address word : ℕ) (terms : List Term) (ps : List ActData) (os : List Out) → AllOuts (IsOutSized address word terms) ps os → AllByRecursion (IsReadSized address word terms) (reads_of ps os)
reads_sized address word terms ps os h = reads_have (IsOutSized address word terms) (IsReadSized address word terms) (λ x e g t f o k. record { by_then = k.by_then; away = k.away; value = k.value refl; word_is = k.word_is refl }) ps os h

-- ---- blocks

-- what is asked of the constants and of addresses
pub record AreBits (terms : List Term) (a : Access) : Type 0 where
  pub zero_is : IsSized terms a.zero_term 1
  pub one_is : IsSized terms a.one_term 1
  pub wide : IsWidth a.address

block_fine : (terms : List Term) (a : Access) (e s t : ℕ) → AreBits terms a → IsSized terms s a.address → IsSized terms t a.address → IsFine terms (same_block a e s t) 1
block_fine terms a e s t b h k = by_size (leb a.address e) refl
  where
    by_size : (c : Bool) → leb a.address e ≡ c → IsFine terms (cond c (term a.one_term) (same_of (form1 (Shr e) (term s)) (form1 (Shr e) (term t)))) 1
    by_size true q = term_fine terms a.one_term 1 b.one_is
    by_size false q =
        let l = leb-false a.address e q in
        same_fine terms (form1 (Shr e) (term s)) (form1 (Shr e) (term t)) a.address (shr_fine terms e (term s) a.address l (term_fine terms s a.address h)) (shr_fine terms e (term t) a.address l (term_fine terms t a.address k))

come_both : (address word : ℕ) (terms : List Term) (x y : Sized) → IsNodeSized address word terms x.out → IsNodeSized address word terms y.out → IsFine terms (both_of (term x.out.come) (term y.out.come)) 1
come_both address word terms x y h k = both_fine terms (term x.out.come) (term y.out.come) (term_fine terms x.out.come 1 h.come) (term_fine terms y.out.come 1 k.come)

apart_fine : (word : ℕ) (terms : List Term) (a : Access) (key : Out → ℕ) (x y : Sized) → AreBits terms a → IsNodeSized a.address word terms x.out → IsNodeSized a.address word terms y.out → IsSized terms (key y.out) 1 → IsFine terms (apart_form a key x y) 1
apart_fine word terms a key x y b h k l =
    let both = both_of (term x.out.come) (term (key y.out)) in
    let block = same_block a (max x.exponent y.exponent) x.out.value y.out.value in
    not_fine terms (both_of both block)
    (both_fine terms both block (both_fine terms (term x.out.come) (term (key y.out)) (term_fine terms x.out.come 1 h.come) (term_fine terms (key y.out) 1 l)) (block_fine terms a (max x.exponent y.exponent) x.out.value y.out.value b h.value k.value))

pub aparts_fine : (word : ℕ) (terms : List Term) (a : Access) (pages tables : List Sized) → AreBits terms a → AreNodesSized a.address word terms pages → AreNodesSized a.address word terms tables → AreFine terms (every_apart a pages tables)
aparts_fine word terms a pages tables b h k =
    fine_flat terms (λ (x : Sized). IsNodeSized a.address word terms x.out) (λ (p : Sized). map (apart_form a (λ (o : Out). o.by_then) p) tables)
    (λ x i. fine_map terms (λ (y : Sized). IsNodeSized a.address word terms y.out) (apart_form a (λ (o : Out). o.by_then) x) (λ y j. apart_fine word terms a (λ (o : Out). o.by_then) x y b i j j.by_then) tables k) pages h

-- ---- reads at one cell

pair_fine : (address word : ℕ) (terms : List Term) (o q : Out) → IsReadSized address word terms o → IsReadSized address word terms q → IsFine terms (pair_form o q) 1
pair_fine address word terms o q h k =
    let both = both_of (term o.by_then) (term q.by_then) in
    let cells = same_of (term o.value) (term q.value) in
    let words = same_of (term o.word) (term q.word) in
    implies_fine terms (both_of both cells) words
    (both_fine terms both cells (both_fine terms (term o.by_then) (term q.by_then) (term_fine terms o.by_then 1 h.by_then) (term_fine terms q.by_then 1 k.by_then))
    (same_fine terms (term o.value) (term q.value) address (term_fine terms o.value address h.value) (term_fine terms q.value address k.value)))
    (same_fine terms (term o.word) (term q.word) word (term_fine terms o.word word h.word_is) (term_fine terms q.word word k.word_is))

pub pairs_fine : (address word : ℕ) (terms : List Term) (os : List Out) → AllByRecursion (IsReadSized address word terms) os → AreFine terms (every_pair os)
pairs_fine address word terms [] h = tt
pairs_fine address word terms (o ∷ os) h =
    fine_append terms (map (pair_form o) os) (every_pair os) (fine_map terms (IsReadSized address word terms) (pair_form o) (λ q k. pair_fine address word terms o q h.0 k) os h.1) (pairs_fine address word terms os h.1)

-- ---- kept ranges

touches_fine : (terms : List Term) (a : Access) (e : ℕ) (k : KeptRange) (t : ℕ) → AreBits terms a → k.lo < k.hi → k.hi ≤ 2 ^ a.address → IsSized terms t a.address → IsFine terms (touches_form a e k t) 1
touches_fine terms a e k t b l within h = by_size (leb a.address e) refl
  where
    by_size : (c : Bool) → leb a.address e ≡ c → IsFine terms (cond c (term a.one_term) (both_of (not_of (less_of (number a.address ((k.hi - 1) / 2 ^ e)) (form1 (Shr e) (term t)))) (not_of (less_of (form1 (Shr e) (term t)) (number a.address (k.lo / 2 ^ e)))))) 1
    by_size true q = term_fine terms a.one_term 1 b.one_is
    by_size false q =
        let below = leb-false a.address e q in
        let quotient = form1 (Shr e) (term t) in
        let first = number a.address ((k.hi - 1) / 2 ^ e) in
        let last = number a.address (k.lo / 2 ^ e) in
        let x = div-le_self (k.hi - 1) (2 ^ e) in
        let y = div-le_self k.lo (2 ^ e) in
        let z = shr_fine terms e (term t) a.address below (term_fine terms t a.address h) in
        both_fine terms (not_of (less_of first quotient)) (not_of (less_of quotient last))
        (not_fine terms (less_of first quotient) (less_fine terms first quotient a.address (number_fine terms a.address ((k.hi - 1) / 2 ^ e) b.wide (omega (arith, x, l, within))) z))
        (not_fine terms (less_of quotient last) (less_fine terms quotient last a.address z (number_fine terms a.address (k.lo / 2 ^ e) b.wide (omega (arith, y, l, within)))))

kept_fine : (word : ℕ) (terms : List Term) (a : Access) (pages tables : List Sized) (k : KeptRange) → AreBits terms a → k.hi ≤ 2 ^ a.address → AreNodesSized a.address word terms pages → AreNodesSized a.address word terms tables → AreFine terms (every_kept a pages tables k)
kept_fine word terms a pages tables k b within h i = by_range (ltb k.lo k.hi) refl
  where
    one : (key : Out → ℕ) (x : Sized) → k.lo < k.hi → IsSized terms (key x.out) 1 → IsNodeSized a.address word terms x.out → IsFine terms (kept_form a k key x) 1
    one key x l m n =
        not_fine terms (both_of (term (key x.out)) (touches_form a x.exponent k x.out.value))
        (both_fine terms (term (key x.out)) (touches_form a x.exponent k x.out.value) (term_fine terms (key x.out) 1 m) (touches_fine terms a x.exponent k x.out.value b l within n.value))

    by_range : (c : Bool) → ltb k.lo k.hi ≡ c → AreFine terms (cond c (map (kept_form a k (λ (o : Out). o.come)) pages ++ map (kept_form a k (λ (o : Out). o.by_then)) tables) [])
    by_range true q =
        let l = ltb-true k.lo k.hi q in
        fine_append terms (map (kept_form a k (λ (o : Out). o.come)) pages) (map (kept_form a k (λ (o : Out). o.by_then)) tables)
        (fine_map terms (λ (x : Sized). IsNodeSized a.address word terms x.out) (kept_form a k (λ (o : Out). o.come)) (λ x n. one (λ (o : Out). o.come) x l n.come n) pages h)
        (fine_map terms (λ (x : Sized). IsNodeSized a.address word terms x.out) (kept_form a k (λ (o : Out). o.by_then)) (λ x n. one (λ (o : Out). o.by_then) x l n.by_then n) tables i)
    by_range false q = tt

pub keeps_fine : (word : ℕ) (terms : List Term) (a : Access) (pages tables : List Sized) (ks : List KeptRange) → AreBits terms a → AreNodesSized a.address word terms pages → AreNodesSized a.address word terms tables
    → AllByRecursion (λ (k : KeptRange). k.hi ≤ 2 ^ a.address) ks → AreFine terms (flat_map (every_kept a pages tables) ks)
keeps_fine word terms a pages tables ks b h i w = fine_flat terms (λ (k : KeptRange). k.hi ≤ 2 ^ a.address) (every_kept a pages tables) (λ k l. kept_fine word terms a pages tables k b l h i) ks w

-- ---- what stands for the nodes of one access

pub record AreOutsSized (d : ModelData) (terms : List Term) (os : List Out) : Type 0 where
  pub count : length os ≡ length (steps d)
  pub outs : AllOuts (IsOutSized d.address d.word terms) (steps d) os

pub node_sized : (d : ModelData) (terms : List Term) (os : List Out) (n : ℕ) → AreOutsSized d terms os → n < length (steps d) → (p : ActData) × IsOutSized d.address d.word terms p (out_at os n)
node_sized d terms os n h l =
    let p = element (steps d) n l in
    (p.0, out_fact (IsOutSized d.address d.word terms) (steps d) os n p.0 h.outs h.count p.1)

there : (ps : List ActData) (n : ℕ) (P : ActData → Type 0) → IsSomeAnd (slice_get ps n) P → (p : ActData) × (slice_get ps n ≡ Some p) × P p
there ps n P h = by_step (slice_get ps n) refl h
  where
    by_step : (o : Option ActData) → slice_get ps n ≡ o → IsSomeAnd o P → (p : ActData) × (slice_get ps n ≡ Some p) × P p
    by_step None e k = absurd k
    by_step (Some p) e k = (p, e, k)

read_sized : (d : ModelData) (terms : List Term) (os : List Out) (n : ℕ) → AreOutsSized d terms os → IsReadNode d n → IsReadSized d.address d.word terms (out_at os n)
read_sized d terms os n h r =
    let p = there (steps d) n (λ p. IsTrue (is_read p)) r in
    by_step p.0 p.2 (out_fact (IsOutSized d.address d.word terms) (steps d) os n p.0 h.outs h.count p.1)
  where
    by_step : (p : ActData) → is_read p ≡ true → IsOutSized d.address d.word terms p (out_at os n) → IsReadSized d.address d.word terms (out_at os n)
    by_step (read x e g t f) e2 k = record { by_then = k.by_then; away = k.away; value = k.value refl; word_is = k.word_is refl }
    by_step (bind x e t) e2 k = absurd (false≢true e2)
    by_step (branch e t o) e2 k = absurd (false≢true e2)
    by_step (fault c) e2 k = absurd (false≢true e2)
    by_step (done e p) e2 k = absurd (false≢true e2)

ends_fine : (address word : ℕ) (terms : List Term) (test : ActData → Bool) (ps : List ActData) (os : List Out) → AllOuts (IsOutSized address word terms) ps os → AreFine terms (ends_only test ps os)
ends_fine address word terms test [] os h = tt
ends_fine address word terms test (p ∷ ps) [] h = tt
ends_fine address word terms test (p ∷ ps) (o ∷ os) h = by_step (is_end p && not (test p)) (ends_fine address word terms test ps os h.1)
  where
    by_step : (b : Bool) → AreFine terms (ends_only test ps os) → AreFine terms (cond b (term o.away ∷ ends_only test ps os) (ends_only test ps os))
    by_step true k = (term_fine terms o.away 1 h.0.away, k)
    by_step false k = k

-- ---- demands

-- the names of an access have their widths
pub record AreNamesSized (d : ModelData) (a : Access) (terms : List Term) : Type 0 where
  pub regs : (i w : ℕ) → width_at d.regs i ≡ Some w → IsSized terms (a.regs + i) w
  pub inputs : (i w : ℕ) → width_at d.inputs i ≡ Some w → IsSized terms (a.inputs + i) w

-- the test of a term of so many bits fits
abbrev FitsTest : List Term → ℕ → (ℕ → Form) → Type 0
FitsTest terms w test = (t : ℕ) → IsSized terms t w → IsFine terms (test t) 1

masked_fine : (terms : List Term) (w mask value : ℕ) → IsWidth w → mask < 2 ^ w → value < 2 ^ w → FitsTest terms w (is_masked_form w mask value)
masked_fine terms w mask value i l m t h =
    same_fine terms (both_of (term t) (number w mask)) (number w value) w (and_fine terms (term t) (number w mask) w (term_fine terms t w h) (number_fine terms w mask i l)) (number_fine terms w value i m)

within_fine : (terms : List Term) (w lo hi : ℕ) → IsWidth w → lo < 2 ^ w → hi < 2 ^ w → FitsTest terms w (is_within_form w lo hi)
within_fine terms w lo hi i l m t h =
    both_fine terms (not_of (less_of (term t) (number w lo))) (not_of (less_of (number w hi) (term t)))
    (not_fine terms (less_of (term t) (number w lo)) (less_fine terms (term t) (number w lo) w (term_fine terms t w h) (number_fine terms w lo i l)))
    (not_fine terms (less_of (number w hi) (term t)) (less_fine terms (number w hi) (term t) w (number_fine terms w hi i m) (term_fine terms t w h)))

result_fine : (word : ℕ) (terms : List Term) (address : ℕ) (test : ℕ → Form) (xs : List Sized) → FitsTest terms address test → AreNodesSized address word terms xs → AreFine terms (map (result_form test) xs)
result_fine word terms address test xs f h =
    fine_map terms (λ (x : Sized). IsNodeSized address word terms x.out) (result_form test) (λ x k. or_fine terms (term x.out.away) (test x.out.value) (term_fine terms x.out.away 1 k.away) (f x.out.value k.value)) xs h

-- a width that a read node gives
read_there : (w u : ℕ) (o : Option ActData) → read_width w o ≡ Some u → IsSomeAnd o (λ p. IsTrue (is_read p)) × (w ≡ u)
read_there w u None e = absurd (cc)
read_there w u (Some p) e = by_read (is_read p) refl e
  where
    by_read : (b : Bool) → is_read p ≡ b → cond b (Some w) None ≡ Some u → (is_read p ≡ true) × (w ≡ u)
    by_read true q k = let z : w ≡ u = cc in (q, z)
    by_read false q k = absurd (cc)

quantity_fine : (d : ModelData) (a : Access) (terms : List Term) (os : List Out) (q : Quantity) (w : ℕ) (test : ℕ → Form) → AreNamesSized d a terms → AreOutsSized d terms os → width_of d q ≡ Some w → FitsTest terms w test → AreFine terms (quantity_forms d a os q test)
quantity_fine d a terms os (Reg i) w test n h e f = (f (a.regs + i) (n.regs i w e), tt)
quantity_fine d a terms os (Input i) w test n h e f = (f (a.inputs + i) (n.inputs i w e), tt)
quantity_fine d a terms os (Word n) w test m h e f =
    let p = read_there d.word w (slice_get (steps d) n) e in
    let r = read_sized d terms os n h p.0 in
    (term_fine terms (out_at os n).by_then 1 r.by_then, (f (out_at os n).word (subst (λ (u : ℕ). IsSized terms (out_at os n).word u) p.1 r.word_is), tt))
quantity_fine d a terms os (Cell n) w test m h e f =
    let p = read_there d.address w (slice_get (steps d) n) e in
    let r = read_sized d terms os n h p.0 in
    (term_fine terms (out_at os n).by_then 1 r.by_then, (f (out_at os n).value (subst (λ (u : ℕ). IsSized terms (out_at os n).value u) p.1 r.value), tt))
quantity_fine d a terms os Pa w test n h e f =
    let z : d.address ≡ w = cc in
    let g = subst (λ (u : ℕ). FitsTest terms u test) (sym z) f in
    fine_append terms (ends_only ends_done (steps d) os) (map (result_form test) (pages_at (steps d) os)) (ends_fine d.address d.word terms ends_done (steps d) os h.outs)
    (result_fine d.word terms d.address test (pages_at (steps d) os) g (pages_sized d.address d.word terms (steps d) os h.outs))

-- the widths of a model's quantities are widths
pub record AreWide (d : ModelData) : Type 0 where
  pub regs : AreWidths d.regs
  pub inputs : AreWidths d.inputs
  pub word : IsWidth d.word
  pub address : IsWidth d.address

pub names_wide : (ns : List NamedWidth) (i w : ℕ) → AreWidths ns → width_at ns i ≡ Some w → IsWidth w
names_wide [] i w h e = absurd (cc)
names_wide (n ∷ ns) zero w h e = let z : n.width ≡ w = cc in subst IsWidth z h.0
names_wide (n ∷ ns) (suc i) w h e = names_wide ns i w h.1 e

quantity_wide : (d : ModelData) (q : Quantity) (w : ℕ) → AreWide d → width_of d q ≡ Some w → IsWidth w
quantity_wide d (Reg i) w h e = names_wide d.regs i w h.regs e
quantity_wide d (Input i) w h e = names_wide d.inputs i w h.inputs e
quantity_wide d (Word n) w h e = subst IsWidth (read_there d.word w (slice_get (steps d) n) e).1 h.word
quantity_wide d (Cell n) w h e = subst IsWidth (read_there d.address w (slice_get (steps d) n) e).1 h.address
quantity_wide d Pa w h e = let z : d.address ≡ w = cc in subst IsWidth z h.address

can_be : (d : ModelData) (q : Quantity) (n : ℕ) → CanBe d q n → (width_of d q ≡ Some (quantity_width d q)) × (n < 2 ^ quantity_width d q)
can_be d q n h = by_width (width_of d q) h
  where
    by_width : (o : Option ℕ) → IsSomeAnd o (λ w. n < 2 ^ w) → (o ≡ Some (unwrap_or o 1)) × (n < 2 ^ unwrap_or o 1)
    by_width None k = absurd k
    by_width (Some w) k = (refl, k)

node_count : (d : ModelData) (n : ℕ) → length (steps d) ≡ length d.nodes → IsNode d n → n < length (steps d)
node_count d n e l = omega (arith, e, l)

demand_fine : (d : ModelData) (a : Access) (terms : List Term) (os : List Out) (demand : Demand) → length (steps d) ≡ length d.nodes → AreWide d → AreNamesSized d a terms → AreOutsSized d terms os → IsDemand d demand → AreFine terms (demand_forms d a os demand)
demand_fine d a terms os (Via n) e w m h i = (term_fine terms (out_at os n).come 1 (node_sized d terms os n h (node_count d n e i)).1.come, tt)
demand_fine d a terms os (Avoid n) e w m h i = (term_fine terms (out_at os n).away 1 (node_sized d terms os n h (node_count d n e i)).1.away, tt)
demand_fine d a terms os (Take n b) e w m h i =
    let p = there (steps d) n (λ p. IsTrue (is_fork p)) i in
    (term_fine terms (edge_at b (out_at os n)) 1 (by_side b (out_fact (IsOutSized d.address d.word terms) (steps d) os n p.0 h.outs h.count p.1)), tt)
  where
    by_side : {p : ActData} (b : Bool) → IsOutSized d.address d.word terms p (out_at os n) → IsSized terms (edge_at b (out_at os n)) 1
    by_side true k = k.by_then
    by_side false k = k.by_other
demand_fine d a terms os EndDone e w m h i = ends_fine d.address d.word terms ends_done (steps d) os h.outs
demand_fine d a terms os (EndFault code) e w m h i = ends_fine d.address d.word terms (ends_fault code) (steps d) os h.outs
demand_fine d a terms os (Page page) e w m h i = ends_fine d.address d.word terms (ends_page page) (steps d) os h.outs
demand_fine d a terms os (Bits q mask value) e w m h i =
    let x = can_be d q mask i.0 in
    let y = can_be d q value i.1 in
    quantity_fine d a terms os q (quantity_width d q) (is_masked_form (quantity_width d q) mask value) m h x.0 (masked_fine terms (quantity_width d q) mask value (quantity_wide d q (quantity_width d q) w x.0) x.1 y.1)
demand_fine d a terms os (Span q lo hi) e w m h i =
    let x = can_be d q lo i.0 in
    let y = can_be d q hi i.1 in
    quantity_fine d a terms os q (quantity_width d q) (is_within_form (quantity_width d q) lo hi) m h x.0 (within_fine terms (quantity_width d q) lo hi (quantity_wide d q (quantity_width d q) w x.0) x.1 y.1)

pub demands_fine : (d : ModelData) (a : Access) (terms : List Term) (os : List Out) (demands : List Demand) → length (steps d) ≡ length d.nodes → AreWide d → AreNamesSized d a terms → AreOutsSized d terms os → AllByRecursion (IsDemand d) demands
    → AreFine terms (flat_map (demand_forms d a os) demands)
demands_fine d a terms os demands e w m h i = fine_flat terms (IsDemand d) (demand_forms d a os) (λ q j. demand_fine d a terms os q e w m h j) demands i

-- ---- links

pub outs_sized_at : (d : ModelData) (terms : List Term) (oss : List (List Out)) (k : ℕ) → AllByRecursion (AreOutsSized d terms) oss → k < length oss → AreOutsSized d terms (outs_of oss k)
outs_sized_at d terms [] k h l = absurd (omega (arith, l))
outs_sized_at d terms (os ∷ oss) zero h l = h.0
outs_sized_at d terms (os ∷ oss) (suc k) h l = outs_sized_at d terms oss k h.1 (omega (arith, l))

pub side_sized : (d : ModelData) (terms : List Term) (oss : List (List Out)) (s : Side) → AllByRecursion (AreOutsSized d terms) oss → IsSide d (length oss) s → IsReadSized d.address d.word terms (side_at d oss s).out
side_sized d terms oss s h i = read_sized d terms (outs_of oss s.access) s.node (outs_sized_at d terms oss s.access h i.0) i.1

reads_fine : (d : ModelData) (terms : List Term) (form : Sized → Sized → Form) (x y : Sized) → IsReadSized d.address d.word terms x.out → IsReadSized d.address d.word terms y.out → IsFine terms (form x y) 1 → AreFine terms (reads_forms form x y)
reads_fine d terms form x y h k f = (term_fine terms x.out.by_then 1 h.by_then, (term_fine terms y.out.by_then 1 k.by_then, (f, tt)))

one_block_fine : (terms : List Term) (a : Access) (x y : Sized) → AreBits terms a → IsSized terms x.out.value a.address → IsSized terms y.out.value a.address → IsFine terms (one_block a x y) 1
one_block_fine terms a x y b h k = by_size (eqb x.exponent y.exponent)
  where
    by_size : (c : Bool) → IsFine terms (cond c (same_block a x.exponent x.out.value y.out.value) (term a.zero_term)) 1
    by_size true = block_fine terms a x.exponent x.out.value y.out.value b h k
    by_size false = term_fine terms a.zero_term 1 b.zero_is

one_page_fine : (word : ℕ) (terms : List Term) (a : Access) (x y : Sized) → AreBits terms a → IsNodeSized a.address word terms x.out → IsNodeSized a.address word terms y.out → IsFine terms (one_page a x y) 1
one_page_fine word terms a x y b h k = by_size (eqb x.exponent y.exponent)
  where
    by_size : (c : Bool) → IsFine terms (cond c (implies (both_of (term x.out.come) (term y.out.come)) (same_block a x.exponent x.out.value y.out.value)) (not_of (both_of (term x.out.come) (term y.out.come)))) 1
    by_size true = implies_fine terms (both_of (term x.out.come) (term y.out.come)) (same_block a x.exponent x.out.value y.out.value) (come_both a.address word terms x y h k) (block_fine terms a x.exponent x.out.value y.out.value b h.value k.value)
    by_size false = not_fine terms (both_of (term x.out.come) (term y.out.come)) (come_both a.address word terms x y h k)

pages_fine : (d : ModelData) (terms : List Term) (form : Sized → Sized → Form) (os others : List Out) → AreOutsSized d terms os → AreOutsSized d terms others
    → ((x y : Sized) → IsNodeSized d.address d.word terms x.out → IsNodeSized d.address d.word terms y.out → IsFine terms (form x y) 1) → AreFine terms (every_page d form os others)
pages_fine d terms form os others h k f =
    let P : Sized → Type 0 = λ (x : Sized). IsNodeSized d.address d.word terms x.out in
    let xs = pages_at (steps d) os in
    let ys = pages_at (steps d) others in
    let rows = flat_map (λ (x : Sized). map (form x) ys) xs in
    fine_append terms (ends_only ends_done (steps d) os) (ends_only ends_done (steps d) others ++ rows) (ends_fine d.address d.word terms ends_done (steps d) os h.outs)
    (fine_append terms (ends_only ends_done (steps d) others) rows (ends_fine d.address d.word terms ends_done (steps d) others k.outs)
    (fine_flat terms P (λ (x : Sized). map (form x) ys) (λ x i. fine_map terms P (form x) (λ y j. f x y i j) ys (pages_sized d.address d.word terms (steps d) others k.outs)) xs (pages_sized d.address d.word terms (steps d) os h.outs)))

link_fine : (d : ModelData) (a : Access) (terms : List Term) (oss : List (List Out)) (link : Link) → a.address ≡ d.address → AreBits terms a → AllByRecursion (AreOutsSized d terms) oss → IsLink d (length oss) link → AreFine terms (every_link d a oss link)
link_fine d a terms oss (ShareTable s t) e b h i =
    let x = side_sized d terms oss s h i.0 in
    let y = side_sized d terms oss t h i.1 in
    reads_fine d terms (one_block a) (side_at d oss s) (side_at d oss t) x y
    (one_block_fine terms a (side_at d oss s) (side_at d oss t) b (subst (λ (w : ℕ). IsSized terms (side_at d oss s).out.value w) (sym e) x.value) (subst (λ (w : ℕ). IsSized terms (side_at d oss t).out.value w) (sym e) y.value))
link_fine d a terms oss (ShareCell s t) e b h i =
    let x = side_sized d terms oss s h i.0 in
    let y = side_sized d terms oss t h i.1 in
    let p = (side_at d oss s).out.value in
    let q = (side_at d oss t).out.value in
    reads_fine d terms one_cell (side_at d oss s) (side_at d oss t) x y (same_fine terms (term p) (term q) d.address (term_fine terms p d.address x.value) (term_fine terms q d.address y.value))
link_fine d a terms oss (ApartTable s t) e b h i =
    let x = side_sized d terms oss s h i.0 in
    let y = side_sized d terms oss t h i.1 in
    let p = side_at d oss s in
    let q = side_at d oss t in
    reads_fine d terms (apart_blocks a) p q x y
    (not_fine terms (same_block a (max p.exponent q.exponent) p.out.value q.out.value)
    (block_fine terms a (max p.exponent q.exponent) p.out.value q.out.value b (subst (λ (w : ℕ). IsSized terms p.out.value w) (sym e) x.value) (subst (λ (w : ℕ). IsSized terms q.out.value w) (sym e) y.value)))
link_fine d a terms oss (SharePage j k) e b h i =
    pages_fine d terms (one_page a) (outs_of oss j) (outs_of oss k) (outs_sized_at d terms oss j h i.0) (outs_sized_at d terms oss k h i.1)
    (λ x y p q. one_page_fine d.word terms a x y b (subst (λ (w : ℕ). IsNodeSized w d.word terms x.out) (sym e) p) (subst (λ (w : ℕ). IsNodeSized w d.word terms y.out) (sym e) q))
link_fine d a terms oss (ApartPage j k) e b h i =
    pages_fine d terms (apart_form a (λ (o : Out). o.come)) (outs_of oss j) (outs_of oss k) (outs_sized_at d terms oss j h i.0) (outs_sized_at d terms oss k h i.1)
    (λ x y p q. apart_fine d.word terms a (λ (o : Out). o.come) x y b (subst (λ (w : ℕ). IsNodeSized w d.word terms x.out) (sym e) p) (subst (λ (w : ℕ). IsNodeSized w d.word terms y.out) (sym e) q) q.come)

pub links_fine : (d : ModelData) (a : Access) (terms : List Term) (oss : List (List Out)) (links : List Link) → a.address ≡ d.address → AreBits terms a → AllByRecursion (AreOutsSized d terms) oss → AllByRecursion (IsLink d (length oss)) links
    → AreFine terms (flat_map (every_link d a oss) links)
links_fine d a terms oss links e b h i = fine_flat terms (IsLink d (length oss)) (every_link d a oss) (λ l j. link_fine d a terms oss l e b h j) links i
