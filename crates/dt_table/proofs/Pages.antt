-- The forms of pages and tables hold exactly where no page is on a table.
use Rattle.std.proofs.Common.{◌≡◌, ℕ, suc, ◌+◌, ◌/◌, ◌<◌, ◌^◌, Bool, true, false, cond, not, ◌&&◌, ◌||◌, eqb, List, [], ◌∷◌, ◌++◌, map, Option, Some, refl, sym, ap, ◌∙◌, subst, arith}
use Rattle.std.specs.Prelude.{slice_get, max}
use Rattle.std.specs.List.{flat_map, list_any, list_all, AllByRecursion}
use Rattle.std.proofs.lemmas.Bool.{false≢true}
use Rattle.dt_lemmas.proofs.Lists.{AllByRecursion-append}
use Rattle.dt_bits.specs.Memory.{Memory}
use Rattle.dt_model.specs.ModelData.{ModelData, ActData, bind, read, branch, fault, done}
use Rattle.dt_model.specs.Faults.{steps}
use Rattle.dt_request.specs.declared.list.Requests.{Requests}
use Rattle.dt_walk.specs.declared.run.ReadMade.{ReadMade}
use Rattle.dt_walk.specs.Walks.{RunData}
use Rattle.dt_satisfy.specs.declared.block.Block.{Block}
use Rattle.dt_satisfy.specs.Blocks.{block_at, overlap, are_apart}
use Rattle.dt_satisfy.specs.Links.{pages_of, step_granule, table_of, tables_of, is_apart}
use Rattle.dt_satisfy.specs.Claims.{runs_of, apart_claim}
use Rattle.dt_forms.specs.Meaning.{Valuation, flag, is_one}
use Rattle.dt_forms.specs.Forms.{Form, term, form_value, both_of}
use Rattle.dt_table.specs.declared.out.Out.{Out}
use Rattle.dt_table.specs.Passing.{Access}
use Rattle.dt_table.specs.Told.{told, told_step, made_if}
use Rattle.dt_table.specs.Apart.{same_block, apart_form, Sized, pages_at, tables_at}
use Rattle.dt_table.specs.Table.{list_access}
use Rattle.dt_table.proofs.Every.{every_block}
use Rattle.dt_forms.proofs.Lawful.{flag_one}
use Rattle.dt_forms.proofs.FormValues.{not_form, both_form}
use Rattle.dt_forms.proofs.Tells.{Tells, none_tells, more_tell, tells_as, both_tell}
use Rattle.dt_table.proofs.Blocks.{start_quotient, same_block_value}
use Rattle.dt_table.proofs.Results.{made_from, come_of, page_told}
use Rattle.dt_table.proofs.Ready.{AreSet}
use Rattle.dt_table.proofs.Flagged.{AllOuts, IsFlagged, is_flag}
use Rattle.dt_table.proofs.Told.{AllNodes, same_if, reads_if}
use Rattle.dt_table.proofs.Claimed.{seen, HaveContexts, AllTold, runs_told}
use Rattle.dt_table.proofs.NodeKinds.{pages_have, tables_have}

-- the blocks of these nodes
abbrev pub blocks_made : Valuation → (Out → ℕ) → List Sized → List Block
blocks_made v key xs = made_from block_at v key xs

blocks_append : (v : Valuation) (key : Out → ℕ) (xs ys : List Sized) → blocks_made v key (xs ++ ys) ≡ blocks_made v key xs ++ blocks_made v key ys
blocks_append v key [] ys = refl
blocks_append v key (x ∷ xs) ys = by_made (is_one (v (key x.out))) (blocks_append v key xs ys)
  where
    by_made : (b : Bool) → blocks_made v key (xs ++ ys) ≡ blocks_made v key xs ++ blocks_made v key ys
        → cond b (block_at (v x.out.value).bits x.exponent ∷ blocks_made v key (xs ++ ys)) (blocks_made v key (xs ++ ys)) ≡ cond b (block_at (v x.out.value).bits x.exponent ∷ blocks_made v key xs) (blocks_made v key xs) ++ blocks_made v key ys
    by_made true e = ap (λ (l : List Block). block_at (v x.out.value).bits x.exponent ∷ l) e
    by_made false e = e

abbrev pub then_of : Out → ℕ
then_of o = o.by_then

-- ---- tables

table_if : (c b : Bool) (f : ReadMade → Block) (x : ReadMade) (block : Block) (rest : List ReadMade) (blocks : List Block) → (b ≡ true → c ≡ true) → f x ≡ block → map f rest ≡ blocks
    → map f (cond c (made_if b x rest) rest) ≡ cond b (block ∷ blocks) blocks
table_if true true f x block rest blocks h k e = ap (λ (y : Block). y ∷ map f rest) k ∙ ap (λ (l : List Block). block ∷ l) e
table_if true false f x block rest blocks h k e = e
table_if false true f x block rest blocks h k e = absurd (false≢true (h refl))
table_if false false f x block rest blocks h k e = e

abbrev TablesTold : Valuation → List ActData → List ActData → List Out → ℕ → Type 0
TablesTold v all ps os n = map (table_of all) (told v ps os n).reads ≡ blocks_made v then_of (tables_at ps os)

abbrev AreAt : List ActData → List ActData → ℕ → Type 0
AreAt all ps n = (k : ℕ) (p : ActData) → slice_get ps k ≡ Some p → slice_get all (n + k) ≡ Some p

at_next : (all ps : List ActData) (p : ActData) (n : ℕ) → AreAt all (p ∷ ps) n → AreAt all ps (n + 1)
at_next all ps p n h k q e = let z : n + suc k ≡ n + 1 + k = omega arith in subst (λ (j : ℕ). slice_get all j ≡ Some q) z (h (suc k) q e)

tables_told : (v : Valuation) (address : ℕ) (all ps : List ActData) (os : List Out) (n : ℕ) → AreAt all ps n → AllOuts (IsFlagged v address) ps os → TablesTold v all ps os n
tables_told v address all [] os n at h = refl
tables_told v address all (bind x e to ∷ ps) [] n at h = refl
tables_told v address all (read x e g t f ∷ ps) [] n at h = refl
tables_told v address all (branch e t f ∷ ps) [] n at h = refl
tables_told v address all (fault c ∷ ps) [] n at h = refl
tables_told v address all (done e p ∷ ps) [] n at h = refl
tables_told v address all (bind x e to ∷ ps) (o ∷ os) n at h = let r = told v ps os (n + 1) in ap (map (table_of all)) (same_if (is_one (v o.come)) (told_step v n (bind x e to) o r) r refl) ∙ tables_told v address all ps os (n + 1) (at_next all ps (bind x e to) n at) h.1
tables_told v address all (branch e t f ∷ ps) (o ∷ os) n at h = let r = told v ps os (n + 1) in ap (map (table_of all)) (same_if (is_one (v o.come)) (told_step v n (branch e t f) o r) r refl) ∙ tables_told v address all ps os (n + 1) (at_next all ps (branch e t f) n at) h.1
tables_told v address all (fault c ∷ ps) (o ∷ os) n at h = let r = told v ps os (n + 1) in ap (map (table_of all)) (same_if (is_one (v o.come)) (told_step v n (fault c) o r) r refl) ∙ tables_told v address all ps os (n + 1) (at_next all ps (fault c) n at) h.1
tables_told v address all (done e p ∷ ps) (o ∷ os) n at h = let r = told v ps os (n + 1) in ap (map (table_of all)) (same_if (is_one (v o.come)) (told_step v n (done e p) o r) r refl) ∙ tables_told v address all ps os (n + 1) (at_next all ps (done e p) n at) h.1
tables_told v address all (read x e g t f ∷ ps) (o ∷ os) n at h =
    let r = told v ps os (n + 1) in
    let z : n + 0 ≡ n = omega arith in
    let here : slice_get all n ≡ Some (read x e g t f) = subst (λ (j : ℕ). slice_get all j ≡ Some (read x e g t f)) z (at 0 (read x e g t f) refl) in
    ap (map (table_of all)) (reads_if (is_one (v o.come)) (told_step v n (read x e g t f) o r) r)
    ∙ table_if (is_one (v o.come)) (is_one (v o.by_then)) (table_of all) (record { node = n; cell = (v o.value).bits; word = (v o.word).bits }) (block_at (v o.value).bits g) r.reads (blocks_made v then_of (tables_at ps os))
    h.0.comes (ap (λ (p : Option ActData). block_at (v o.value).bits (step_granule p)) here) (tables_told v address all ps os (n + 1) (at_next all ps (read x e g t f) n at) h.1)

-- ---- all accesses

-- terms of such a node: a truth, and an address
abbrev pub IsBlock : Valuation → ℕ → (Out → ℕ) → Sized → Type 0
IsBlock v address key x = is_flag v (key x.out) × ((v x.out.value).width.0 ≡ address)

pub pages_flagged : (v : Valuation) (address : ℕ) (ps : List ActData) (os : List Out) → AllOuts (IsFlagged v address) ps os → AllByRecursion (IsBlock v address come_of) (pages_at ps os)
pages_flagged v address ps os h = pages_have (IsFlagged v address) (IsBlock v address come_of) (λ e p o k. (k.come_is, k.wide refl)) ps os h

tables_flagged : (v : Valuation) (address : ℕ) (ps : List ActData) (os : List Out) → AllOuts (IsFlagged v address) ps os → AllByRecursion (IsBlock v address then_of) (tables_at ps os)
tables_flagged v address ps os h = tables_have (IsFlagged v address) (IsBlock v address then_of) (λ x e g t f o k. (k.then_is, k.wide refl)) ps os h

-- the pages and tables of all runs, with what holds of their terms
pub record AreBlocks (v : Valuation) (d : ModelData) (oss : List (List Out)) : Type 0 where
  pub pages : pages_of (map (λ os. told v (steps d) os 0) oss) ≡ blocks_made v come_of (flat_map (pages_at (steps d)) oss)
  pub tables : tables_of (steps d) (map (λ os. told v (steps d) os 0) oss) ≡ blocks_made v then_of (flat_map (tables_at (steps d)) oss)
  pub page_is : AllByRecursion (IsBlock v d.address come_of) (flat_map (pages_at (steps d)) oss)
  pub table_is : AllByRecursion (IsBlock v d.address then_of) (flat_map (tables_at (steps d)) oss)

pub all_blocks : (v : Valuation) (d : ModelData) (oss : List (List Out)) → AllNodes v d oss → AreBlocks v d oss
all_blocks v d [] h = record { pages = refl; tables = refl; page_is = tt; table_is = tt }
all_blocks v d (os ∷ oss) h =
    let rest = all_blocks v d oss h.1 in
    let flags = h.0.flagged in
    let runs = map (λ os. told v (steps d) os 0) oss in
    let one_page = page_told block_at v (steps d) os 0 h.0.ends in
    let one_table = tables_told v d.address (steps d) (steps d) os 0 (λ j q x. let z : j ≡ 0 + j = omega arith in subst (λ (i : ℕ). slice_get (steps d) i ≡ Some q) z x) flags in
    record {
      pages = ap (λ (l : List Block). l ++ pages_of runs) one_page ∙ ap (λ (l : List Block). blocks_made v come_of (pages_at (steps d) os) ++ l) rest.pages ∙ sym (blocks_append v come_of (pages_at (steps d) os) (flat_map (pages_at (steps d)) oss));
      tables = ap (λ (l : List Block). l ++ tables_of (steps d) runs) one_table ∙ ap (λ (l : List Block). blocks_made v then_of (tables_at (steps d) os) ++ l) rest.tables ∙ sym (blocks_append v then_of (tables_at (steps d) os) (flat_map (tables_at (steps d)) oss));
      page_is = AllByRecursion-append _ (pages_at (steps d) os) (flat_map (pages_at (steps d)) oss) (pages_flagged v d.address (steps d) os flags) rest.page_is;
      table_is = AllByRecursion-append _ (tables_at (steps d) os) (flat_map (tables_at (steps d)) oss) (tables_flagged v d.address (steps d) os flags) rest.table_is;
    }

-- ---- forms

abbrev pub block_of : Valuation → Sized → Block
block_of v x = block_at (v x.out.value).bits x.exponent

overlap_is : (v : Valuation) (x y : Sized) → overlap (block_of v x) (block_of v y) ≡ eqb ((v x.out.value).bits / 2 ^ max x.exponent y.exponent) ((v y.out.value).bits / 2 ^ max x.exponent y.exponent)
overlap_is v x y =
    let m = max x.exponent y.exponent in
    ap (λ (n : ℕ). eqb n ((block_of v y).start / 2 ^ m)) (start_quotient (v x.out.value).bits x.exponent m (omega arith))
    ∙ ap (λ (n : ℕ). eqb ((v x.out.value).bits / 2 ^ m) n) (start_quotient (v y.out.value).bits y.exponent m (omega arith))

-- what is asked of values: the constant 1, and that numbers have their widths
pub record AreFit (v : Valuation) (a : Access) : Type 0 where
  pub one_is : v a.one_term ≡ flag true
  pub zero_is : v a.zero_term ≡ flag false
  pub range : (t : ℕ) → (v t).bits < 2 ^ (v t).width.0

-- the form of two blocks tells whether they overlap
pub blocks_value : (v : Valuation) (a : Access) (x y : Sized) → AreFit v a → (v x.out.value).width.0 ≡ a.address → (v y.out.value).width.0 ≡ a.address
    → form_value v (same_block a (max x.exponent y.exponent) x.out.value y.out.value) ≡ flag (overlap (block_of v x) (block_of v y))
blocks_value v a x y fit h k =
    let l = subst (λ (w : ℕ). (v x.out.value).bits < 2 ^ w) h (fit.range x.out.value) in
    let m = subst (λ (w : ℕ). (v y.out.value).bits < 2 ^ w) k (fit.range y.out.value) in
    same_block_value v a (max x.exponent y.exponent) x.out.value y.out.value fit.one_is l m ∙ ap flag (sym (overlap_is v x y))

pub apart_value : (v : Valuation) (a : Access) (key : Out → ℕ) (x y : Sized) → AreFit v a → IsBlock v a.address come_of x → IsBlock v a.address key y
    → is_one (form_value v (apart_form a key x y)) ≡ (not (is_one (v x.out.come) && is_one (v (key y.out))) || is_apart (block_of v x) (block_of v y))
apart_value v a key x y fit h k =
    let c = is_one (v x.out.come) && is_one (v (key y.out)) in
    let both = both_of (term x.out.come) (term (key y.out)) in
    let block = same_block a (max x.exponent y.exponent) x.out.value y.out.value in
    let over = overlap (block_of v x) (block_of v y) in
    ap is_one (not_form v (both_of both block) (c && over) (both_form v both block c over (both_form v (term x.out.come) (term (key y.out)) (is_one (v x.out.come)) (is_one (v (key y.out))) h.0 k.0) (blocks_value v a x y fit h.1 k.1)))
    ∙ flag_one (not (c && over)) ∙ split c over
  where
    split : (c o : Bool) → not (c && o) ≡ (not c || not o)
    split true o = refl
    split false o = refl

-- ---- pairs of nodes

-- the forms of one node and others tell whether the test holds of those whose terms are 1
pub row_tells : (v : Valuation) (key : Out → ℕ) (form : Sized → Form) (test : Block → Bool) (c : Bool) (ys : List Sized)
    → AllByRecursion (λ (y : Sized). is_one (form_value v (form y)) ≡ (not (c && is_one (v (key y.out))) || test (block_of v y))) ys → Tells v (map form ys) (not c || list_all test (blocks_made v key ys))
row_tells v key form test true [] h = none_tells v
row_tells v key form test false [] h = none_tells v
row_tells v key form test c (y ∷ ys) h =
    let here = not (c && is_one (v (key y.out))) || test (block_of v y) in
    let rest = not c || list_all test (blocks_made v key ys) in
    tells_as v (form y ∷ map form ys) (here && rest) (not c || list_all test (blocks_made v key (y ∷ ys))) (by_made c (is_one (v (key y.out)))) (more_tell v (form y) (map form ys) here rest h.0 (row_tells v key form test c ys h.1))
  where
    by_made : (c k : Bool) → ((not (c && k) || test (block_of v y)) && (not c || list_all test (blocks_made v key ys))) ≡ (not c || list_all test (cond k (block_of v y ∷ blocks_made v key ys) (blocks_made v key ys)))
    by_made true true = refl
    by_made true false = refl
    by_made false k = refl

-- what the form of each pair tells
abbrev pub PairsTell : Valuation → (Out → ℕ) → (Sized → Sized → Form) → (Block → Block → Bool) → List Sized → List Sized → Type 0
PairsTell v key form test xs ys =
    AllByRecursion (λ (x : Sized). AllByRecursion (λ (y : Sized). is_one (form_value v (form x y)) ≡ (not (is_one (v x.out.come) && is_one (v (key y.out))) || test (block_of v x) (block_of v y))) ys) xs

abbrev pub all_pairs : (Block → Block → Bool) → List Block → List Block → Bool
all_pairs test bs cs = list_all (λ (b : Block). list_all (test b) cs) bs

pub pairs_tell : (v : Valuation) (key : Out → ℕ) (form : Sized → Sized → Form) (test : Block → Block → Bool) (xs ys : List Sized) → PairsTell v key form test xs ys
    → Tells v (flat_map (λ (x : Sized). map (form x) ys) xs) (all_pairs test (blocks_made v come_of xs) (blocks_made v key ys))
pairs_tell v key form test [] ys h = none_tells v
pairs_tell v key form test (x ∷ xs) ys h =
    let c = is_one (v x.out.come) in
    let own = list_all (test (block_of v x)) (blocks_made v key ys) in
    let rest = all_pairs test (blocks_made v come_of xs) (blocks_made v key ys) in
    tells_as v (flat_map (λ (x : Sized). map (form x) ys) (x ∷ xs)) ((not c || own) && rest) (all_pairs test (blocks_made v come_of (x ∷ xs)) (blocks_made v key ys)) (by_come c)
    (both_tell v (map (form x) ys) (flat_map (λ (x : Sized). map (form x) ys) xs) (not c || own) rest (row_tells v key (form x) (test (block_of v x)) c ys h.0) (pairs_tell v key form test xs ys h.1))
  where
    by_come : (c : Bool)
        → ((not c || list_all (test (block_of v x)) (blocks_made v key ys)) && all_pairs test (blocks_made v come_of xs) (blocks_made v key ys))
        ≡ all_pairs test (cond c (block_of v x ∷ blocks_made v come_of xs) (blocks_made v come_of xs)) (blocks_made v key ys)
    by_come true = refl
    by_come false = refl

row_apart : (v : Valuation) (a : Access) (key : Out → ℕ) (x : Sized) (ys : List Sized) → AreFit v a → IsBlock v a.address come_of x → AllByRecursion (IsBlock v a.address key) ys
    → AllByRecursion (λ (y : Sized). is_one (form_value v (apart_form a key x y)) ≡ (not (is_one (v x.out.come) && is_one (v (key y.out))) || is_apart (block_of v x) (block_of v y))) ys
row_apart v a key x [] fit h k = tt
row_apart v a key x (y ∷ ys) fit h k = (apart_value v a key x y fit h k.0, row_apart v a key x ys fit h k.1)

pub pairs_apart : (v : Valuation) (a : Access) (key : Out → ℕ) (xs ys : List Sized) → AreFit v a → AllByRecursion (IsBlock v a.address come_of) xs → AllByRecursion (IsBlock v a.address key) ys → PairsTell v key (apart_form a key) is_apart xs ys
pairs_apart v a key [] ys fit h k = tt
pairs_apart v a key (x ∷ xs) ys fit h k = (row_apart v a key x ys fit h.0 k, pairs_apart v a key xs ys fit h.1 k)

-- ---- no page on a table

none_is : {X : Type 0} (test : X → Bool) (xs : List X) → not (list_any test xs) ≡ list_all (λ (x : X). not (test x)) xs
none_is test [] = refl
none_is {X} test (x ∷ xs) = by_test (test x) (none_is test xs)
  where
    by_test : (b : Bool) → not (list_any test xs) ≡ list_all (λ (x : X). not (test x)) xs → not (b || list_any test xs) ≡ (not b && list_all (λ (x : X). not (test x)) xs)
    by_test true e = refl
    by_test false e = e

apart_all : (bs cs : List Block) → are_apart bs cs ≡ all_pairs is_apart bs cs
apart_all [] cs = refl
apart_all (b ∷ bs) cs = by_row (list_any (overlap b) cs) (none_is (overlap b) cs) (apart_all bs cs)
  where
    by_row : (t : Bool) → not t ≡ list_all (is_apart b) cs → are_apart bs cs ≡ all_pairs is_apart bs cs → not (t || list_any (λ (b : Block). list_any (overlap b) cs) bs) ≡ (list_all (is_apart b) cs && all_pairs is_apart bs cs)
    by_row true e f = ap (λ (t : Bool). t && all_pairs is_apart bs cs) e
    by_row false e f = f ∙ ap (λ (t : Bool). t && all_pairs is_apart bs cs) e

-- the claim over the runs that are told
claim_is : (v : Valuation) (d : ModelData) (r : Requests) (m : Memory) (oss : List (List Out)) → HaveContexts r r.accesses → AllTold v d r m 0 r.accesses oss → AreBlocks v d oss
    → apart_claim d (seen v d r m) ≡ all_pairs is_apart (blocks_made v come_of (flat_map (pages_at (steps d)) oss)) (blocks_made v then_of (flat_map (tables_at (steps d)) oss))
claim_is v d r m oss c all b =
    let e : runs_of d (seen v d r m) ≡ map (λ os. told v (steps d) os 0) oss = runs_told v d r m r.accesses oss 0 c all in
    ap (λ (runs : List RunData). are_apart (pages_of runs) (tables_of (steps d) runs)) e
    ∙ ap (λ (l : List Block). are_apart l (tables_of (steps d) (map (λ os. told v (steps d) os 0) oss))) b.pages
    ∙ ap (λ (l : List Block). are_apart (blocks_made v come_of (flat_map (pages_at (steps d)) oss)) l) b.tables
    ∙ apart_all (blocks_made v come_of (flat_map (pages_at (steps d)) oss)) (blocks_made v then_of (flat_map (tables_at (steps d)) oss))

pub fit_from : (v : Valuation) (d : ModelData) (r : Requests) → AreSet v d r → AreFit v (list_access d r)
fit_from v d r set = record { one_is = set.one_is; zero_is = set.zero_is; range = set.range }

-- the forms tell whether the claim holds
pub pages_tell : (v : Valuation) (d : ModelData) (r : Requests) (m : Memory) (oss : List (List Out)) → AreSet v d r → HaveContexts r r.accesses → AllNodes v d oss → AllTold v d r m 0 r.accesses oss → Tells v (every_block d r oss) (apart_claim d (seen v d r m))
pages_tell v d r m oss set c nodes all =
    let b = all_blocks v d oss nodes in
    let xs = flat_map (pages_at (steps d)) oss in
    let ys = flat_map (tables_at (steps d)) oss in
    let a = list_access d r in
    tells_as v (every_block d r oss) (all_pairs is_apart (blocks_made v come_of xs) (blocks_made v then_of ys)) (apart_claim d (seen v d r m)) (sym (claim_is v d r m oss c all b))
    (pairs_tell v then_of (apart_form a then_of) is_apart xs ys (pairs_apart v a then_of xs ys (fit_from v d r set) b.page_is b.table_is))
