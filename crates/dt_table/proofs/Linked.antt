-- The forms of a link hold exactly where the link does.
use Rattle.std.proofs.Common.{◌≡◌, ℕ, zero, suc, ◌-◌, ◌*◌, ◌/◌, ◌%◌, ◌<◌, ◌^◌, Bool, true, false, not, ◌&&◌, ◌||◌, cond, eqb, List, [], ◌∷◌, ◌++◌, length, map, Option, Some, None, refl, sym, ap, ◌∙◌, subst, arith}
use Rattle.std.specs.Prelude.{slice_get, option_map, option_and_then, max, IsTrue, IsSomeAnd}
use Rattle.std.specs.List.{flat_map, AllByRecursion}
use Rattle.std.specs.Option.{option_to_list}
use Rattle.std.proofs.Math.Nat.{div-add-mod, mul-div_cancel_left}
use Rattle.std.proofs.lemmas.Nat.{pow_pos}
use Rattle.std.proofs.lemmas.Bool.{eq-eqb, eqb-true}
use Rattle.std.proofs.lemmas.Option.{slice_get-map, slice_get-get_or}
use Rattle.dt_lemmas.proofs.Booleans.{same_test, and_where, and_kept}
use Rattle.dt_bits.specs.Memory.{Memory}
use Rattle.dt_model.specs.ModelData.{ModelData, ActData, bind, read, branch, fault, done}
use Rattle.dt_model.specs.Faults.{steps, is_read}
use Rattle.dt_request.specs.declared.list.Requests.{Requests}
use Rattle.dt_request.specs.declared.list.Side.{Side}
use Rattle.dt_request.specs.declared.list.Link.{Link}
use Rattle.dt_request.specs.declared.list.Link.TheVariants.{ShareTable, ShareCell, SharePage, ApartTable, ApartPage}
use Rattle.dt_request.specs.Lists.{IsSide, IsLink}
use Rattle.dt_walk.specs.declared.run.End.{End}
use Rattle.dt_walk.specs.declared.run.End.TheVariants.{Done, Fault}
use Rattle.dt_walk.specs.declared.run.ReadMade.{ReadMade}
use Rattle.dt_walk.specs.Walks.{RunData}
use Rattle.dt_satisfy.specs.declared.block.Block.{Block}
use Rattle.dt_satisfy.specs.Blocks.{block_at, is_block}
use Rattle.dt_satisfy.specs.Demands.{is_done, read_at}
use Rattle.dt_satisfy.specs.Links.{page_of, table_of, both, is_apart, is_cell, read_in, page_in, link_holds}
use Rattle.dt_satisfy.specs.Claims.{runs_of, link_claims}
use Rattle.dt_forms.specs.Meaning.{Valuation, flag, is_one}
use Rattle.dt_forms.specs.Forms.{Form, term, not_of, both_of, implies, form_value}
use Rattle.dt_forms.proofs.Lawful.{flag_one}
use Rattle.dt_forms.proofs.FormValues.{not_form, both_form, implies_form}
use Rattle.dt_forms.proofs.Tells.{Tells, more_tell, one_tells, tells_as, both_tell, TellAll, tell_as, each_tells}
use Rattle.dt_table.specs.declared.out.Out.{Out}
use Rattle.dt_table.specs.Passing.{Access}
use Rattle.dt_table.specs.Told.{told}
use Rattle.dt_table.specs.Claims.{ends_only}
use Rattle.dt_ways.specs.Ends.{ends_done}
use Rattle.dt_table.specs.Apart.{Sized, same_block, apart_form, pages_at}
use Rattle.dt_table.specs.Links.{outs_of, side_at, reads_forms, one_block, apart_blocks, one_cell, one_page}
use Rattle.dt_table.proofs.Every.{every_page, every_link}
use Rattle.dt_table.specs.Table.{list_access}
use Rattle.dt_table.proofs.Blocks.{same_block_value}
use Rattle.dt_table.proofs.Ends.{ends_tell}
use Rattle.dt_table.proofs.Sides.{out_fact}
use Rattle.dt_table.proofs.Flagged.{IsFlagged, tells_address}
use Rattle.dt_table.proofs.Results.{come_of, page_told}
use Rattle.dt_table.proofs.Ready.{AreSet}
use Rattle.dt_table.proofs.Told.{AreNodes, AllNodes, done_same}
use Rattle.dt_table.proofs.Quantities.{read_of, read_told}
use Rattle.dt_table.proofs.Claimed.{seen, HaveContexts, AllTold, runs_told}
use Rattle.dt_table.proofs.Pages.{IsBlock, blocks_made, block_of, AreFit, blocks_value, pages_flagged, PairsTell, all_pairs, pairs_tell, pairs_apart, fit_from}

-- ---- one block

starts_same : (a b e : ℕ) → eqb (a - a % 2 ^ e) (b - b % 2 ^ e) ≡ eqb (a / 2 ^ e) (b / 2 ^ e)
starts_same a b e =
    let p = 2 ^ e in
    let d = div-add-mod a p in
    let f = div-add-mod b p in
    let s : a - a % p ≡ p * (a / p) = omega (arith, d) in
    let t : b - b % p ≡ p * (b / p) = omega (arith, f) in
    same_test (eqb (a - a % p) (b - b % p)) (eqb (a / p) (b / p))
    (λ h. eq-eqb (a / p) (b / p) (sym (mul-div_cancel_left (a / p) (pow_pos e)) ∙ ap (λ (n : ℕ). n / p) (sym s ∙ eqb-true (a - a % p) (b - b % p) h ∙ t) ∙ mul-div_cancel_left (b / p) (pow_pos e)))
    (λ h. eq-eqb (a - a % p) (b - b % p) (s ∙ ap (λ (n : ℕ). p * n) (eqb-true (a / p) (b / p) h) ∙ sym t))

-- blocks of one exponent are one where the quotients are
same_sized : (v : Valuation) (x y : Sized) → eqb x.exponent y.exponent ≡ true → eqb ((v x.out.value).bits / 2 ^ x.exponent) ((v y.out.value).bits / 2 ^ x.exponent) ≡ is_block (block_of v x) (block_of v y)
same_sized v x y q =
    sym (starts_same (v x.out.value).bits (v y.out.value).bits x.exponent)
    ∙ ap (λ (e : ℕ). eqb (block_of v x).start (block_at (v y.out.value).bits e).start) (eqb-true x.exponent y.exponent q)
    ∙ sym (and_kept (eqb (block_of v x).start (block_of v y).start) (eqb x.exponent y.exponent) q)

other_sized : (v : Valuation) (x y : Sized) → eqb x.exponent y.exponent ≡ false → is_block (block_of v x) (block_of v y) ≡ false
other_sized v x y q = and_where (eqb (block_of v x).start (block_of v y).start) (eqb x.exponent y.exponent) (λ e. q)

-- numbers of two nodes that are addresses
pub record AreAddresses (v : Valuation) (address : ℕ) (x y : Sized) : Type 0 where
  pub one : (v x.out.value).width.0 ≡ address
  pub other : (v y.out.value).width.0 ≡ address

quotients_value : (v : Valuation) (a : Access) (e : ℕ) (x y : Sized) → AreFit v a → AreAddresses v a.address x y
    → form_value v (same_block a e x.out.value y.out.value) ≡ flag (eqb ((v x.out.value).bits / 2 ^ e) ((v y.out.value).bits / 2 ^ e))
quotients_value v a e x y fit h =
    same_block_value v a e x.out.value y.out.value fit.one_is (subst (λ (w : ℕ). (v x.out.value).bits < 2 ^ w) h.one (fit.range x.out.value)) (subst (λ (w : ℕ). (v y.out.value).bits < 2 ^ w) h.other (fit.range y.out.value))

one_block_value : (v : Valuation) (a : Access) (x y : Sized) → AreFit v a → AreAddresses v a.address x y → form_value v (one_block a x y) ≡ flag (is_block (block_of v x) (block_of v y))
one_block_value v a x y fit h = by_size (eqb x.exponent y.exponent) refl
  where
    by_size : (b : Bool) → eqb x.exponent y.exponent ≡ b → form_value v (cond b (same_block a x.exponent x.out.value y.out.value) (term a.zero_term)) ≡ flag (is_block (block_of v x) (block_of v y))
    by_size true q = quotients_value v a x.exponent x y fit h ∙ ap flag (same_sized v x y q)
    by_size false q = fit.zero_is ∙ ap flag (sym (other_sized v x y q))

pub one_page_value : (v : Valuation) (a : Access) (x y : Sized) → AreFit v a → IsBlock v a.address come_of x → IsBlock v a.address come_of y
    → is_one (form_value v (one_page a x y)) ≡ (not (is_one (v x.out.come) && is_one (v y.out.come)) || is_block (block_of v x) (block_of v y))
one_page_value v a x y fit h k = by_size (eqb x.exponent y.exponent) refl
  where
    or_none : (b t : Bool) → t ≡ false → b ≡ (b || t)
    or_none true t e = refl
    or_none false t e = sym e

    by_size : (b : Bool) → eqb x.exponent y.exponent ≡ b
        → is_one (form_value v (cond b (implies (both_of (term x.out.come) (term y.out.come)) (same_block a x.exponent x.out.value y.out.value)) (not_of (both_of (term x.out.come) (term y.out.come)))))
        ≡ (not (is_one (v x.out.come) && is_one (v y.out.come)) || is_block (block_of v x) (block_of v y))
    by_size true q =
        let c = is_one (v x.out.come) && is_one (v y.out.come) in
        let both = both_of (term x.out.come) (term y.out.come) in
        let s = is_block (block_of v x) (block_of v y) in
        ap is_one (implies_form v both (same_block a x.exponent x.out.value y.out.value) c s (both_form v (term x.out.come) (term y.out.come) (is_one (v x.out.come)) (is_one (v y.out.come)) h.0 k.0)
        (quotients_value v a x.exponent x y fit (record { one = h.1; other = k.1 }) ∙ ap flag (same_sized v x y q)))
        ∙ flag_one (not c || s)
    by_size false q =
        let c = is_one (v x.out.come) && is_one (v y.out.come) in
        let both = both_of (term x.out.come) (term y.out.come) in
        ap is_one (not_form v both c (both_form v (term x.out.come) (term y.out.come) (is_one (v x.out.come)) (is_one (v y.out.come)) h.0 k.0))
        ∙ flag_one (not c) ∙ or_none (not c) (is_block (block_of v x) (block_of v y)) (other_sized v x y q)

-- ---- runs

abbrev pub runs : Valuation → ModelData → List (List Out) → List RunData
runs v d oss = map (λ os. told v (steps d) os 0) oss

run_at : (v : Valuation) (d : ModelData) (oss : List (List Out)) (k : ℕ) → k < length oss → slice_get (runs v d oss) k ≡ Some (told v (steps d) (outs_of oss k) 0)
run_at v d oss k l = slice_get-map (λ (os : List Out). told v (steps d) os 0) oss k ∙ ap (option_map (λ (os : List Out). told v (steps d) os 0)) (slice_get-get_or oss k [] l)

pub nodes_at : (v : Valuation) (d : ModelData) (oss : List (List Out)) (k : ℕ) → AllNodes v d oss → k < length oss → AreNodes v d (outs_of oss k)
nodes_at v d [] k h l = absurd (omega (arith, l))
nodes_at v d (os ∷ oss) zero h l = h.0
nodes_at v d (os ∷ oss) (suc k) h l = nodes_at v d oss k h.1 (omega (arith, l))

-- ---- reads

read_node : (o : Option ActData) → IsSomeAnd o (λ p. IsTrue (is_read p)) → (p : ActData) × (o ≡ Some p) × (is_read p ≡ true)
read_node None h = absurd h
read_node (Some p) h = (p, refl, h)

reads_address : (p : ActData) → is_read p ≡ true → tells_address p ≡ true
reads_address (bind x e to) h = h
reads_address (read x e g t f) h = refl
reads_address (branch e t f) h = h
reads_address (fault c) h = h
reads_address (done e p) h = refl

-- what the terms of a side tell
pub record IsSideTold (v : Valuation) (d : ModelData) (oss : List (List Out)) (s : Side) : Type 0 where
  pub made : read_in (runs v d oss) s ≡ cond (is_one (v (side_at d oss s).out.by_then)) (Some (read_of v s.node (side_at d oss s).out)) None
  pub wide : (v (side_at d oss s).out.value).width.0 ≡ d.address

pub side_told : (v : Valuation) (d : ModelData) (oss : List (List Out)) (s : Side) → AllNodes v d oss → IsSide d (length oss) s → IsSideTold v d oss s
side_told v d oss s nodes h =
    let os = outs_of oss s.access in
    let own = nodes_at v d oss s.access nodes h.0 in
    let p = read_node (slice_get (steps d) s.node) h.1 in
    record {
      made = ap (option_and_then (λ (run : RunData). read_at run s.node)) (run_at v d oss s.access h.0) ∙ read_told v d os s.node p.0 own p.1 p.2;
      wide = (out_fact (IsFlagged v d.address) (steps d) os s.node p.0 own.flagged own.count p.1).wide (reads_address p.0 p.2);
    }

both_made : {X : Type 0} (part : ReadMade → X) (test : X → X → Bool) (c e : Bool) (m n : ReadMade) → (c && (e && test (part m) (part n))) ≡ both test (option_map part (cond c (Some m) None)) (option_map part (cond e (Some n) None))
both_made part test true true m n = refl
both_made part test true false m n = refl
both_made part test false true m n = refl
both_made part test false false m n = refl

reads_tell : {X : Type 0} (v : Valuation) (d : ModelData) (oss : List (List Out)) (s t : Side) (form : Sized → Sized → Form) (part : ReadMade → X) (test : X → X → Bool) → IsSideTold v d oss s → IsSideTold v d oss t
    → is_one (form_value v (form (side_at d oss s) (side_at d oss t))) ≡ test (part (read_of v s.node (side_at d oss s).out)) (part (read_of v t.node (side_at d oss t).out))
    → Tells v (reads_forms form (side_at d oss s) (side_at d oss t)) (both test (option_map part (read_in (runs v d oss) s)) (option_map part (read_in (runs v d oss) t)))
reads_tell v d oss s t form part test h k e =
    let x = side_at d oss s in
    let y = side_at d oss t in
    let c = is_one (v x.out.by_then) in
    let f = is_one (v y.out.by_then) in
    let m = read_of v s.node x.out in
    let n = read_of v t.node y.out in
    let passes = test (part m) (part n) in
    tells_as v (reads_forms form x y) (c && (f && passes)) _
    (both_made part test c f m n
    ∙ ap (λ (o : Option ReadMade). both test (option_map part o) (option_map part (cond f (Some n) None))) (sym h.made)
    ∙ ap (λ (o : Option ReadMade). both test (option_map part (read_in (runs v d oss) s)) (option_map part o)) (sym k.made))
    (more_tell v (term x.out.by_then) (term y.out.by_then ∷ form x y ∷ []) c (f && passes) refl (more_tell v (term y.out.by_then) (form x y ∷ []) f passes refl (one_tells v (form x y) passes e)))

-- ---- pages

both_pages : (test : Block → Block → Bool) (e f : End) → (is_done e && (is_done f && all_pairs test (option_to_list (page_of e)) (option_to_list (page_of f)))) ≡ both test (page_of e) (page_of f)
both_pages test (Done n pa page) (Done m pb other) = by_test (test (block_at pa page) (block_at pb other))
  where
    by_test : (b : Bool) → ((b && true) && true) ≡ b
    by_test true = refl
    by_test false = refl
both_pages test (Done n pa page) (Fault m c) = refl
both_pages test (Fault n c) (Done m pb other) = refl
both_pages test (Fault n c) (Fault m b) = refl

pages_tell : (v : Valuation) (d : ModelData) (oss : List (List Out)) (j k : ℕ) (form : Sized → Sized → Form) (test : Block → Block → Bool) → AllNodes v d oss → j < length oss → k < length oss
    → PairsTell v come_of form test (pages_at (steps d) (outs_of oss j)) (pages_at (steps d) (outs_of oss k)) → Tells v (every_page d form (outs_of oss j) (outs_of oss k)) (both test (page_in (runs v d oss) j) (page_in (runs v d oss) k))
pages_tell v d oss j k form test nodes l m p =
    let ps = steps d in
    let os = outs_of oss j in
    let others = outs_of oss k in
    let own = nodes_at v d oss j nodes l in
    let other = nodes_at v d oss k nodes m in
    let e = (told v ps os 0).end in
    let f = (told v ps others 0).end in
    let xs = pages_at ps os in
    let ys = pages_at ps others in
    let all = all_pairs test (blocks_made v come_of xs) (blocks_made v come_of ys) in
    let rows = flat_map (λ (x : Sized). map (form x) ys) xs in
    tells_as v (every_page d form os others) (is_done e && (is_done f && all)) _
    (ap (λ (l : List Block). is_done e && (is_done f && all_pairs test l (blocks_made v come_of ys))) (sym (page_told block_at v ps os 0 own.ends))
    ∙ ap (λ (l : List Block). is_done e && (is_done f && all_pairs test (option_to_list (page_of e)) l)) (sym (page_told block_at v ps others 0 other.ends))
    ∙ both_pages test e f
    ∙ ap (λ (o : Option RunData). both test (option_and_then (λ (run : RunData). page_of run.end) o) (page_of f)) (sym (run_at v d oss j l))
    ∙ ap (λ (o : Option RunData). both test (page_in (runs v d oss) j) (option_and_then (λ (run : RunData). page_of run.end) o)) (sym (run_at v d oss k m)))
    (both_tell v (ends_only ends_done ps os) (ends_only ends_done ps others ++ rows) (is_done e) (is_done f && all) (ends_tell v ends_done ps os e (is_done e) own.away own.ends (done_same e))
    (both_tell v (ends_only ends_done ps others) rows (is_done f) all (ends_tell v ends_done ps others f (is_done f) other.away other.ends (done_same f)) (pairs_tell v come_of form test xs ys p)))

row_shared : (v : Valuation) (a : Access) (x : Sized) (ys : List Sized) → AreFit v a → IsBlock v a.address come_of x → AllByRecursion (IsBlock v a.address come_of) ys
    → AllByRecursion (λ (y : Sized). is_one (form_value v (one_page a x y)) ≡ (not (is_one (v x.out.come) && is_one (v y.out.come)) || is_block (block_of v x) (block_of v y))) ys
row_shared v a x [] fit h k = tt
row_shared v a x (y ∷ ys) fit h k = (one_page_value v a x y fit h k.0, row_shared v a x ys fit h k.1)

pairs_shared : (v : Valuation) (a : Access) (xs ys : List Sized) → AreFit v a → AllByRecursion (IsBlock v a.address come_of) xs → AllByRecursion (IsBlock v a.address come_of) ys → PairsTell v come_of (one_page a) is_block xs ys
pairs_shared v a [] ys fit h k = tt
pairs_shared v a (x ∷ xs) ys fit h k = (row_shared v a x ys fit h.0 k, pairs_shared v a xs ys fit h.1 k)

pages_are : (v : Valuation) (d : ModelData) (oss : List (List Out)) (k : ℕ) → AllNodes v d oss → k < length oss → AllByRecursion (IsBlock v d.address come_of) (pages_at (steps d) (outs_of oss k))
pages_are v d oss k nodes l = pages_flagged v d.address (steps d) (outs_of oss k) (nodes_at v d oss k nodes l).flagged

-- ---- links

link_tells : (v : Valuation) (d : ModelData) (r : Requests) (oss : List (List Out)) (link : Link) → AreFit v (list_access d r) → AllNodes v d oss → IsLink d (length oss) link
    → Tells v (every_link d (list_access d r) oss link) (link_holds (steps d) (runs v d oss) link)
link_tells v d r oss (ShareTable s t) fit nodes h =
    let a = list_access d r in
    let x = side_told v d oss s nodes h.0 in
    let y = side_told v d oss t nodes h.1 in
    reads_tell v d oss s t (one_block a) (table_of (steps d)) is_block x y
    (ap is_one (one_block_value v a (side_at d oss s) (side_at d oss t) fit (record { one = x.wide; other = y.wide })) ∙ flag_one (is_block (block_of v (side_at d oss s)) (block_of v (side_at d oss t))))
link_tells v d r oss (ShareCell s t) fit nodes h =
    reads_tell v d oss s t one_cell (λ m. m.cell) is_cell (side_told v d oss s nodes h.0) (side_told v d oss t nodes h.1) (flag_one (is_cell (v (side_at d oss s).out.value).bits (v (side_at d oss t).out.value).bits))
link_tells v d r oss (ApartTable s t) fit nodes h =
    let a = list_access d r in
    let x = side_told v d oss s nodes h.0 in
    let y = side_told v d oss t nodes h.1 in
    let p = side_at d oss s in
    let q = side_at d oss t in
    reads_tell v d oss s t (apart_blocks a) (table_of (steps d)) is_apart x y
    (ap is_one (not_form v (same_block a (max p.exponent q.exponent) p.out.value q.out.value) _ (blocks_value v a p q fit x.wide y.wide)) ∙ flag_one (is_apart (block_of v p) (block_of v q)))
link_tells v d r oss (SharePage j k) fit nodes h =
    let a = list_access d r in
    pages_tell v d oss j k (one_page a) is_block nodes h.0 h.1 (pairs_shared v a (pages_at (steps d) (outs_of oss j)) (pages_at (steps d) (outs_of oss k)) fit (pages_are v d oss j nodes h.0) (pages_are v d oss k nodes h.1))
link_tells v d r oss (ApartPage j k) fit nodes h =
    let a = list_access d r in
    pages_tell v d oss j k (apart_form a come_of) is_apart nodes h.0 h.1 (pairs_apart v a come_of (pages_at (steps d) (outs_of oss j)) (pages_at (steps d) (outs_of oss k)) fit (pages_are v d oss j nodes h.0) (pages_are v d oss k nodes h.1))

each_link : (v : Valuation) (d : ModelData) (r : Requests) (oss : List (List Out)) (links : List Link) → AreFit v (list_access d r) → AllNodes v d oss → AllByRecursion (IsLink d (length oss)) links
    → AllByRecursion (λ (l : Link). Tells v (every_link d (list_access d r) oss l) (link_holds (steps d) (runs v d oss) l)) links
each_link v d r oss [] fit nodes h = tt
each_link v d r oss (l ∷ ls) fit nodes h = (link_tells v d r oss l fit nodes h.0, each_link v d r oss ls fit nodes h.1)

-- the forms of the links tell their claims
pub links_tell : (v : Valuation) (d : ModelData) (r : Requests) (m : Memory) (oss : List (List Out)) → AreSet v d r → HaveContexts r r.accesses → AllByRecursion (IsLink d (length oss)) r.links → AllNodes v d oss → AllTold v d r m 0 r.accesses oss
    → TellAll v (flat_map (every_link d (list_access d r) oss) r.links) (link_claims d r (seen v d r m))
links_tell v d r m oss set c links nodes all =
    let e : runs_of d (seen v d r m) ≡ runs v d oss = runs_told v d r m r.accesses oss 0 c all in
    tell_as v (flat_map (every_link d (list_access d r) oss) r.links) (map (link_holds (steps d) (runs v d oss)) r.links) (link_claims d r (seen v d r m))
    (ap (λ (l : List RunData). map (link_holds (steps d) l) r.links) (sym e))
    (each_tells v (every_link d (list_access d r) oss) (link_holds (steps d) (runs v d oss)) r.links (each_link v d r oss r.links (fit_from v d r set) nodes links))
