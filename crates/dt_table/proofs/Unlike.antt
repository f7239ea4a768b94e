-- Words differ in each image that satisfies, where the blocks that are their same bits are apart.
use Rattle.std.proofs.Common.{◌≡◌, ℕ, ◌+◌, ◌/◌, ◌<◌, ◌^◌, Bool, true, false, cond, not, ◌&&◌, ◌||◌, eqb, List, [], ◌∷◌, ◌++◌, length, map, Option, Some, None, refl, sym, ap, ◌∙◌, subst}
use Rattle.std.specs.Prelude.{max}
use Rattle.std.specs.List.{flat_map, AllByRecursion}
use Rattle.std.proofs.lemmas.Bool.{eqb-true, eq-eqb, false≢true}
use Rattle.dt_lemmas.proofs.Lists.{AllByRecursion-append, AllByRecursion-split}
use Rattle.dt_model.specs.ModelData.{ModelData, ActData}
use Rattle.dt_model.specs.Faults.{steps}
use Rattle.dt_request.specs.declared.list.Link.{Link}
use Rattle.dt_request.specs.declared.list.Link.TheVariants.{ShareTable, ShareCell, SharePage, ApartTable, ApartPage}
use Rattle.dt_request.specs.declared.list.Requests.{Requests}
use Rattle.dt_request.specs.Lists.{IsLink}
use Rattle.dt_terms.specs.declared.term.Term.{Term}
use Rattle.dt_terms.specs.Terms.{AreTerms}
use Rattle.dt_forms.specs.Meaning.{Valuation, AreValues, flag, is_one}
use Rattle.dt_forms.specs.Forms.{Form, HaveForms, term, form2, form_value, not_of, both_of}
use Rattle.dt_bits.specs.declared.op.Op.TheVariants.{Or}
use Rattle.dt_forms.specs.Claims.{Hold}
use Rattle.dt_forms.proofs.FormValues.{not_form, both_form, or_form}
use Rattle.dt_forms.proofs.Lawful.{flag_one}
use Rattle.dt_table.specs.declared.out.Out.{Out}
use Rattle.dt_table.specs.declared.differing.Upper.{Upper}
use Rattle.dt_table.specs.declared.differing.UnlikeWords.{UnlikeWords}
use Rattle.dt_table.specs.Passing.{Access}
use Rattle.dt_table.specs.Claims.{ends_only}
use Rattle.dt_ways.specs.Ends.{ends_done}
use Rattle.dt_ways.specs.Ways.{access_ways}
use Rattle.dt_table.specs.Apart.{Sized, same_block, apart_form, pages_at}
use Rattle.dt_table.specs.Links.{outs_of, side_at, access_pages}
use Rattle.dt_table.specs.Spots.{Spot}
use Rattle.dt_table.specs.Table.{list_access}
use Rattle.dt_table.specs.Unlike.{upper_at, same_bits, are_two, unlike_of, unlikes, page_unlikes, link_unlikes, all_unlikes, unlike_form, unlike_forms}
use Rattle.dt_table.proofs.Blocks.{same_block_value}
use Rattle.dt_table.proofs.Every.{every_link, of_spot, pages_spotted}
use Rattle.dt_table.proofs.Flagged.{AllOuts, IsFlagged, is_flag}
use Rattle.dt_table.proofs.Linked.{side_told, nodes_at}
use Rattle.dt_table.proofs.NodeKinds.{pages_have, each_out}
use Rattle.dt_table.proofs.Pages.{AreFit}
use Rattle.dt_table.proofs.Results.{come_of}
use Rattle.dt_table.proofs.Told.{AreNodes, AllNodes}
use Rattle.dt_table.proofs.Uppers.{upper_is, one_block_of}

-- ---- what holds of the words of each two nodes

pub unlikes_have : (P : UnlikeWords → Type 0) (terms : List Term) (x y : Sized)
    → ((p q : Upper) → upper_at terms x.out.value ≡ Some p → upper_at terms y.out.value ≡ Some q → same_bits (max x.exponent y.exponent) p q ≡ true → are_two terms p.word q.word ≡ true
    → P (record { word = p.word; other = q.word; away = x.out.away; other_away = y.out.away }))
    → AllByRecursion P (unlikes terms x y)
unlikes_have P terms x y h = by_uppers (upper_at terms x.out.value) (upper_at terms y.out.value) refl refl
  where
    by_tests : (p q : Upper) (b c : Bool) → (b ≡ true → c ≡ true → P (record { word = p.word; other = q.word; away = x.out.away; other_away = y.out.away })) → AllByRecursion P (cond (b && c) (record { word = p.word; other = q.word; away = x.out.away; other_away = y.out.away } ∷ []) [])
    by_tests p q true true k = (k refl refl, tt)
    by_tests p q true false k = tt
    by_tests p q false c k = tt

    by_uppers : (o q : Option Upper) → upper_at terms x.out.value ≡ o → upper_at terms y.out.value ≡ q → AllByRecursion P (unlike_of terms (max x.exponent y.exponent) x.out y.out o q)
    by_uppers None q f g = tt
    by_uppers (Some p) None f g = tt
    by_uppers (Some p) (Some q) f g = by_tests p q (same_bits (max x.exponent y.exponent) p q) (are_two terms p.word q.word) (λ s t. h p q f g s t)

-- of each node of a list with each of another
abbrev pub PairsHave : (UnlikeWords → Type 0) → List Term → List Sized → List Sized → Type 0
PairsHave P terms xs ys = AllByRecursion (λ (x : Sized). AllByRecursion (λ (y : Sized). AllByRecursion P (unlikes terms x y)) ys) xs

row_have : (P : UnlikeWords → Type 0) (terms : List Term) (x : Spot) (ys : List Spot) → AllByRecursion (λ (y : Sized). AllByRecursion P (unlikes terms x.of y)) (map of_spot ys) → AllByRecursion P (flat_map (page_unlikes terms x) ys)
row_have P terms x [] h = tt
row_have P terms x (y ∷ ys) h = AllByRecursion-append P (page_unlikes terms x y) (flat_map (page_unlikes terms x) ys) (by_live (x.live && y.live) h.0) (row_have P terms x ys h.1)
  where
    by_live : (b : Bool) → AllByRecursion P (unlikes terms x.of y.of) → AllByRecursion P (cond b (unlikes terms x.of y.of) [])
    by_live true k = k
    by_live false k = tt

spots_have : (P : UnlikeWords → Type 0) (terms : List Term) (xs ys : List Spot) → PairsHave P terms (map of_spot xs) (map of_spot ys) → AllByRecursion P (flat_map (λ x. flat_map (page_unlikes terms x) ys) xs)
spots_have P terms [] ys h = tt
spots_have P terms (x ∷ xs) ys h = AllByRecursion-append P (flat_map (page_unlikes terms x) ys) (flat_map (λ x. flat_map (page_unlikes terms x) ys) xs) (row_have P terms x ys h.0) (spots_have P terms xs ys h.1)

pub results_have : (P : UnlikeWords → Type 0) (d : ModelData) (r : Requests) (terms : List Term) (oss : List (List Out)) (j k : ℕ) → PairsHave P terms (pages_at (steps d) (outs_of oss j)) (pages_at (steps d) (outs_of oss k)) → AllByRecursion P (link_unlikes d r terms oss (ApartPage j k))
results_have P d r terms oss j k h =
    let xs = access_pages d r oss j in
    let ys = access_pages d r oss k in
    let ex = pages_spotted (access_ways d r j) j (steps d) (outs_of oss j) 0 in
    let ey = pages_spotted (access_ways d r k) k (steps d) (outs_of oss k) 0 in
    spots_have P terms xs ys (subst (λ (l : List Sized). PairsHave P terms l (map of_spot ys)) (sym ex) (subst (λ (l : List Sized). PairsHave P terms (pages_at (steps d) (outs_of oss j)) l) (sym ey) h))

pub links_have : (P : UnlikeWords → Type 0) (Q : Link → Type 0) (d : ModelData) (r : Requests) (terms : List Term) (oss : List (List Out)) → ((l : Link) → Q l → AllByRecursion P (link_unlikes d r terms oss l)) → (links : List Link) → AllByRecursion Q links
    → AllByRecursion P (flat_map (link_unlikes d r terms oss) links)
links_have P Q d r terms oss h [] k = tt
links_have P Q d r terms oss h (l ∷ ls) k = AllByRecursion-append P (link_unlikes d r terms oss l) (flat_map (link_unlikes d r terms oss) ls) (h l k.0) (links_have P Q d r terms oss h ls k.1)

pub forms_have : (Q : Form → Type 0) (a : Access) (us : List UnlikeWords) → AllByRecursion (λ (u : UnlikeWords). Q (unlike_form a u)) us → AllByRecursion Q (unlike_forms a us)
forms_have Q a [] h = tt
forms_have Q a (u ∷ us) h = (h.0, forms_have Q a us h.1)

-- ---- they are forms

pub unlike_have : (a : Access) (us : List UnlikeWords) → HaveForms (unlike_forms a us)
unlike_have a [] = tt
unlike_have a (u ∷ us) = ((refl, (refl, tt, tt), (refl, tt, tt), tt), unlike_have a us)

-- ---- one form

-- the form holds where one of both terms is 1 if the words are equal
abbrev Differ : Valuation → Access → UnlikeWords → Type 0
Differ v a u = is_one (form_value v (unlike_form a u)) ≡ true

unlike_holds : (v : Valuation) (a : Access) (u : UnlikeWords) → v a.one_term ≡ flag true → ((v u.word).bits ≡ (v u.other).bits → is_one (form_value v (form2 Or (term u.away) (term u.other_away))) ≡ true) → Differ v a u
unlike_holds v a u one h = by_equal (eqb (v u.word).bits (v u.other).bits) refl
  where
    by_equal : (b : Bool) → eqb (v u.word).bits (v u.other).bits ≡ b → eqb (cond (eqb (cond b 1 0) 1) (form_value v (form2 Or (term u.away) (term u.other_away))).bits (v a.one_term).bits) 1 ≡ true
    by_equal true e = h (eqb-true (v u.word).bits (v u.other).bits e)
    by_equal false e = ap is_one one

-- ---- tables

blocks_differ : (v : Valuation) (a : Access) (e s t : ℕ) → AreFit v a → (v s).width.0 ≡ a.address → (v t).width.0 ≡ a.address → is_one (form_value v (not_of (same_block a e s t))) ≡ true → (v s).bits / 2 ^ e ≡ (v t).bits / 2 ^ e → ⊥
blocks_differ v a e s t fit h k g q =
    let same = same_block_value v a e s t fit.one_is (subst (λ (w : ℕ). (v s).bits < 2 ^ w) h (fit.range s)) (subst (λ (w : ℕ). (v t).bits < 2 ^ w) k (fit.range t)) ∙ ap flag (eq-eqb _ _ q) in
    let none : is_one (form_value v (not_of (same_block a e s t))) ≡ false = ap is_one (not_form v (same_block a e s t) true same) in
    false≢true (sym none ∙ g)

-- ---- pages

-- what is known of a result
record IsResult (v : Valuation) (address : ℕ) (x : Sized) : Type 0 where
  come_is : is_flag v x.out.come
  wide : (v x.out.value).width.0 ≡ address
  away_is : v x.out.away ≡ flag (not (is_one (v x.out.come)))

both_outs : (P Q : ActData → Out → Type 0) (ps : List ActData) (os : List Out) → AllOuts P ps os → AllOuts Q ps os → AllOuts (λ p o. P p o × Q p o) ps os
both_outs P Q [] os h k = tt
both_outs P Q (p ∷ ps) [] h k = tt
both_outs P Q (p ∷ ps) (o ∷ os) h k = ((h.0, k.0), both_outs P Q ps os h.1 k.1)

results_are : (v : Valuation) (d : ModelData) (os : List Out) → AreNodes v d os → AllByRecursion (IsResult v d.address) (pages_at (steps d) os)
results_are v d os h =
    let away : Out → Type 0 = λ (o : Out). v o.away ≡ flag (not (is_one (v o.come))) in
    pages_have (λ p o. IsFlagged v d.address p o × away o) (IsResult v d.address) (λ e p o k. record { come_is = k.0.come_is; wide = k.0.wide refl; away_is = k.1 }) (steps d) os
    (both_outs (IsFlagged v d.address) (λ p o. away o) (steps d) os h.flagged (each_out away (steps d) os h.away))

-- results whose blocks are one don't both come about
one_away : (v : Valuation) (a : Access) (x y : Sized) → AreFit v a → IsResult v a.address x → IsResult v a.address y → is_one (form_value v (apart_form a come_of x y)) ≡ true → (v x.out.value).bits / 2 ^ max x.exponent y.exponent ≡ (v y.out.value).bits / 2 ^ max x.exponent y.exponent
    → is_one (form_value v (form2 Or (term x.out.away) (term y.out.away))) ≡ true
one_away v a x y fit h k g q =
    let e = max x.exponent y.exponent in
    let s = x.out.value in
    let t = y.out.value in
    let cx = is_one (v x.out.come) in
    let cy = is_one (v y.out.come) in
    let same = same_block_value v a e s t fit.one_is (subst (λ (w : ℕ). (v s).bits < 2 ^ w) h.wide (fit.range s)) (subst (λ (w : ℕ). (v t).bits < 2 ^ w) k.wide (fit.range t)) ∙ ap flag (eq-eqb _ _ q) in
    let both = both_of (term x.out.come) (term y.out.come) in
    let come = both_form v (term x.out.come) (term y.out.come) cx cy h.come_is k.come_is in
    let whole = not_form v (both_of both (same_block a e s t)) ((cx && cy) && true) (both_form v both (same_block a e s t) (cx && cy) true come same) in
    let either = or_form v (term x.out.away) (term y.out.away) (not cx) (not cy) h.away_is k.away_is in
    ap is_one either ∙ flag_one (not cx || not cy) ∙ by_come cx cy (sym (flag_one (not ((cx && cy) && true))) ∙ sym (ap is_one whole) ∙ g)
  where
    by_come : (b c : Bool) → not ((b && c) && true) ≡ true → (not b || not c) ≡ true
    by_come true true z = z
    by_come true false z = refl
    by_come false c z = refl

-- ---- links

-- what is known of the terms of a list
pub record AreSeen (v : Valuation) (d : ModelData) (r : Requests) (terms : List Term) (oss : List (List Out)) : Type 0 where
  pub terms_are : AreTerms terms
  pub values_are : AreValues v terms
  pub fit : AreFit v (list_access d r)
  pub nodes : AllNodes v d oss

-- equal words give one block
words_block : (v : Valuation) (terms : List Term) (x y : Sized) (p q : Upper) → AreTerms terms → AreValues v terms → upper_at terms x.out.value ≡ Some p → upper_at terms y.out.value ≡ Some q → same_bits (max x.exponent y.exponent) p q ≡ true → (v p.word).bits ≡ (v q.word).bits
    → (v x.out.value).bits / 2 ^ max x.exponent y.exponent ≡ (v y.out.value).bits / 2 ^ max x.exponent y.exponent
words_block v terms x y p q h g e f same words = one_block_of v terms (max x.exponent y.exponent) x.out.value y.out.value p q g (upper_is terms x.out.value p h e) (upper_is terms y.out.value q h f) same words

tables_differ : (v : Valuation) (d : ModelData) (r : Requests) (terms : List Term) (oss : List (List Out)) (x y : Sized) → AreSeen v d r terms oss → (v x.out.value).width.0 ≡ d.address → (v y.out.value).width.0 ≡ d.address
    → is_one (form_value v (not_of (same_block (list_access d r) (max x.exponent y.exponent) x.out.value y.out.value))) ≡ true → AllByRecursion (Differ v (list_access d r)) (unlikes terms x y)
tables_differ v d r terms oss x y h i j g =
    let a = list_access d r in
    unlikes_have (Differ v a) terms x y (λ p q e f same two.
    unlike_holds v a (record { word = p.word; other = q.word; away = x.out.away; other_away = y.out.away }) h.fit.one_is (λ words.
    absurd (blocks_differ v a (max x.exponent y.exponent) x.out.value y.out.value h.fit i j g (words_block v terms x y p q h.terms_are h.values_are e f same words))))

row_differ : (v : Valuation) (d : ModelData) (r : Requests) (terms : List Term) (oss : List (List Out)) (x : Sized) (ys : List Sized) → AreSeen v d r terms oss → IsResult v d.address x → AllByRecursion (IsResult v d.address) ys
    → Hold v (map (apart_form (list_access d r) come_of x) ys) → AllByRecursion (λ (y : Sized). AllByRecursion (Differ v (list_access d r)) (unlikes terms x y)) ys
row_differ v d r terms oss x [] h i j g = tt
row_differ v d r terms oss x (y ∷ ys) h i j g =
    let a = list_access d r in (
      unlikes_have (Differ v a) terms x y (λ p q e f same two.
          unlike_holds v a (record { word = p.word; other = q.word; away = x.out.away; other_away = y.out.away }) h.fit.one_is (λ words.
          one_away v a x y h.fit i j.0 g.0 (words_block v terms x y p q h.terms_are h.values_are e f same words))),
      row_differ v d r terms oss x ys h i j.1 g.1,
    )

pages_differ : (v : Valuation) (d : ModelData) (r : Requests) (terms : List Term) (oss : List (List Out)) (xs ys : List Sized) → AreSeen v d r terms oss → AllByRecursion (IsResult v d.address) xs → AllByRecursion (IsResult v d.address) ys
    → Hold v (flat_map (λ x. map (apart_form (list_access d r) come_of x) ys) xs) → PairsHave (Differ v (list_access d r)) terms xs ys
pages_differ v d r terms oss [] ys h i j g = tt
pages_differ v d r terms oss (x ∷ xs) ys h i j g =
    let form = apart_form (list_access d r) come_of in
    let p = AllByRecursion-split (λ (f : Form). is_one (form_value v f) ≡ true) (map (form x) ys) (flat_map (λ (x : Sized). map (form x) ys) xs) g in
    (row_differ v d r terms oss x ys h i.0 j p.0, pages_differ v d r terms oss xs ys h i.1 j p.1)

link_differs : (v : Valuation) (d : ModelData) (r : Requests) (terms : List Term) (oss : List (List Out)) (link : Link) → AreSeen v d r terms oss → IsLink d (length oss) link → Hold v (every_link d (list_access d r) oss link) → AllByRecursion (Differ v (list_access d r)) (link_unlikes d r terms oss link)
link_differs v d r terms oss (ShareTable s t) h i g = tt
link_differs v d r terms oss (ShareCell s t) h i g = tt
link_differs v d r terms oss (SharePage j k) h i g = tt
link_differs v d r terms oss (ApartTable s t) h i g = tables_differ v d r terms oss (side_at d oss s) (side_at d oss t) h (side_told v d oss s h.nodes i.0).wide (side_told v d oss t h.nodes i.1).wide g.1.1.0
link_differs v d r terms oss (ApartPage j k) h i g =
    let P : Form → Type 0 = λ (f : Form). is_one (form_value v f) ≡ true in
    let xs = pages_at (steps d) (outs_of oss j) in
    let ys = pages_at (steps d) (outs_of oss k) in
    let one = ends_only ends_done (steps d) (outs_of oss j) in
    let other = ends_only ends_done (steps d) (outs_of oss k) in
    let rows = flat_map (λ (x : Sized). map (apart_form (list_access d r) come_of x) ys) xs in
    let p = AllByRecursion-split P one (other ++ rows) g in
    let q = AllByRecursion-split P other rows p.1 in
    results_have (Differ v (list_access d r)) d r terms oss j k
    (pages_differ v d r terms oss xs ys h (results_are v d (outs_of oss j) (nodes_at v d oss j h.nodes i.0)) (results_are v d (outs_of oss k) (nodes_at v d oss k h.nodes i.1)) q.1)

held_links : (v : Valuation) (d : ModelData) (r : Requests) (oss : List (List Out)) (links : List Link) → AllByRecursion (IsLink d (length oss)) links → Hold v (flat_map (every_link d (list_access d r) oss) links)
    → AllByRecursion (λ (l : Link). IsLink d (length oss) l × Hold v (every_link d (list_access d r) oss l)) links
held_links v d r oss [] i g = tt
held_links v d r oss (l ∷ ls) i g =
    let p = AllByRecursion-split (λ (f : Form). is_one (form_value v f) ≡ true) (every_link d (list_access d r) oss l) (flat_map (every_link d (list_access d r) oss) ls) g in
    ((i.0, p.0), held_links v d r oss ls i.1 p.1)

-- where the forms of the links hold
pub unlikes_hold : (v : Valuation) (d : ModelData) (r : Requests) (terms : List Term) (oss : List (List Out)) → AreSeen v d r terms oss → AllByRecursion (IsLink d (length oss)) r.links → Hold v (flat_map (every_link d (list_access d r) oss) r.links)
    → Hold v (unlike_forms (list_access d r) (all_unlikes d r terms oss))
unlikes_hold v d r terms oss h i g =
    forms_have (λ (f : Form). is_one (form_value v f) ≡ true) (list_access d r) (all_unlikes d r terms oss)
    (links_have (Differ v (list_access d r)) (λ (l : Link). IsLink d (length oss) l × Hold v (every_link d (list_access d r) oss l)) d r terms oss (λ l k. link_differs v d r terms oss l h k.0 k.1) r.links (held_links v d r oss r.links i g))
