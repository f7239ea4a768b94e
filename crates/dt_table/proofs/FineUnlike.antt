-- The forms of words that differ can be put behind the terms, each of one bit, and how many terms they take.
use Rattle.std.proofs.Common.{◌≡◌, ℕ, ◌*◌, ◌≤◌, Bool, true, false, cond, not, ◌&&◌, eqb, List, [], ◌∷◌, length, Option, Some, None, refl, sym, ap, ◌∙◌, subst, arith}
use Rattle.std.specs.Prelude.{max}
use Rattle.std.specs.List.{flat_map, AllByRecursion}
use Rattle.std.proofs.Math.Nat.{mul-le-mul, mul-le-mul_right}
use Rattle.std.proofs.lemmas.Bool.{and_parts, eqb-true}
use Rattle.std.proofs.lemmas.List.{length-map}
use Rattle.dt_lemmas.proofs.Lists.{length_flat}
use Rattle.dt_bits.specs.declared.op.Op.TheVariants.{Or, Ite}
use Rattle.dt_model.specs.ModelData.{ModelData}
use Rattle.dt_model.specs.Faults.{steps}
use Rattle.dt_request.specs.declared.list.Link.{Link}
use Rattle.dt_request.specs.declared.list.Link.TheVariants.{ShareTable, ShareCell, SharePage, ApartTable, ApartPage}
use Rattle.dt_request.specs.declared.list.Requests.{Requests}
use Rattle.dt_request.specs.Lists.{IsLink}
use Rattle.dt_terms.specs.declared.term.Term.{Term}
use Rattle.dt_terms.specs.Terms.{AreTerms, bits_at}
use Rattle.dt_forms.specs.Forms.{Form, term, form2, same_of}
use Rattle.dt_forms.proofs.Fine.{IsSized, IsFine, AreFine, forms_size, term_fine, same_fine, or_fine, three_fine, size_map}
use Rattle.dt_table.specs.declared.out.Out.{Out}
use Rattle.dt_table.specs.declared.differing.Upper.{Upper}
use Rattle.dt_table.specs.declared.differing.UnlikeWords.{UnlikeWords}
use Rattle.dt_table.specs.Passing.{Access}
use Rattle.dt_table.specs.Apart.{Sized, pages_at}
use Rattle.dt_table.specs.Links.{outs_of, side_at, access_pages}
use Rattle.dt_table.specs.Spots.{Spot}
use Rattle.dt_ways.specs.Ways.{access_ways}
use Rattle.dt_table.specs.Unlike.{upper_at, same_bits, are_two, unlike_of, unlikes, page_unlikes, link_unlikes, all_unlikes, unlike_form, unlike_forms}
use Rattle.dt_table.proofs.Every.{of_spot, pages_spotted}
use Rattle.dt_table.proofs.FineClaims.{AreBits, AreOutsSized, AreNodesSized, pages_sized, outs_sized_at, side_sized}
use Rattle.dt_table.proofs.FineSizes.{dones_in, pages_count}
use Rattle.dt_table.proofs.Unlike.{PairsHave, unlikes_have, results_have, links_have, forms_have}
use Rattle.dt_table.proofs.Uppers.{upper_is}

-- ---- they fit

abbrev IsUnlikeFine : List Term → Access → UnlikeWords → Type 0
IsUnlikeFine terms a u = IsFine terms (unlike_form a u) 1

words_fine : (terms : List Term) (a : Access) (x y : Sized) → AreTerms terms → AreBits terms a → IsSized terms x.out.away 1 → IsSized terms y.out.away 1 → AllByRecursion (IsUnlikeFine terms a) (unlikes terms x y)
words_fine terms a x y h b i j =
    unlikes_have (IsUnlikeFine terms a) terms x y (λ p q e f same two.
    let s = p.word in
    let t = q.word in
    let wide : bits_at terms s ≡ bits_at terms t = eqb-true (bits_at terms s) (bits_at terms t) (and_parts (eqb (bits_at terms s) (bits_at terms t)) (not (eqb s t)) two).0 in
    three_fine terms Ite (same_of (term s) (term t)) (form2 Or (term x.out.away) (term y.out.away)) (term a.one_term) 1 1 1 1 refl
    (same_fine terms (term s) (term t) (bits_at terms s) (term_fine terms s (bits_at terms s) (record { within = (upper_is terms x.out.value p h e).there; bits = refl })) (term_fine terms t (bits_at terms s) (record { within = (upper_is terms y.out.value q h f).there; bits = sym wide })))
    (or_fine terms (term x.out.away) (term y.out.away) (term_fine terms x.out.away 1 i) (term_fine terms y.out.away 1 j))
    (term_fine terms a.one_term 1 b.one_is) refl)

row_fine : (word : ℕ) (terms : List Term) (a : Access) (x : Sized) (ys : List Sized) → AreTerms terms → AreBits terms a → IsSized terms x.out.away 1 → AreNodesSized a.address word terms ys → AllByRecursion (λ (y : Sized). AllByRecursion (IsUnlikeFine terms a) (unlikes terms x y)) ys
row_fine word terms a x [] h b i k = tt
row_fine word terms a x (y ∷ ys) h b i k = (words_fine terms a x y h b i k.0.away, row_fine word terms a x ys h b i k.1)

pairs_fine : (word : ℕ) (terms : List Term) (a : Access) (xs ys : List Sized) → AreTerms terms → AreBits terms a → AreNodesSized a.address word terms xs → AreNodesSized a.address word terms ys → PairsHave (IsUnlikeFine terms a) terms xs ys
pairs_fine word terms a [] ys h b i k = tt
pairs_fine word terms a (x ∷ xs) ys h b i k = (row_fine word terms a x ys h b i.0.away k, pairs_fine word terms a xs ys h b i.1 k)

link_fine : (d : ModelData) (r : Requests) (a : Access) (terms : List Term) (oss : List (List Out)) (link : Link) → a.address ≡ d.address → AreTerms terms → AreBits terms a → AllByRecursion (AreOutsSized d terms) oss → IsLink d (length oss) link
    → AllByRecursion (IsUnlikeFine terms a) (link_unlikes d r terms oss link)
link_fine d r a terms oss (ShareTable s t) e h b o i = tt
link_fine d r a terms oss (ShareCell s t) e h b o i = tt
link_fine d r a terms oss (SharePage j k) e h b o i = tt
link_fine d r a terms oss (ApartTable s t) e h b o i = words_fine terms a (side_at d oss s) (side_at d oss t) h b (side_sized d terms oss s o i.0).away (side_sized d terms oss t o i.1).away
link_fine d r a terms oss (ApartPage j k) e h b o i =
    let ps = steps d in
    let os = outs_of oss j in
    let others = outs_of oss k in
    let xs : AreNodesSized d.address d.word terms (pages_at ps os) = pages_sized d.address d.word terms ps os (outs_sized_at d terms oss j o i.0).outs in
    let ys : AreNodesSized d.address d.word terms (pages_at ps others) = pages_sized d.address d.word terms ps others (outs_sized_at d terms oss k o i.1).outs in
    results_have (IsUnlikeFine terms a) d r terms oss j k
    (pairs_fine d.word terms a (pages_at ps os) (pages_at ps others) h b (subst (λ (w : ℕ). AreNodesSized w d.word terms (pages_at ps os)) (sym e) xs) (subst (λ (w : ℕ). AreNodesSized w d.word terms (pages_at ps others)) (sym e) ys))

pub unlikes_fine : (d : ModelData) (r : Requests) (a : Access) (terms : List Term) (oss : List (List Out)) → a.address ≡ d.address → AreTerms terms → AreBits terms a → AllByRecursion (AreOutsSized d terms) oss → AllByRecursion (IsLink d (length oss)) r.links
    → AreFine terms (unlike_forms a (all_unlikes d r terms oss))
unlikes_fine d r a terms oss e h b o i =
    forms_have (λ (f : Form). IsFine terms f 1) a (all_unlikes d r terms oss)
    (links_have (IsUnlikeFine terms a) (IsLink d (length oss)) d r terms oss (λ l k. link_fine d r a terms oss l e h b o k) r.links i)

-- ---- how many there are

words_count : (terms : List Term) (x y : Sized) → length (unlikes terms x y) ≤ 1
words_count terms x y = by_uppers (upper_at terms x.out.value) (upper_at terms y.out.value)
  where
    by_test : (u : UnlikeWords) (b : Bool) → length (cond b (u ∷ []) []) ≤ 1
    by_test u true = omega arith
    by_test u false = omega arith

    by_uppers : (o q : Option Upper) → length (unlike_of terms (max x.exponent y.exponent) x.out y.out o q) ≤ 1
    by_uppers None q = omega arith
    by_uppers (Some p) None = omega arith
    by_uppers (Some p) (Some q) = by_test (record { word = p.word; other = q.word; away = x.out.away; other_away = y.out.away }) (same_bits (max x.exponent y.exponent) p q && are_two terms p.word q.word)

page_count : (terms : List Term) (x y : Spot) → length (page_unlikes terms x y) ≤ 1
page_count terms x y = by_live (x.live && y.live)
  where
    by_live : (b : Bool) → length (cond b (unlikes terms x.of y.of) []) ≤ 1
    by_live true = words_count terms x.of y.of
    by_live false = omega arith

spots_count : (d : ModelData) (r : Requests) (oss : List (List Out)) (k : ℕ) → length (access_pages d r oss k) ≤ dones_in (steps d)
spots_count d r oss k =
    let xs = access_pages d r oss k in
    let e : length xs ≡ length (pages_at (steps d) (outs_of oss k)) = sym (length-map xs of_spot) ∙ ap length (pages_spotted (access_ways d r k) k (steps d) (outs_of oss k) 0) in
    let c = pages_count (steps d) (outs_of oss k) in
    omega (arith, e, c)

link_count : (d : ModelData) (r : Requests) (terms : List Term) (oss : List (List Out)) (link : Link) → dones_in (steps d) ≤ 16 → length (link_unlikes d r terms oss link) ≤ 256
link_count d r terms oss (ShareTable s t) few = omega arith
link_count d r terms oss (ShareCell s t) few = omega arith
link_count d r terms oss (SharePage j k) few = omega arith
link_count d r terms oss (ApartTable s t) few = let c = words_count terms (side_at d oss s) (side_at d oss t) in omega (arith, c)
link_count d r terms oss (ApartPage j k) few =
    let xs = access_pages d r oss j in
    let ys = access_pages d r oss k in
    let x = spots_count d r oss j in
    let y = spots_count d r oss k in
    let l = length_flat (λ (s : Spot). flat_map (page_unlikes terms s) ys) (length ys * 1) (λ s. length_flat (page_unlikes terms s) 1 (page_count terms s) ys) xs in
    let one : length xs ≤ 16 = omega (arith, x, few) in
    let other : length ys ≤ 16 = omega (arith, y, few) in
    let m : length xs * (length ys * 1) ≤ 16 * (16 * 1) = mul-le-mul one (mul-le-mul_right 1 other) in
    omega (arith, l, m)

pub unlikes_size : (d : ModelData) (r : Requests) (a : Access) (terms : List Term) (oss : List (List Out)) → dones_in (steps d) ≤ 16 → forms_size (unlike_forms a (all_unlikes d r terms oss)) ≤ length r.links * 768
unlikes_size d r a terms oss few =
    let us = all_unlikes d r terms oss in
    let s = size_map (unlike_form a) 3 (λ u. omega arith) us in
    let l = length_flat (link_unlikes d r terms oss) 256 (λ l. link_count d r terms oss l few) r.links in
    let m : length us * 3 ≤ length r.links * 256 * 3 = mul-le-mul_right 3 l in
    omega (arith, s, m)
