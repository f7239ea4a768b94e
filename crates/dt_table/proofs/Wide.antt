-- The claims that are left out hold: walks that go by open ways don't come to their nodes.
use Rattle.std.proofs.Common.{◌≡◌, ℕ, suc, ◌+◌, ◌<◌, ◌≤◌, ◌^◌, Bool, true, false, cond, not, ◌&&◌, ◌||◌, eqb, ltb, List, [], ◌∷◌, ◌++◌, length, map, ◌⊎◌, inl, inr, refl, sym, ap, ◌∙◌, subst, arith}
use Rattle.std.specs.List.{flat_map, AllByRecursion}
use Rattle.std.proofs.lemmas.Bool.{eqb-true, or_left, or_right, or_parts, and_parts, and_cases, and_left, and_right, false≢true, cases_Bool, cases_lt, ltb-true}
use Rattle.dt_lemmas.proofs.Lists.{AllByRecursion-append, AllByRecursion-split}
use Rattle.dt_model.specs.ModelData.{ModelData, ActData, bind, read, branch, fault, done}
use Rattle.dt_model.specs.Faults.{steps}
use Rattle.dt_request.specs.declared.list.KeptRange.{KeptRange}
use Rattle.dt_request.specs.declared.list.Link.{Link}
use Rattle.dt_request.specs.declared.list.Link.TheVariants.{ShareTable, ShareCell, SharePage, ApartTable, ApartPage}
use Rattle.dt_request.specs.declared.list.Requests.{Requests}
use Rattle.dt_request.specs.Lists.{IsLink}
use Rattle.dt_satisfy.specs.Demands.{visits}
use Rattle.dt_satisfy.specs.Blocks.{touches}
use Rattle.dt_forms.specs.Meaning.{Valuation, is_one}
use Rattle.dt_forms.specs.Forms.{Form, form_value}
use Rattle.dt_forms.specs.Claims.{Hold}
use Rattle.dt_table.specs.declared.out.Out.{Out}
use Rattle.dt_reach.specs.declared.ways.Ways.{Ways}
use Rattle.dt_table.specs.Passing.{Access}
use Rattle.dt_table.specs.Claims.{ends_only, pair_form}
use Rattle.dt_ways.specs.Ends.{ends_done}
use Rattle.dt_table.specs.Apart.{Sized, apart_form, pages_at}
use Rattle.dt_table.specs.Kept.{kept_form, kept_forms}
use Rattle.dt_table.specs.Links.{outs_of, one_page, page_if, pages_forms, access_pages, link_forms}
use Rattle.dt_table.specs.Outs.{out_at}
use Rattle.dt_table.specs.Pairs.{pair_if, pair_forms, apart_if, apart_forms}
use Rattle.dt_reach.specs.Reach.{is_marked, ahead_of, is_live}
use Rattle.dt_table.specs.Spots.{Spot, spot_at, can_meet, only_if, read_spots, page_spots, all_reads, all_pages}
use Rattle.dt_table.specs.Table.{list_access, wish_forms, page_forms, keep_forms, list_forms, claim_forms}
use Rattle.dt_table.specs.Told.{told}
use Rattle.dt_ways.specs.Ways.{access_ways}
use Rattle.dt_table.proofs.Asked.{AreAsked, access_gone}
use Rattle.dt_table.proofs.Every.{every_pair, every_apart, every_kept, every_page, every_link, every_block, every_keep, every_list, every_claim, pages_in, reads_among, of_spot, out_of, pages_spotted, all_pages_spotted, all_tables_spotted, all_reads_spotted}
use Rattle.dt_table.proofs.Flagged.{AllOuts, IsFlagged, is_flag}
use Rattle.dt_reach.proofs.Gone.{Gone, come_ahead, come_live}
use Rattle.dt_table.proofs.Kept.{kept_value}
use Rattle.dt_table.proofs.Linked.{nodes_at, one_page_value}
use Rattle.dt_table.proofs.Pages.{AreFit, block_of, apart_value, then_of}
use Rattle.dt_table.proofs.Pairs.{is_made, pair_value}
use Rattle.dt_table.proofs.Results.{come_of}
use Rattle.dt_table.proofs.Visits.{visited}

-- ---- what is known of a spot

pub record IsSpot (v : Valuation) (address : ℕ) (ways : ℕ → List Ways) (come : ℕ → ℕ → Bool) (s : Spot) : Type 0 where
  pub live_is : s.live ≡ is_live (ways s.access) s.node
  pub ahead_is : s.ahead ≡ ahead_of (ways s.access) s.node
  pub come_is : is_one (v s.of.out.come) ≡ come s.access s.node
  pub comes : is_one (v s.of.out.by_then) ≡ true → is_one (v s.of.out.come) ≡ true
  pub come_flag : is_flag v s.of.out.come
  pub then_flag : is_flag v s.of.out.by_then
  pub wide : (v s.of.out.value).width.0 ≡ address
  pub gone : Gone (ways s.access) (come s.access)

dead_away : (v : Valuation) (address : ℕ) (ways : ℕ → List Ways) (come : ℕ → ℕ → Bool) (s : Spot) → IsSpot v address ways come s → s.live ≡ false → is_one (v s.of.out.come) ≡ false
dead_away v address ways come s h l = by_come (cases_Bool (is_one (v s.of.out.come)))
  where
    by_come : (is_one (v s.of.out.come) ≡ true) ⊎ (is_one (v s.of.out.come) ≡ false) → is_one (v s.of.out.come) ≡ false
    by_come (inr e) = e
    by_come (inl e) = absurd (false≢true (sym l ∙ h.live_is ∙ come_live (ways s.access) (come s.access) s.node h.gone (sym h.come_is ∙ e)))

not_made : (v : Valuation) (o : Out) → (is_one (v o.by_then) ≡ true → is_one (v o.come) ≡ true) → is_one (v o.come) ≡ false → is_one (v o.by_then) ≡ false
not_made v o h e = by_then (cases_Bool (is_one (v o.by_then)))
  where
    by_then : (is_one (v o.by_then) ≡ true) ⊎ (is_one (v o.by_then) ≡ false) → is_one (v o.by_then) ≡ false
    by_then (inr f) = f
    by_then (inl f) = absurd (false≢true (sym e ∙ h f))

-- of two nodes that a walk comes to, it can come to the later one from the other
one_ahead : (v : Valuation) (address : ℕ) (ways : ℕ → List Ways) (come : ℕ → ℕ → Bool) (x y : Spot) → IsSpot v address ways come x → IsSpot v address ways come y → x.access ≡ y.access → is_one (v x.of.out.come) ≡ true → is_one (v y.of.out.come) ≡ true
    → (is_marked x.ahead y.node || is_marked y.ahead x.node) ≡ true
one_ahead v address ways come x y h k same cx cy = by_order (cases_lt y.node x.node)
  where
    x_comes : come x.access x.node ≡ true
    x_comes = sym h.come_is ∙ cx

    y_comes : come y.access y.node ≡ true
    y_comes = sym k.come_is ∙ cy

    by_order : (y.node < x.node) ⊎ (x.node ≤ y.node) → (is_marked x.ahead y.node || is_marked y.ahead x.node) ≡ true
    by_order (inr l) = or_left (is_marked x.ahead y.node) (is_marked y.ahead x.node) (ap (λ (m : List Bool). is_marked m y.node) h.ahead_is ∙ come_ahead (ways x.access) (come x.access) x.node y.node h.gone x_comes (subst (λ (j : ℕ). come j y.node ≡ true) (sym same) y_comes) l)
    by_order (inl l) = or_right (is_marked x.ahead y.node) (is_marked y.ahead x.node) (ap (λ (m : List Bool). is_marked m x.node) k.ahead_is ∙ come_ahead (ways y.access) (come y.access) y.node x.node k.gone y_comes (subst (λ (j : ℕ). come j x.node ≡ true) same x_comes) (omega (arith, l)))

-- two nodes that can't meet aren't both visited
apart_ways : (v : Valuation) (address : ℕ) (ways : ℕ → List Ways) (come : ℕ → ℕ → Bool) (x y : Spot) → IsSpot v address ways come x → IsSpot v address ways come y → can_meet x y ≡ false → (is_one (v x.of.out.come) && is_one (v y.of.out.come)) ≡ false
apart_ways v address ways come x y h k e = by_come (cases_Bool (is_one (v x.of.out.come) && is_one (v y.of.out.come)))
  where
    both : (x.live && y.live) ≡ false → is_one (v x.of.out.come) ≡ true → is_one (v y.of.out.come) ≡ true → ⊥
    both l cx cy = by_live (and_cases x.live y.live l)
      where
        by_live : (x.live ≡ false) ⊎ (y.live ≡ false) → ⊥
        by_live (inl z) = false≢true (sym (dead_away v address ways come x h z) ∙ cx)
        by_live (inr z) = false≢true (sym (dead_away v address ways come y k z) ∙ cy)

    by_test : ((x.live && y.live) ≡ false) ⊎ ((not (eqb x.access y.access) || (is_marked x.ahead y.node || is_marked y.ahead x.node)) ≡ false) → is_one (v x.of.out.come) ≡ true → is_one (v y.of.out.come) ≡ true → ⊥
    by_test (inl l) cx cy = both l cx cy
    by_test (inr l) cx cy =
        let p = or_parts (not (eqb x.access y.access)) (is_marked x.ahead y.node || is_marked y.ahead x.node) l in
        false≢true (sym p.1 ∙ one_ahead v address ways come x y h k (eqb-true x.access y.access (same_from (eqb x.access y.access) p.0)) cx cy)
      where
        same_from : (b : Bool) → not b ≡ false → b ≡ true
        same_from true z = refl
        same_from false z = absurd (false≢true (sym z))

    by_come : ((is_one (v x.of.out.come) && is_one (v y.of.out.come)) ≡ true) ⊎ ((is_one (v x.of.out.come) && is_one (v y.of.out.come)) ≡ false) → (is_one (v x.of.out.come) && is_one (v y.of.out.come)) ≡ false
    by_come (inr f) = f
    by_come (inl f) = let p = and_parts (is_one (v x.of.out.come)) (is_one (v y.of.out.come)) f in absurd (by_test (and_cases (x.live && y.live) (not (eqb x.access y.access) || (is_marked x.ahead y.node || is_marked y.ahead x.node)) e) p.0 p.1)

-- ---- rows

-- forms that are left out hold
row_wide : {X : Type 0} (v : Valuation) (P : Spot → Type 0) (test : Spot → Bool) (part : Spot → X) (form : X → Form) → ((x : Spot) → P x → test x ≡ false → is_one (form_value v (form (part x))) ≡ true) → (xs : List Spot) → AllByRecursion P xs
    → Hold v (flat_map (λ x. only_if (test x) (form (part x))) xs) → Hold v (map form (map part xs))
row_wide v P test part form k [] h g = tt
row_wide v P test part form k (x ∷ xs) h g =
    let p = AllByRecursion-split (λ (f : Form). is_one (form_value v f) ≡ true) (only_if (test x) (form (part x))) (flat_map (λ x. only_if (test x) (form (part x))) xs) g in
    (by_test (test x) refl p.0, row_wide v P test part form k xs h.1 p.1)
  where
    by_test : (b : Bool) → test x ≡ b → Hold v (only_if b (form (part x))) → is_one (form_value v (form (part x))) ≡ true
    by_test true e q = q.0
    by_test false e q = k x h.0 e

or_first : (b c : Bool) → b ≡ false → (not b || c) ≡ true
or_first b c e = ap (λ (x : Bool). not x || c) e

-- the spots of a list
abbrev pub AreSpots : Valuation → ℕ → (ℕ → List Ways) → (ℕ → ℕ → Bool) → List Spot → Type 0
AreSpots v address ways come xs = AllByRecursion (IsSpot v address ways come) xs

then_apart : (v : Valuation) (x y : Out) → (is_one (v x.by_then) ≡ true → is_one (v x.come) ≡ true) → (is_one (v y.by_then) ≡ true → is_one (v y.come) ≡ true) → (is_one (v x.come) && is_one (v y.come)) ≡ false → (is_one (v x.by_then) && is_one (v y.by_then)) ≡ false
then_apart v x y h k e = by_case (and_cases (is_one (v x.come)) (is_one (v y.come)) e)
  where
    by_case : (is_one (v x.come) ≡ false) ⊎ (is_one (v y.come) ≡ false) → (is_one (v x.by_then) && is_one (v y.by_then)) ≡ false
    by_case (inl f) = and_left (is_one (v x.by_then)) (is_one (v y.by_then)) (not_made v x h f)
    by_case (inr f) = and_right (is_one (v x.by_then)) (is_one (v y.by_then)) (not_made v y k f)

key_apart : (v : Valuation) (x y : Out) → (is_one (v y.by_then) ≡ true → is_one (v y.come) ≡ true) → (is_one (v x.come) && is_one (v y.come)) ≡ false → (is_one (v x.come) && is_one (v y.by_then)) ≡ false
key_apart v x y k e = by_case (and_cases (is_one (v x.come)) (is_one (v y.come)) e)
  where
    by_case : (is_one (v x.come) ≡ false) ⊎ (is_one (v y.come) ≡ false) → (is_one (v x.come) && is_one (v y.by_then)) ≡ false
    by_case (inl f) = and_left (is_one (v x.come)) (is_one (v y.by_then)) f
    by_case (inr f) = and_right (is_one (v x.come)) (is_one (v y.by_then)) (not_made v y k f)

pairs_wide : (v : Valuation) (address : ℕ) (ways : ℕ → List Ways) (come : ℕ → ℕ → Bool) (xs : List Spot) → AreSpots v address ways come xs → Hold v (pair_forms xs) → Hold v (every_pair (map out_of xs))
pairs_wide v address ways come [] h g = tt
pairs_wide v address ways come (x ∷ xs) h g =
    let p = AllByRecursion-split (λ (f : Form). is_one (form_value v f) ≡ true) (flat_map (pair_if x) xs) (pair_forms xs) g in
    AllByRecursion-append (λ (f : Form). is_one (form_value v f) ≡ true) (map (pair_form x.of.out) (map out_of xs)) (every_pair (map out_of xs))
    (row_wide v (IsSpot v address ways come) (can_meet x) out_of (pair_form x.of.out) (λ y k e.
    let none = then_apart v x.of.out y.of.out h.0.comes k.comes (apart_ways v address ways come x y h.0 k e) in
    pair_value v x.of.out y.of.out h.0.then_flag k.then_flag ∙ or_first _ _ (and_left (is_made v x.of.out && is_made v y.of.out) _ none)) xs h.1 p.0)
    (pairs_wide v address ways come xs h.1 p.1)

aparts_wide : (v : Valuation) (a : Access) (ways : ℕ → List Ways) (come : ℕ → ℕ → Bool) (ps ts : List Spot) → AreFit v a → AreSpots v a.address ways come ps → AreSpots v a.address ways come ts → Hold v (apart_forms a ps ts)
    → Hold v (every_apart a (map of_spot ps) (map of_spot ts))
aparts_wide v a ways come [] ts fit h k g = tt
aparts_wide v a ways come (x ∷ ps) ts fit h k g =
    let p = AllByRecursion-split (λ (f : Form). is_one (form_value v f) ≡ true) (flat_map (apart_if a x) ts) (apart_forms a ps ts) g in
    AllByRecursion-append (λ (f : Form). is_one (form_value v f) ≡ true) (map (apart_form a then_of x.of) (map of_spot ts)) (every_apart a (map of_spot ps) (map of_spot ts))
    (row_wide v (IsSpot v a.address ways come) (can_meet x) of_spot (apart_form a then_of x.of) (λ y i e.
    apart_value v a then_of x.of y.of fit (h.0.come_flag, h.0.wide) (i.then_flag, i.wide) ∙ or_first _ _ (key_apart v x.of.out y.of.out i.comes (apart_ways v a.address ways come x y h.0 i e))) ts k p.0)
    (aparts_wide v a ways come ps ts fit h.1 k p.1)

kept_wide : (v : Valuation) (a : Access) (ways : ℕ → List Ways) (come : ℕ → ℕ → Bool) (ps ts : List Spot) (k : KeptRange) → AreFit v a → k.hi ≤ 2 ^ a.address → AreSpots v a.address ways come ps → AreSpots v a.address ways come ts → Hold v (kept_forms a ps ts k)
    → Hold v (every_kept a (map of_spot ps) (map of_spot ts) k)
kept_wide v a ways come ps ts k fit within h i g = by_range (ltb k.lo k.hi) refl g
  where
    one : (key : Out → ℕ) (x : Spot) → k.lo < k.hi → is_flag v (key x.of.out) → IsSpot v a.address ways come x → is_one (v (key x.of.out)) ≡ false → is_one (form_value v (kept_form a k key x.of)) ≡ true
    one key x l f s e = kept_value v a k key x.of fit.one_is fit.range l within (f, s.wide) ∙ ap not (and_left (is_one (v (key x.of.out))) (touches (block_of v x.of) k) e)

    by_range : (b : Bool) → ltb k.lo k.hi ≡ b → Hold v (cond b (flat_map (λ x. only_if x.live (kept_form a k come_of x.of)) ps ++ flat_map (λ x. only_if x.live (kept_form a k then_of x.of)) ts) [])
        → Hold v (cond b (map (kept_form a k come_of) (map of_spot ps) ++ map (kept_form a k then_of) (map of_spot ts)) [])
    by_range false e f = tt
    by_range true e f =
        let l = ltb-true k.lo k.hi e in
        let p = AllByRecursion-split (λ (f : Form). is_one (form_value v f) ≡ true) (flat_map (λ x. only_if x.live (kept_form a k come_of x.of)) ps) (flat_map (λ x. only_if x.live (kept_form a k then_of x.of)) ts) f in
        AllByRecursion-append (λ (f : Form). is_one (form_value v f) ≡ true) (map (kept_form a k come_of) (map of_spot ps)) (map (kept_form a k then_of) (map of_spot ts))
        (row_wide v (IsSpot v a.address ways come) (λ (x : Spot). x.live) of_spot (kept_form a k come_of) (λ x s z. one come_of x l s.come_flag s (dead_away v a.address ways come x s z)) ps h p.0)
        (row_wide v (IsSpot v a.address ways come) (λ (x : Spot). x.live) of_spot (kept_form a k then_of) (λ x s z. one then_of x l s.then_flag s (not_made v x.of.out s.comes (dead_away v a.address ways come x s z))) ts i p.1)

keeps_wide : (v : Valuation) (a : Access) (ways : ℕ → List Ways) (come : ℕ → ℕ → Bool) (ps ts : List Spot) (ks : List KeptRange) → AreFit v a → AllByRecursion (λ (k : KeptRange). k.hi ≤ 2 ^ a.address) ks → AreSpots v a.address ways come ps → AreSpots v a.address ways come ts
    → Hold v (flat_map (kept_forms a ps ts) ks) → Hold v (flat_map (every_kept a (map of_spot ps) (map of_spot ts)) ks)
keeps_wide v a ways come ps ts [] fit w h i g = tt
keeps_wide v a ways come ps ts (k ∷ ks) fit w h i g =
    let p = AllByRecursion-split (λ (f : Form). is_one (form_value v f) ≡ true) (kept_forms a ps ts k) (flat_map (kept_forms a ps ts) ks) g in
    AllByRecursion-append (λ (f : Form). is_one (form_value v f) ≡ true) (every_kept a (map of_spot ps) (map of_spot ts) k) (flat_map (every_kept a (map of_spot ps) (map of_spot ts)) ks)
    (kept_wide v a ways come ps ts k fit w.0 h i p.0) (keeps_wide v a ways come ps ts ks fit w.1 h i p.1)

-- ---- pages of two accesses

-- what the form of two pages tells
abbrev Tests : Valuation → ℕ → (Sized → Sized → Form) → Type 0
Tests v address form = (x y : Sized) → is_flag v x.out.come → is_flag v y.out.come → (v x.out.value).width.0 ≡ address → (v y.out.value).width.0 ≡ address → (is_one (v x.out.come) && is_one (v y.out.come)) ≡ false → is_one (form_value v (form x y)) ≡ true

pages_wide : (v : Valuation) (address : ℕ) (ways : ℕ → List Ways) (come : ℕ → ℕ → Bool) (form : Sized → Sized → Form) (xs ys : List Spot) → Tests v address form → AreSpots v address ways come xs → AreSpots v address ways come ys
    → Hold v (flat_map (λ x. flat_map (page_if form x) ys) xs) → Hold v (flat_map (λ x. map (form x) (map of_spot ys)) (map of_spot xs))
pages_wide v address ways come form [] ys tests h k g = tt
pages_wide v address ways come form (x ∷ xs) ys tests h k g =
    let p = AllByRecursion-split (λ (f : Form). is_one (form_value v f) ≡ true) (flat_map (page_if form x) ys) (flat_map (λ x. flat_map (page_if form x) ys) xs) g in
    AllByRecursion-append (λ (f : Form). is_one (form_value v f) ≡ true) (map (form x.of) (map of_spot ys)) (flat_map (λ x. map (form x) (map of_spot ys)) (map of_spot xs))
    (row_wide v (IsSpot v address ways come) (λ (y : Spot). x.live && y.live) of_spot (form x.of) (λ y i e. tests x.of y.of h.0.come_flag i.come_flag h.0.wide i.wide (none y i (and_cases x.live y.live e))) ys k p.0)
    (pages_wide v address ways come form xs ys tests h.1 k p.1)
  where
    none : (y : Spot) → IsSpot v address ways come y → (x.live ≡ false) ⊎ (y.live ≡ false) → (is_one (v x.of.out.come) && is_one (v y.of.out.come)) ≡ false
    none y i (inl e) = and_left (is_one (v x.of.out.come)) (is_one (v y.of.out.come)) (dead_away v address ways come x h.0 e)
    none y i (inr e) = and_right (is_one (v x.of.out.come)) (is_one (v y.of.out.come)) (dead_away v address ways come y i e)

-- ---- the spots of a list

abbrev pub comes_in : Valuation → ModelData → List (List Out) → ℕ → ℕ → Bool
comes_in v d oss k n = visits (told v (steps d) (outs_of oss k) 0) n

spot_is : (v : Valuation) (d : ModelData) (r : Requests) (oss : List (List Out)) (k n exponent : ℕ) (p : ActData) (o : Out) → AreAsked v d r oss → k < length oss → is_one (v o.come) ≡ comes_in v d oss k n → IsFlagged v d.address p o → (v o.value).width.0 ≡ d.address
    → IsSpot v d.address (access_ways d r) (comes_in v d oss) (spot_at (access_ways d r k) k n exponent o)
spot_is v d r oss k n exponent p o h l e f w = record { live_is = refl; ahead_is = refl; come_is = e; comes = f.comes; come_flag = f.come_is; then_flag = f.then_is; wide = w; gone = access_gone v d r oss k h l }

-- the outs of a walk from node n on tell what it visits
abbrev Tell : Valuation → ModelData → List (List Out) → ℕ → List Out → ℕ → Type 0
Tell v d oss k os n = (j : ℕ) → j < length os → is_one (v (out_at os j).come) ≡ comes_in v d oss k (n + j)

tell_first : (v : Valuation) (d : ModelData) (oss : List (List Out)) (k : ℕ) (o : Out) (os : List Out) (n : ℕ) → Tell v d oss k (o ∷ os) n → is_one (v o.come) ≡ comes_in v d oss k n
tell_first v d oss k o os n t = let z : n + 0 ≡ n = omega arith in t 0 (omega arith) ∙ ap (comes_in v d oss k) z

tell_next : (v : Valuation) (d : ModelData) (oss : List (List Out)) (k : ℕ) (o : Out) (os : List Out) (n : ℕ) → Tell v d oss k (o ∷ os) n → Tell v d oss k os (n + 1)
tell_next v d oss k o os n t j l = let z : n + suc j ≡ n + 1 + j = omega arith in t (suc j) (omega (arith, l)) ∙ ap (comes_in v d oss k) z

page_spots_are : (v : Valuation) (d : ModelData) (r : Requests) (oss : List (List Out)) (k : ℕ) (ps : List ActData) (os : List Out) (n : ℕ) → AreAsked v d r oss → k < length oss → Tell v d oss k os n → AllOuts (IsFlagged v d.address) ps os
    → AreSpots v d.address (access_ways d r) (comes_in v d oss) (page_spots (access_ways d r k) k ps os n)
page_spots_are v d r oss k [] os n h l t f = tt
page_spots_are v d r oss k (bind x e to ∷ ps) [] n h l t f = tt
page_spots_are v d r oss k (read x e g t2 o2 ∷ ps) [] n h l t f = tt
page_spots_are v d r oss k (branch e t2 o2 ∷ ps) [] n h l t f = tt
page_spots_are v d r oss k (fault c ∷ ps) [] n h l t f = tt
page_spots_are v d r oss k (done e p ∷ ps) [] n h l t f = tt
page_spots_are v d r oss k (bind x e to ∷ ps) (o ∷ os) n h l t f = page_spots_are v d r oss k ps os (n + 1) h l (tell_next v d oss k o os n t) f.1
page_spots_are v d r oss k (read x e g t2 o2 ∷ ps) (o ∷ os) n h l t f = page_spots_are v d r oss k ps os (n + 1) h l (tell_next v d oss k o os n t) f.1
page_spots_are v d r oss k (branch e t2 o2 ∷ ps) (o ∷ os) n h l t f = page_spots_are v d r oss k ps os (n + 1) h l (tell_next v d oss k o os n t) f.1
page_spots_are v d r oss k (fault c ∷ ps) (o ∷ os) n h l t f = page_spots_are v d r oss k ps os (n + 1) h l (tell_next v d oss k o os n t) f.1
page_spots_are v d r oss k (done e p ∷ ps) (o ∷ os) n h l t f =
    (spot_is v d r oss k n p (done e p) o h l (tell_first v d oss k o os n t) f.0 (f.0.wide refl), page_spots_are v d r oss k ps os (n + 1) h l (tell_next v d oss k o os n t) f.1)

read_spots_are : (v : Valuation) (d : ModelData) (r : Requests) (oss : List (List Out)) (k : ℕ) (ps : List ActData) (os : List Out) (n : ℕ) → AreAsked v d r oss → k < length oss → Tell v d oss k os n → AllOuts (IsFlagged v d.address) ps os
    → AreSpots v d.address (access_ways d r) (comes_in v d oss) (read_spots (access_ways d r k) k ps os n)
read_spots_are v d r oss k [] os n h l t f = tt
read_spots_are v d r oss k (bind x e to ∷ ps) [] n h l t f = tt
read_spots_are v d r oss k (read x e g t2 o2 ∷ ps) [] n h l t f = tt
read_spots_are v d r oss k (branch e t2 o2 ∷ ps) [] n h l t f = tt
read_spots_are v d r oss k (fault c ∷ ps) [] n h l t f = tt
read_spots_are v d r oss k (done e p ∷ ps) [] n h l t f = tt
read_spots_are v d r oss k (bind x e to ∷ ps) (o ∷ os) n h l t f = read_spots_are v d r oss k ps os (n + 1) h l (tell_next v d oss k o os n t) f.1
read_spots_are v d r oss k (branch e t2 o2 ∷ ps) (o ∷ os) n h l t f = read_spots_are v d r oss k ps os (n + 1) h l (tell_next v d oss k o os n t) f.1
read_spots_are v d r oss k (fault c ∷ ps) (o ∷ os) n h l t f = read_spots_are v d r oss k ps os (n + 1) h l (tell_next v d oss k o os n t) f.1
read_spots_are v d r oss k (done e p ∷ ps) (o ∷ os) n h l t f = read_spots_are v d r oss k ps os (n + 1) h l (tell_next v d oss k o os n t) f.1
read_spots_are v d r oss k (read x e g t2 o2 ∷ ps) (o ∷ os) n h l t f =
    (spot_is v d r oss k n g (read x e g t2 o2) o h l (tell_first v d oss k o os n t) f.0 (f.0.wide refl), read_spots_are v d r oss k ps os (n + 1) h l (tell_next v d oss k o os n t) f.1)

tells_visits : (v : Valuation) (d : ModelData) (r : Requests) (oss : List (List Out)) (k : ℕ) → AreAsked v d r oss → k < length oss → Tell v d oss k (outs_of oss k) 0
tells_visits v d r oss k h l j b =
    let own = nodes_at v d oss k h.nodes l in
    let c = own.count in
    sym (visited v (steps d) (outs_of oss k) 0 j c (omega (arith, b, c)))

-- the accesses from number k on
abbrev pub AreFrom : List (List Out) → List (List Out) → ℕ → Type 0
AreFrom all oss k = (k + length oss ≡ length all) × ((j : ℕ) → j < length oss → outs_of oss j ≡ outs_of all (k + j))

pub from_next : (all : List (List Out)) (os : List Out) (oss : List (List Out)) (k : ℕ) → AreFrom all (os ∷ oss) k → AreFrom all oss (k + 1)
from_next all os oss k h = (let c = h.0 in omega (arith, c), λ j l. let z : k + suc j ≡ k + 1 + j = omega arith in h.1 (suc j) (omega (arith, l)) ∙ ap (outs_of all) z)

pub from_first : (all : List (List Out)) (os : List Out) (oss : List (List Out)) (k : ℕ) → AreFrom all (os ∷ oss) k → os ≡ outs_of all k
from_first all os oss k h = let z : k + 0 ≡ k = omega arith in h.1 0 (omega arith) ∙ ap (outs_of all) z

all_pages_are : (v : Valuation) (d : ModelData) (r : Requests) (all oss : List (List Out)) (k : ℕ) → AreAsked v d r all → AreFrom all oss k → AreSpots v d.address (access_ways d r) (comes_in v d all) (all_pages d r k oss)
all_pages_are v d r all [] k h f = tt
all_pages_are v d r all (os ∷ oss) k h f =
    let l : k < length all = (let c = f.0 in omega (arith, c)) in
    let own = nodes_at v d all k h.nodes l in
    AllByRecursion-append (IsSpot v d.address (access_ways d r) (comes_in v d all)) (page_spots (access_ways d r k) k (steps d) os 0) (all_pages d r (k + 1) oss)
    (subst (λ (x : List Out). AreSpots v d.address (access_ways d r) (comes_in v d all) (page_spots (access_ways d r k) k (steps d) x 0)) (sym (from_first all os oss k f)) (page_spots_are v d r all k (steps d) (outs_of all k) 0 h l (tells_visits v d r all k h l) own.flagged))
    (all_pages_are v d r all oss (k + 1) h (from_next all os oss k f))

all_reads_are : (v : Valuation) (d : ModelData) (r : Requests) (all oss : List (List Out)) (k : ℕ) → AreAsked v d r all → AreFrom all oss k → AreSpots v d.address (access_ways d r) (comes_in v d all) (all_reads d r k oss)
all_reads_are v d r all [] k h f = tt
all_reads_are v d r all (os ∷ oss) k h f =
    let l : k < length all = (let c = f.0 in omega (arith, c)) in
    let own = nodes_at v d all k h.nodes l in
    AllByRecursion-append (IsSpot v d.address (access_ways d r) (comes_in v d all)) (read_spots (access_ways d r k) k (steps d) os 0) (all_reads d r (k + 1) oss)
    (subst (λ (x : List Out). AreSpots v d.address (access_ways d r) (comes_in v d all) (read_spots (access_ways d r k) k (steps d) x 0)) (sym (from_first all os oss k f)) (read_spots_are v d r all k (steps d) (outs_of all k) 0 h l (tells_visits v d r all k h l) own.flagged))
    (all_reads_are v d r all oss (k + 1) h (from_next all os oss k f))

-- ---- the whole

link_wide : (v : Valuation) (d : ModelData) (r : Requests) (oss : List (List Out)) (form : Sized → Sized → Form) (j k : ℕ) → AreAsked v d r oss → j < length oss → k < length oss → Tests v d.address form
    → Hold v (pages_forms d form (outs_of oss j) (outs_of oss k) (access_pages d r oss j) (access_pages d r oss k)) → Hold v (every_page d form (outs_of oss j) (outs_of oss k))
link_wide v d r oss form j k h l m tests g =
    let P = λ (f : Form). is_one (form_value v f) ≡ true in
    let xs = access_pages d r oss j in
    let ys = access_pages d r oss k in
    let one = ends_only ends_done (steps d) (outs_of oss j) in
    let other = ends_only ends_done (steps d) (outs_of oss k) in
    let rows = flat_map (λ (x : Spot). flat_map (page_if form x) ys) xs in
    let p = AllByRecursion-split P one (other ++ rows) g in
    let q = AllByRecursion-split P other rows p.1 in
    let own = nodes_at v d oss j h.nodes l in
    let others = nodes_at v d oss k h.nodes m in
    let xs_are = page_spots_are v d r oss j (steps d) (outs_of oss j) 0 h l (tells_visits v d r oss j h l) own.flagged in
    let ys_are = page_spots_are v d r oss k (steps d) (outs_of oss k) 0 h m (tells_visits v d r oss k h m) others.flagged in
    let wide = pages_wide v d.address (access_ways d r) (comes_in v d oss) form xs ys tests xs_are ys_are q.1 in
    let e : flat_map (λ (x : Sized). map (form x) (map of_spot ys)) (map of_spot xs) ≡ flat_map (λ (x : Sized). map (form x) (pages_at (steps d) (outs_of oss k))) (pages_at (steps d) (outs_of oss j)) =
    ap (λ (z : List Sized). flat_map (λ (x : Sized). map (form x) (map of_spot ys)) z) (pages_spotted (access_ways d r j) j (steps d) (outs_of oss j) 0)
    ∙ ap (λ (z : List Sized). flat_map (λ (x : Sized). map (form x) z) (pages_at (steps d) (outs_of oss j))) (pages_spotted (access_ways d r k) k (steps d) (outs_of oss k) 0) in
    let all = flat_map (λ (x : Sized). map (form x) (pages_at (steps d) (outs_of oss k))) (pages_at (steps d) (outs_of oss j)) in
    AllByRecursion-append P one (other ++ all) p.0 (AllByRecursion-append P other all q.0 (subst (λ (z : List Form). Hold v z) e wide))

one_link_wide : (v : Valuation) (d : ModelData) (r : Requests) (oss : List (List Out)) (link : Link) → AreAsked v d r oss → AreFit v (list_access d r) → IsLink d (length oss) link → Hold v (link_forms d r (list_access d r) oss link) → Hold v (every_link d (list_access d r) oss link)
one_link_wide v d r oss (ShareTable s t) h fit i g = g
one_link_wide v d r oss (ShareCell s t) h fit i g = g
one_link_wide v d r oss (ApartTable s t) h fit i g = g
one_link_wide v d r oss (SharePage j k) h fit i g =
    link_wide v d r oss (one_page (list_access d r)) j k h i.0 i.1 (λ x y f f2 w w2 e. one_page_value v (list_access d r) x y fit (f, w) (f2, w2) ∙ or_first _ _ e) g
one_link_wide v d r oss (ApartPage j k) h fit i g =
    link_wide v d r oss (apart_form (list_access d r) come_of) j k h i.0 i.1 (λ x y f f2 w w2 e. apart_value v (list_access d r) come_of x y fit (f, w) (f2, w2) ∙ or_first _ _ e) g

links_wide : (v : Valuation) (d : ModelData) (r : Requests) (oss : List (List Out)) (links : List Link) → AreAsked v d r oss → AreFit v (list_access d r) → AllByRecursion (IsLink d (length oss)) links → Hold v (flat_map (link_forms d r (list_access d r) oss) links)
    → Hold v (flat_map (every_link d (list_access d r) oss) links)
links_wide v d r oss [] h fit i g = tt
links_wide v d r oss (l ∷ ls) h fit i g =
    let p = AllByRecursion-split (λ (f : Form). is_one (form_value v f) ≡ true) (link_forms d r (list_access d r) oss l) (flat_map (link_forms d r (list_access d r) oss) ls) g in
    AllByRecursion-append (λ (f : Form). is_one (form_value v f) ≡ true) (every_link d (list_access d r) oss l) (flat_map (every_link d (list_access d r) oss) ls) (one_link_wide v d r oss l h fit i.0 p.0) (links_wide v d r oss ls h fit i.1 p.1)

-- where the claims of a list hold, those on all nodes do
pub claims_wide : (v : Valuation) (d : ModelData) (r : Requests) (oss : List (List Out)) → AreAsked v d r oss → AreFit v (list_access d r) → AllByRecursion (λ (k : KeptRange). k.hi ≤ 2 ^ d.address) r.kept → Hold v (claim_forms d r oss) → Hold v (every_claim d r oss)
claims_wide v d r oss h fit within g =
    let P = λ (f : Form). is_one (form_value v f) ≡ true in
    let a = list_access d r in
    let ps = all_pages d r 0 oss in
    let ts = all_reads d r 0 oss in
    let from : AreFrom oss oss 0 = (omega arith, λ j l. let z : j ≡ 0 + j = omega arith in ap (outs_of oss) z) in
    let ps_are = all_pages_are v d r oss oss 0 h from in
    let ts_are = all_reads_are v d r oss oss 0 h from in
    let wishes = wish_forms d r 0 r.accesses oss in
    let links = flat_map (link_forms d r a oss) r.links in
    let every = flat_map (every_link d a oss) r.links in
    let p = AllByRecursion-split P (pair_forms ts) (list_forms d r oss) g in
    let q = AllByRecursion-split P wishes (links ++ (page_forms d r oss ++ keep_forms d r oss)) p.1 in
    let x = AllByRecursion-split P links (page_forms d r oss ++ keep_forms d r oss) q.1 in
    let y = AllByRecursion-split P (page_forms d r oss) (keep_forms d r oss) x.1 in
    let pairs = subst (λ (l : List Out). Hold v (every_pair l)) (all_reads_spotted d r 0 oss) (pairs_wide v d.address (access_ways d r) (comes_in v d oss) ts ts_are p.0) in
    let blocks = subst (λ (l : List Sized). Hold v (every_apart a (pages_in d oss) l)) (all_tables_spotted d r 0 oss) (subst (λ (l : List Sized). Hold v (every_apart a l (map of_spot ts))) (all_pages_spotted d r 0 oss) (aparts_wide v a (access_ways d r) (comes_in v d oss) ps ts fit ps_are ts_are y.0)) in
    let keeps = subst (λ (l : List Sized). Hold v (flat_map (every_kept a (pages_in d oss) l) r.kept)) (all_tables_spotted d r 0 oss) (subst (λ (l : List Sized). Hold v (flat_map (every_kept a l (map of_spot ts)) r.kept)) (all_pages_spotted d r 0 oss) (keeps_wide v a (access_ways d r) (comes_in v d oss) ps ts r.kept fit within ps_are ts_are y.1)) in
    AllByRecursion-append P (every_pair (reads_among d oss)) (every_list d r oss) pairs
    (AllByRecursion-append P wishes (every ++ (every_block d r oss ++ every_keep d r oss)) q.0
    (AllByRecursion-append P every (every_block d r oss ++ every_keep d r oss) (links_wide v d r oss r.links h fit h.links x.0)
    (AllByRecursion-append P (every_block d r oss) (every_keep d r oss) blocks keeps)))
