-- The claims on all pairs of nodes: what the claims of a list come to, of which those on nodes that no walk comes to are left out.
use Rattle.std.proofs.Common.{◌≡◌, ℕ, ◌≤◌, ◌+◌, Bool, true, false, ◌&&◌, cond, ltb, List, [], ◌∷◌, ◌++◌, map, refl, ap, ◌∙◌, subst, arith}
use Rattle.std.specs.List.{flat_map, AllByRecursion}
use Rattle.std.proofs.lemmas.List.{map-append}
use Rattle.dt_lemmas.proofs.Equalities.{two}
use Rattle.dt_lemmas.proofs.Lists.{AllByRecursion-append, AllByRecursion-split}
use Rattle.dt_model.specs.ModelData.{ModelData, ActData, bind, read, branch, fault, done}
use Rattle.dt_model.specs.Faults.{steps}
use Rattle.dt_request.specs.declared.list.KeptRange.{KeptRange}
use Rattle.dt_request.specs.declared.list.Link.{Link}
use Rattle.dt_request.specs.declared.list.Link.TheVariants.{ShareTable, ShareCell, SharePage, ApartTable, ApartPage}
use Rattle.dt_request.specs.declared.list.Requests.{Requests}
use Rattle.dt_forms.specs.Forms.{Form}
use Rattle.dt_forms.proofs.Fine.{forms_size, size_append}
use Rattle.dt_table.specs.declared.out.Out.{Out}
use Rattle.dt_reach.specs.declared.ways.Ways.{Ways}
use Rattle.dt_table.specs.Passing.{Access}
use Rattle.dt_table.specs.Claims.{ends_only, pair_form, reads_of}
use Rattle.dt_ways.specs.Ends.{ends_done}
use Rattle.dt_table.specs.Apart.{Sized, apart_form, pages_at, tables_at}
use Rattle.dt_table.specs.Kept.{kept_form, kept_forms}
use Rattle.dt_table.specs.Links.{outs_of, side_at, reads_forms, one_block, apart_blocks, one_cell, one_page, page_if, pages_forms, access_pages, link_forms}
use Rattle.dt_table.specs.Pairs.{pair_if, pair_forms, apart_if, apart_forms}
use Rattle.dt_table.specs.Spots.{Spot, can_meet, only_if, read_spots, page_spots, all_reads, all_pages}
use Rattle.dt_ways.specs.Ways.{access_ways}
use Rattle.dt_table.specs.Table.{list_access, wish_forms, page_forms, keep_forms, list_forms, claim_forms}

-- ---- all pairs

abbrev pub every_pair : List Out → List Form
every_pair [] = []
every_pair (o ∷ os) = map (pair_form o) os ++ every_pair os

abbrev pub every_apart : Access → List Sized → List Sized → List Form
every_apart a pages tables = flat_map (λ p. map (apart_form a (λ o. o.by_then) p) tables) pages

abbrev pub every_kept : Access → List Sized → List Sized → KeptRange → List Form
every_kept a pages tables k = cond (ltb k.lo k.hi) (map (kept_form a k (λ o. o.come)) pages ++ map (kept_form a k (λ o. o.by_then)) tables) []

abbrev pub every_page : ModelData → (Sized → Sized → Form) → List Out → List Out → List Form
every_page d form os others =
    ends_only ends_done (steps d) os ++ (ends_only ends_done (steps d) others ++ flat_map (λ x. map (form x) (pages_at (steps d) others)) (pages_at (steps d) os))

abbrev pub every_link : ModelData → Access → List (List Out) → Link → List Form
every_link d a oss (ShareTable s t) = reads_forms (one_block a) (side_at d oss s) (side_at d oss t)
every_link d a oss (ShareCell s t) = reads_forms one_cell (side_at d oss s) (side_at d oss t)
every_link d a oss (SharePage j k) = every_page d (one_page a) (outs_of oss j) (outs_of oss k)
every_link d a oss (ApartTable s t) = reads_forms (apart_blocks a) (side_at d oss s) (side_at d oss t)
every_link d a oss (ApartPage j k) = every_page d (apart_form a (λ o. o.come)) (outs_of oss j) (outs_of oss k)

-- ---- those of a list

abbrev pub pages_in : ModelData → List (List Out) → List Sized
pages_in d oss = flat_map (pages_at (steps d)) oss

abbrev pub tables_in : ModelData → List (List Out) → List Sized
tables_in d oss = flat_map (tables_at (steps d)) oss

abbrev pub reads_among : ModelData → List (List Out) → List Out
reads_among d oss = flat_map (reads_of (steps d)) oss

abbrev pub every_block : ModelData → Requests → List (List Out) → List Form
every_block d r oss = every_apart (list_access d r) (pages_in d oss) (tables_in d oss)

abbrev pub every_keep : ModelData → Requests → List (List Out) → List Form
every_keep d r oss = flat_map (every_kept (list_access d r) (pages_in d oss) (tables_in d oss)) r.kept

abbrev pub every_list : ModelData → Requests → List (List Out) → List Form
every_list d r oss = wish_forms d r 0 r.accesses oss ++ (flat_map (every_link d (list_access d r) oss) r.links ++ (every_block d r oss ++ every_keep d r oss))

abbrev pub every_claim : ModelData → Requests → List (List Out) → List Form
every_claim d r oss = every_pair (reads_among d oss) ++ every_list d r oss

-- ---- parts of lists of forms

-- what holds of each form of the whole holds of each of the part, which is no larger
pub record IsPart (xs ys : List Form) : Type 1 where
  pub all : (P : Form → Type 0) → AllByRecursion P ys → AllByRecursion P xs
  pub most : forms_size xs ≤ forms_size ys

part_same : (xs : List Form) → IsPart xs xs
part_same xs = record { all = λ P h. h; most = omega arith }

part_append : (xs ys us vs : List Form) → IsPart xs us → IsPart ys vs → IsPart (xs ++ ys) (us ++ vs)
part_append xs ys us vs p q = record {
  all = λ P h. let s = AllByRecursion-split P us vs h in AllByRecursion-append P xs ys (p.all P s.0) (q.all P s.1);
  most = let a = size_append xs ys in let b = size_append us vs in let m = p.most in let n = q.most in omega (arith, a, b, m, n);
}

part_only : (b : Bool) (f : Form) → IsPart (only_if b f) (f ∷ [])
part_only true f = part_same (f ∷ [])
part_only false f = record { all = λ P h. tt; most = omega arith }

part_row : {X : Type 0} (test : Spot → Bool) (part : Spot → X) (form : X → Form) (xs : List Spot) → IsPart (flat_map (λ x. only_if (test x) (form (part x))) xs) (map form (map part xs))
part_row test part form [] = part_same []
part_row test part form (x ∷ xs) = part_append (only_if (test x) (form (part x))) (flat_map (λ x. only_if (test x) (form (part x))) xs) (form (part x) ∷ []) (map form (map part xs)) (part_only (test x) (form (part x))) (part_row test part form xs)

part_each : {X : Type 0} (f g : X → List Form) → ((x : X) → IsPart (f x) (g x)) → (xs : List X) → IsPart (flat_map f xs) (flat_map g xs)
part_each f g h [] = part_same []
part_each f g h (x ∷ xs) = part_append (f x) (flat_map f xs) (g x) (flat_map g xs) (h x) (part_each f g h xs)

-- ---- the parts of a list's claims

abbrev pub of_spot : Spot → Sized
of_spot s = s.of

abbrev pub out_of : Spot → Out
out_of s = s.of.out

pub part_pairs : (xs : List Spot) → IsPart (pair_forms xs) (every_pair (map out_of xs))
part_pairs [] = part_same []
part_pairs (x ∷ xs) = part_append (flat_map (pair_if x) xs) (pair_forms xs) (map (pair_form x.of.out) (map out_of xs)) (every_pair (map out_of xs)) (part_row (can_meet x) out_of (pair_form x.of.out) xs) (part_pairs xs)

pub part_aparts : (a : Access) (ps ts : List Spot) → IsPart (apart_forms a ps ts) (every_apart a (map of_spot ps) (map of_spot ts))
part_aparts a [] ts = part_same []
part_aparts a (p ∷ ps) ts =
    part_append (flat_map (apart_if a p) ts) (apart_forms a ps ts) (map (apart_form a (λ (o : Out). o.by_then) p.of) (map of_spot ts)) (every_apart a (map of_spot ps) (map of_spot ts))
    (part_row (can_meet p) of_spot (apart_form a (λ (o : Out). o.by_then) p.of) ts) (part_aparts a ps ts)

pub part_kept : (a : Access) (ps ts : List Spot) (k : KeptRange) → IsPart (kept_forms a ps ts k) (every_kept a (map of_spot ps) (map of_spot ts) k)
part_kept a ps ts k = by_range (ltb k.lo k.hi)
  where
    by_range : (b : Bool) → IsPart (cond b (flat_map (λ x. only_if x.live (kept_form a k (λ (o : Out). o.come) x.of)) ps ++ flat_map (λ x. only_if x.live (kept_form a k (λ (o : Out). o.by_then) x.of)) ts) []) (cond b (map (kept_form a k (λ (o : Out). o.come)) (map of_spot ps) ++ map (kept_form a k (λ (o : Out). o.by_then)) (map of_spot ts)) [])
    by_range true =
        part_append (flat_map (λ x. only_if x.live (kept_form a k (λ (o : Out). o.come) x.of)) ps) (flat_map (λ x. only_if x.live (kept_form a k (λ (o : Out). o.by_then) x.of)) ts) (map (kept_form a k (λ (o : Out). o.come)) (map of_spot ps)) (map (kept_form a k (λ (o : Out). o.by_then)) (map of_spot ts))
        (part_row (λ (x : Spot). x.live) of_spot (kept_form a k (λ (o : Out). o.come)) ps) (part_row (λ (x : Spot). x.live) of_spot (kept_form a k (λ (o : Out). o.by_then)) ts)
    by_range false = part_same []

part_pages : (form : Sized → Sized → Form) (xs ys : List Spot) → IsPart (flat_map (λ x. flat_map (page_if form x) ys) xs) (flat_map (λ x. map (form x) (map of_spot ys)) (map of_spot xs))
part_pages form [] ys = part_same []
part_pages form (x ∷ xs) ys =
    part_append (flat_map (page_if form x) ys) (flat_map (λ x. flat_map (page_if form x) ys) xs) (map (form x.of) (map of_spot ys)) (flat_map (λ x. map (form x) (map of_spot ys)) (map of_spot xs))
    (part_row (λ (y : Spot). x.live && y.live) of_spot (form x.of) ys) (part_pages form xs ys)

-- ---- spots stand for all nodes of their kind

pub pages_spotted : (ws : List Ways) (k : ℕ) (ps : List ActData) (os : List Out) (n : ℕ) → map of_spot (page_spots ws k ps os n) ≡ pages_at ps os
pages_spotted ws k [] os n = refl
pages_spotted ws k (bind x e to ∷ ps) [] n = refl
pages_spotted ws k (read x e g t f ∷ ps) [] n = refl
pages_spotted ws k (branch e t f ∷ ps) [] n = refl
pages_spotted ws k (fault c ∷ ps) [] n = refl
pages_spotted ws k (done e p ∷ ps) [] n = refl
pages_spotted ws k (bind x e to ∷ ps) (o ∷ os) n = pages_spotted ws k ps os (n + 1)
pages_spotted ws k (read x e g t f ∷ ps) (o ∷ os) n = pages_spotted ws k ps os (n + 1)
pages_spotted ws k (branch e t f ∷ ps) (o ∷ os) n = pages_spotted ws k ps os (n + 1)
pages_spotted ws k (fault c ∷ ps) (o ∷ os) n = pages_spotted ws k ps os (n + 1)
pages_spotted ws k (done e p ∷ ps) (o ∷ os) n = ap (λ (l : List Sized). record { exponent = p; out = o } ∷ l) (pages_spotted ws k ps os (n + 1))

pub tables_spotted : (ws : List Ways) (k : ℕ) (ps : List ActData) (os : List Out) (n : ℕ) → map of_spot (read_spots ws k ps os n) ≡ tables_at ps os
tables_spotted ws k [] os n = refl
tables_spotted ws k (bind x e to ∷ ps) [] n = refl
tables_spotted ws k (read x e g t f ∷ ps) [] n = refl
tables_spotted ws k (branch e t f ∷ ps) [] n = refl
tables_spotted ws k (fault c ∷ ps) [] n = refl
tables_spotted ws k (done e p ∷ ps) [] n = refl
tables_spotted ws k (bind x e to ∷ ps) (o ∷ os) n = tables_spotted ws k ps os (n + 1)
tables_spotted ws k (branch e t f ∷ ps) (o ∷ os) n = tables_spotted ws k ps os (n + 1)
tables_spotted ws k (fault c ∷ ps) (o ∷ os) n = tables_spotted ws k ps os (n + 1)
tables_spotted ws k (done e p ∷ ps) (o ∷ os) n = tables_spotted ws k ps os (n + 1)
tables_spotted ws k (read x e g t f ∷ ps) (o ∷ os) n = ap (λ (l : List Sized). record { exponent = g; out = o } ∷ l) (tables_spotted ws k ps os (n + 1))

pub reads_spotted : (ws : List Ways) (k : ℕ) (ps : List ActData) (os : List Out) (n : ℕ) → map out_of (read_spots ws k ps os n) ≡ reads_of ps os
reads_spotted ws k [] os n = refl
reads_spotted ws k (bind x e to ∷ ps) [] n = refl
reads_spotted ws k (read x e g t f ∷ ps) [] n = refl
reads_spotted ws k (branch e t f ∷ ps) [] n = refl
reads_spotted ws k (fault c ∷ ps) [] n = refl
reads_spotted ws k (done e p ∷ ps) [] n = refl
reads_spotted ws k (bind x e to ∷ ps) (o ∷ os) n = reads_spotted ws k ps os (n + 1)
reads_spotted ws k (branch e t f ∷ ps) (o ∷ os) n = reads_spotted ws k ps os (n + 1)
reads_spotted ws k (fault c ∷ ps) (o ∷ os) n = reads_spotted ws k ps os (n + 1)
reads_spotted ws k (done e p ∷ ps) (o ∷ os) n = reads_spotted ws k ps os (n + 1)
reads_spotted ws k (read x e g t f ∷ ps) (o ∷ os) n = ap (λ (l : List Out). o ∷ l) (reads_spotted ws k ps os (n + 1))

pub all_pages_spotted : (d : ModelData) (r : Requests) (k : ℕ) (oss : List (List Out)) → map of_spot (all_pages d r k oss) ≡ pages_in d oss
all_pages_spotted d r k [] = refl
all_pages_spotted d r k (os ∷ oss) =
    let ws = access_ways d r k in
    map-append of_spot (page_spots ws k (steps d) os 0) (all_pages d r (k + 1) oss)
    ∙ ap (λ (l : List Sized). l ++ map of_spot (all_pages d r (k + 1) oss)) (pages_spotted ws k (steps d) os 0) ∙ ap (λ (l : List Sized). pages_at (steps d) os ++ l) (all_pages_spotted d r (k + 1) oss)

pub all_tables_spotted : (d : ModelData) (r : Requests) (k : ℕ) (oss : List (List Out)) → map of_spot (all_reads d r k oss) ≡ tables_in d oss
all_tables_spotted d r k [] = refl
all_tables_spotted d r k (os ∷ oss) =
    let ws = access_ways d r k in
    map-append of_spot (read_spots ws k (steps d) os 0) (all_reads d r (k + 1) oss)
    ∙ ap (λ (l : List Sized). l ++ map of_spot (all_reads d r (k + 1) oss)) (tables_spotted ws k (steps d) os 0) ∙ ap (λ (l : List Sized). tables_at (steps d) os ++ l) (all_tables_spotted d r (k + 1) oss)

pub all_reads_spotted : (d : ModelData) (r : Requests) (k : ℕ) (oss : List (List Out)) → map out_of (all_reads d r k oss) ≡ reads_among d oss
all_reads_spotted d r k [] = refl
all_reads_spotted d r k (os ∷ oss) =
    let ws = access_ways d r k in
    map-append out_of (read_spots ws k (steps d) os 0) (all_reads d r (k + 1) oss)
    ∙ ap (λ (l : List Out). l ++ map out_of (all_reads d r (k + 1) oss)) (reads_spotted ws k (steps d) os 0) ∙ ap (λ (l : List Out). reads_of (steps d) os ++ l) (all_reads_spotted d r (k + 1) oss)

-- ---- the whole

part_as : (xs ys zs : List Form) → ys ≡ zs → IsPart xs ys → IsPart xs zs
part_as xs ys zs e p = subst (λ (l : List Form). IsPart xs l) e p

page_part : (d : ModelData) (r : Requests) (form : Sized → Sized → Form) (oss : List (List Out)) (j k : ℕ) → IsPart (pages_forms d form (outs_of oss j) (outs_of oss k) (access_pages d r oss j) (access_pages d r oss k)) (every_page d form (outs_of oss j) (outs_of oss k))
page_part d r form oss j k =
    let os = outs_of oss j in
    let others = outs_of oss k in
    let xs = access_pages d r oss j in
    let ys = access_pages d r oss k in
    let rows = flat_map (λ (x : Spot). flat_map (page_if form x) ys) xs in
    let all = flat_map (λ (x : Sized). map (form x) (pages_at (steps d) others)) (pages_at (steps d) os) in
    let e : flat_map (λ (x : Sized). map (form x) (map of_spot ys)) (map of_spot xs) ≡ all =
    ap (λ (l : List Sized). flat_map (λ (x : Sized). map (form x) (map of_spot ys)) l) (pages_spotted (access_ways d r j) j (steps d) os 0)
    ∙ ap (λ (l : List Sized). flat_map (λ (x : Sized). map (form x) l) (pages_at (steps d) os)) (pages_spotted (access_ways d r k) k (steps d) others 0) in
    part_append (ends_only ends_done (steps d) os) (ends_only ends_done (steps d) others ++ rows) (ends_only ends_done (steps d) os) (ends_only ends_done (steps d) others ++ all) (part_same (ends_only ends_done (steps d) os))
    (part_append (ends_only ends_done (steps d) others) rows (ends_only ends_done (steps d) others) all (part_same (ends_only ends_done (steps d) others)) (part_as rows _ all e (part_pages form xs ys)))

link_part : (d : ModelData) (r : Requests) (oss : List (List Out)) (link : Link) → IsPart (link_forms d r (list_access d r) oss link) (every_link d (list_access d r) oss link)
link_part d r oss (ShareTable s t) = part_same (reads_forms (one_block (list_access d r)) (side_at d oss s) (side_at d oss t))
link_part d r oss (ShareCell s t) = part_same (reads_forms one_cell (side_at d oss s) (side_at d oss t))
link_part d r oss (ApartTable s t) = part_same (reads_forms (apart_blocks (list_access d r)) (side_at d oss s) (side_at d oss t))
link_part d r oss (SharePage j k) = page_part d r (one_page (list_access d r)) oss j k
link_part d r oss (ApartPage j k) = page_part d r (apart_form (list_access d r) (λ (o : Out). o.come)) oss j k

block_part : (d : ModelData) (r : Requests) (oss : List (List Out)) → IsPart (page_forms d r oss) (every_block d r oss)
block_part d r oss =
    let a = list_access d r in
    let ps = all_pages d r 0 oss in
    let ts = all_reads d r 0 oss in
    part_as (page_forms d r oss) (every_apart a (map of_spot ps) (map of_spot ts)) (every_block d r oss) (two (every_apart a) (all_pages_spotted d r 0 oss) (all_tables_spotted d r 0 oss)) (part_aparts a ps ts)

keep_part : (d : ModelData) (r : Requests) (oss : List (List Out)) → IsPart (keep_forms d r oss) (every_keep d r oss)
keep_part d r oss =
    let a = list_access d r in
    let ps = all_pages d r 0 oss in
    let ts = all_reads d r 0 oss in
    part_as (keep_forms d r oss) (flat_map (every_kept a (map of_spot ps) (map of_spot ts)) r.kept) (every_keep d r oss) (two (λ (x y : List Sized). flat_map (every_kept a x y) r.kept) (all_pages_spotted d r 0 oss) (all_tables_spotted d r 0 oss))
    (part_each (kept_forms a ps ts) (every_kept a (map of_spot ps) (map of_spot ts)) (part_kept a ps ts) r.kept)

pub list_part : (d : ModelData) (r : Requests) (oss : List (List Out)) → IsPart (list_forms d r oss) (every_list d r oss)
list_part d r oss =
    let a = list_access d r in
    let wishes = wish_forms d r 0 r.accesses oss in
    let links = flat_map (link_forms d r a oss) r.links in
    let every = flat_map (every_link d a oss) r.links in
    part_append wishes (links ++ (page_forms d r oss ++ keep_forms d r oss)) wishes (every ++ (every_block d r oss ++ every_keep d r oss)) (part_same wishes)
    (part_append links (page_forms d r oss ++ keep_forms d r oss) every (every_block d r oss ++ every_keep d r oss) (part_each (link_forms d r a oss) (every_link d a oss) (link_part d r oss) r.links)
    (part_append (page_forms d r oss) (keep_forms d r oss) (every_block d r oss) (every_keep d r oss) (block_part d r oss) (keep_part d r oss)))

pub claim_part : (d : ModelData) (r : Requests) (oss : List (List Out)) → IsPart (claim_forms d r oss) (every_claim d r oss)
claim_part d r oss =
    let xs = all_reads d r 0 oss in
    part_append (pair_forms xs) (list_forms d r oss) (every_pair (reads_among d oss)) (every_list d r oss)
    (part_as (pair_forms xs) (every_pair (map out_of xs)) (every_pair (reads_among d oss)) (ap every_pair (all_reads_spotted d r 0 oss)) (part_pairs xs)) (list_part d r oss)
