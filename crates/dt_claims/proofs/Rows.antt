-- Accesses in turn, with the rows that stand for them.
use Rattle.std.proofs.Common.{◌≡◌, ℕ, suc, ◌+◌, ◌<◌, List, ◌∷◌, ◌++◌, length, drop, get_or, refl, sym, ap, ◌∙◌, arith}
use Rattle.std.specs.List.{flat_map}
use Rattle.std.specs.declared.vec.Vec.{Vec}
use Rattle.std.proofs.Math.Seq.{drop-cons}
use Rattle.dt_model.specs.ModelData.{ModelData}
use Rattle.dt_request.specs.declared.list.AccessWish.{AccessWish}
use Rattle.dt_request.specs.declared.list.Requests.{Requests}
use Rattle.dt_request.specs.declared.list.Demand.{Demand}
use Rattle.dt_request.specs.declared.list.Demand.TheVariants.{Via, Avoid, Take, EndDone, EndFault, Page, Bits, Span}
use Rattle.dt_request.specs.declared.list.Quantity.{Quantity}
use Rattle.dt_request.specs.declared.list.Quantity.TheVariants.{Reg, Input, Word, Cell, Pa}
use Rattle.dt_request.specs.declared.list.Link.{Link}
use Rattle.dt_request.specs.declared.list.Link.TheVariants.{ShareTable, ShareCell, SharePage, ApartTable, ApartPage}
use Rattle.dt_forms.specs.Forms.{Form}
use Rattle.dt_table.specs.declared.out.Out.{Out}
use Rattle.dt_table.specs.Demands.{quantity_forms, quantity_width, demand_forms, is_masked_form, is_within_form}
use Rattle.dt_ways.specs.Ways.{access_ways}
use Rattle.dt_table.specs.Extras.{extras_of, all_extras}
use Rattle.dt_table.specs.Links.{link_forms}
use Rattle.dt_table.specs.Table.{wish_forms, list_access, access_of as table_access}
use Rattle.dt_claims.specs.Views.{rows_of, access_of, places_of}

-- ---- the first of what is left

at_here : {A : Type 0} (xs : List A) (k : ℕ) (x : A) → k < length xs → x ≡ get_or xs k x → drop k xs ≡ x ∷ drop (k + 1) xs
at_here xs k x l e =
    let next : suc k ≡ k + 1 = omega arith in
    drop-cons xs k x l ∙ (λ i. sym e i ∷ drop (next i) xs)

pub extras_here : {Z : Type 0} (d : ModelData) (r : Requests) (rows : List (Vec Out Z)) (k : ℕ) (row : Vec Out Z) → k < length rows → row ≡ get_or rows k row → all_extras d r k (rows_of (drop k rows)) ≡ extras_of (access_ways d r k) row.items ++ all_extras d r (k + 1) (rows_of (drop (k + 1) rows))
extras_here d r rows k row m f = λ i. all_extras d r k (rows_of (at_here rows k row m f i))

pub wishes_here : {Z : Type 0} (d : ModelData) (r : Requests) (wishes : List AccessWish) (rows : List (Vec Out Z)) (k : ℕ) (a : AccessWish) (row : Vec Out Z) → k < length wishes → a ≡ get_or wishes k a → k < length rows → row ≡ get_or rows k row
    → wish_forms d r k (drop k wishes) (rows_of (drop k rows)) ≡ flat_map (demand_forms d (table_access d r k a) row.items) a.demands ++ wish_forms d r (k + 1) (drop (k + 1) wishes) (rows_of (drop (k + 1) rows))
wishes_here d r wishes rows k a row l e m f =
    λ i. wish_forms d r k (at_here wishes k a l e i) (rows_of (at_here rows k row m f i))

-- ---- forms ask nothing of an access but its places

same_quantity : (d : ModelData) (r : Requests) (k : ℕ) (a : AccessWish) (os : List Out) (q : Quantity) (test : ℕ → Form) → quantity_forms d (access_of (places_of d r k a.context)) os q test ≡ quantity_forms d (table_access d r k a) os q test
same_quantity d r k a os (Reg i) test = refl
same_quantity d r k a os (Input i) test = refl
same_quantity d r k a os (Word n) test = refl
same_quantity d r k a os (Cell n) test = refl
same_quantity d r k a os Pa test = refl

same_demand : (d : ModelData) (r : Requests) (k : ℕ) (a : AccessWish) (os : List Out) (q : Demand) → demand_forms d (access_of (places_of d r k a.context)) os q ≡ demand_forms d (table_access d r k a) os q
same_demand d r k a os (Via n) = refl
same_demand d r k a os (Avoid n) = refl
same_demand d r k a os (Take n by_then) = refl
same_demand d r k a os EndDone = refl
same_demand d r k a os (EndFault code) = refl
same_demand d r k a os (Page exponent) = refl
same_demand d r k a os (Bits q mask value) = same_quantity d r k a os q (is_masked_form (quantity_width d q) mask value)
same_demand d r k a os (Span q lo hi) = same_quantity d r k a os q (is_within_form (quantity_width d q) lo hi)

pub same_demands : (d : ModelData) (r : Requests) (k : ℕ) (a : AccessWish) (os : List Out) (qs : List Demand) → flat_map (demand_forms d (access_of (places_of d r k a.context)) os) qs ≡ flat_map (demand_forms d (table_access d r k a) os) qs
same_demands d r k a os qs = ap (λ (f : Demand → List Form). flat_map f qs) (λ i q. same_demand d r k a os q i)

same_link : (d : ModelData) (r : Requests) (oss : List (List Out)) (l : Link) → link_forms d r (access_of (places_of d r 0 0)) oss l ≡ link_forms d r (list_access d r) oss l
same_link d r oss (ShareTable s t) = refl
same_link d r oss (ShareCell s t) = refl
same_link d r oss (SharePage j k) = refl
same_link d r oss (ApartTable s t) = refl
same_link d r oss (ApartPage j k) = refl

pub same_links : (d : ModelData) (r : Requests) (oss : List (List Out)) (ls : List Link) → flat_map (link_forms d r (access_of (places_of d r 0 0)) oss) ls ≡ flat_map (link_forms d r (list_access d r) oss) ls
same_links d r oss ls = ap (λ (f : Link → List Form). flat_map f ls) (λ i l. same_link d r oss l i)
