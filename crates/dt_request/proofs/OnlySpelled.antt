-- Lines that are read as a list spell it.
use Rattle.std.proofs.Common.{◌≡◌, ℕ, zero, suc, ◌^◌, ◌<◌, ◌≤◌, ◌⊎◌, Bool, true, false, cond, ◌&&◌, ltb, leb, List, [], ◌∷◌, ◌++◌, length, get_or, Option, Some, None, Ok, Err, refl, sym, ap, subst, ◌∙◌, append_assoc, arith, inl, inr}
use Rattle.std.specs.Prelude.{codes, slice_get, option_map, IfOk, IfSome}
use Rattle.std.proofs.lemmas.Bool.{and_parts}
use Rattle.std.proofs.lemmas.Option.{option_and_then_some, slice_get-get_or}
use Rattle.std.proofs.lemmas.List.{append-nil, length_push}
use Rattle.std.proofs.lemmas.List.Quantifiers.{position-Some}
use Rattle.dt_lemmas.proofs.Booleans.{two_on}
use Rattle.dt_lemmas.proofs.Options.{chosen_ok, at_ok, at_some, some_if, made_some}
use Rattle.dt_lex.specs.declared.name.Name.{Name}
use Rattle.dt_lex.specs.declared.section.Standing.TheVariants.{In}
use Rattle.dt_lex.specs.Names.{name_of, same_name, no_name}
use Rattle.dt_lex.specs.Sections.{may_follow}
use Rattle.dt_lex.proofs.Orders.{place_le, place_is}
use Rattle.dt_lex.proofs.Padded.{same_name_is}
use Rattle.dt_model.specs.ModelData.{ModelData, ActData}
use Rattle.dt_model.specs.Bounds.{bounds_fit}
use Rattle.dt_model.specs.Faults.{is_named, names_of, is_read}
use Rattle.dt_model.specs.Positions.{position_of}
use Rattle.dt_request.specs.declared.fault.Cause.TheVariants.{Form, TooMany, Twice}
use Rattle.dt_request.specs.declared.list.Quantity.{Quantity}
use Rattle.dt_request.specs.declared.list.Quantity.TheVariants as quantity
use Rattle.dt_request.specs.declared.list.Demand.{Demand}
use Rattle.dt_request.specs.declared.list.Demand.TheVariants as demand
use Rattle.dt_request.specs.declared.list.Side.{Side}
use Rattle.dt_request.specs.declared.list.Link.{Link}
use Rattle.dt_request.specs.declared.list.Link.TheVariants as link
use Rattle.dt_request.specs.declared.list.KeptRange.{KeptRange}
use Rattle.dt_request.specs.declared.list.AccessWish.{AccessWish}
use Rattle.dt_request.specs.declared.list.Requests.{Requests}
use Rattle.dt_request.specs.declared.asked.AskedQuantity.{AskedQuantity}
use Rattle.dt_request.specs.declared.asked.AskedQuantity.TheVariants.{Reg, Input, Word, Cell, Pa}
use Rattle.dt_request.specs.declared.asked.AskedDemand.{AskedDemand}
use Rattle.dt_request.specs.declared.asked.AskedDemand.TheVariants.{Via, Avoid, Take, EndDone, EndFault, Page, Bits, Span}
use Rattle.dt_request.specs.declared.asked.AskedSide.{AskedSide}
use Rattle.dt_request.specs.declared.asked.AskedLink.{AskedLink}
use Rattle.dt_request.specs.declared.asked.AskedLink.TheVariants.{ShareTable, ShareCell, SharePage, ApartTable, ApartPage}
use Rattle.dt_request.specs.declared.asked.Line.{Line}
use Rattle.dt_request.specs.declared.asked.Line.TheVariants as line
use Rattle.dt_request.specs.declared.entry.Entry.{Entry}
use Rattle.dt_request.specs.declared.entry.Entry.TheVariants as entry
use Rattle.dt_request.specs.Lists.{is_fork, access_names}
use Rattle.dt_request.specs.Entry.{Declared, sections, standing, is_allowed, node_names, is_step, step_where, quantity_in, side_in, sides_in, pages_in, link_in, can_be, measured_in, demand_in, access_at, last_demands, entry_of, meaning}
use Rattle.dt_request.specs.Draft.{nothing, with_demand, added}
use Rattle.dt_request.specs.Spelling.{Row, SpellsName, SpellsQuantity, SpellsDemand, SpellsLink, SpellsHeader, SpellsBounds, SpellsKept, SpellsContext, SpellsAccess, SpellEach, SpellWish, SpellWishes, Spell}
use Rattle.dt_request.proofs.Results.{known_ok, known_then, range_ok, then_ok, chained, itself}
use Rattle.dt_request.proofs.Demands.{length_with, names_with}
use Rattle.dt_request.proofs.SpelledRows.{spelled_row}
use Rattle.dt_request.proofs.SpelledLists.{AreRead}
use Rattle.dt_request.proofs.Shapes.{QuantityShape, DemandShape, LinkShape, Shape, spelled_shape}

-- ---- names

-- the name at the position that was found
named_at : (names : List Name) (n : Name) (i : ℕ) → position_of names n ≡ Some i → slice_get names i ≡ Some n
named_at names n i at =
    let p = position-Some (same_name n) names i no_name at in
    slice_get-get_or names i no_name p.0 ∙ ap (λ (m : Name). Some m) (sym (same_name_is n (get_or names i no_name) p.1))

spells_name : (names : List Name) (n : Name) (i : ℕ) (t : List ℕ) → position_of names n ≡ Some i → name_of t ≡ Some n → SpellsName names i t
spells_name names n i t at is = (n, named_at names n i at, is)

step_position : (kind : ActData → Bool) (d : ModelData) (n : Name) (i : ℕ) → step_where kind d n ≡ Some i → position_of (node_names d) n ≡ Some i
step_position kind d n i e =
    option_and_then_some (λ k. cond (is_step kind d k) (Some k) None) (position_of (node_names d) n) i e (λ k at is. at ∙ ap (λ (j : ℕ). Some j) (some_if (is_step kind d k) k i is).1)

-- ---- demands

quantity_spells : (d : ModelData) (asked : AskedQuantity) (of : Quantity) (q : Row) → quantity_in d asked ≡ Some of → QuantityShape asked q → SpellsQuantity d of q
quantity_spells d asked of q e h = choose asked (quantity_in d asked) refl e h
  where
    made_some : (kind : ℕ → Quantity) (o : Option ℕ) → option_map kind o ≡ Some of → ((i : ℕ) → o ≡ Some i → SpellsQuantity d (kind i) q) → SpellsQuantity d of q
    made_some kind None e h = absurd cc
    made_some kind (Some i) e h = let is : kind i ≡ of = cc in subst (λ (x : Quantity). SpellsQuantity d x q) is (h i refl)

    choose : (x : AskedQuantity) (o : Option Quantity) → quantity_in d x ≡ o → o ≡ Some of → QuantityShape x q → SpellsQuantity d of q
    choose (Reg n) o e f h = made_some (λ i. quantity.Reg i) (position_of (names_of d.regs) n) (e ∙ f) (λ i at. (h.0, spells_name (names_of d.regs) n i h.0 at h.1, h.2))
    choose (Input n) o e f h = made_some (λ i. quantity.Input i) (position_of (names_of d.inputs) n) (e ∙ f) (λ i at. (h.0, spells_name (names_of d.inputs) n i h.0 at h.1, h.2))
    choose (Word n) o e f h = made_some (λ i. quantity.Word i) (step_where is_read d n) (e ∙ f) (λ i at. (h.0, spells_name (node_names d) n i h.0 (step_position is_read d n i at) h.1, h.2))
    choose (Cell n) o e f h = made_some (λ i. quantity.Cell i) (step_where is_read d n) (e ∙ f) (λ i at. (h.0, spells_name (node_names d) n i h.0 (step_position is_read d n i at) h.1, h.2))
    choose Pa o e f h = let is : quantity.Pa ≡ of = cc in subst (λ (x : Quantity). SpellsQuantity d x q) is h

measured_spells : (d : ModelData) (asked : AskedQuantity) (m n : ℕ) → IfOk (measured_in d asked m n) (λ of. quantity_in d asked ≡ Some of)
measured_spells d asked m n =
    known_then (λ of. quantity_in d asked ≡ Some of) (quantity_in d asked) _ (λ q at. range_ok (λ of. quantity_in d asked ≡ Some of) (can_be d q m && can_be d q n) q (λ _. at))

demand_spells : (d : ModelData) (x : AskedDemand) (row : Row) → DemandShape x row → IfOk (demand_in d x) (λ y. SpellsDemand d y row)
demand_spells d (Via n) row h = known_ok (λ y. SpellsDemand d y row) (position_of (node_names d) n) (λ i. demand.Via i) (λ i at. (h.0, spells_name (node_names d) n i h.0 at h.1, h.2))
demand_spells d (Avoid n) row h = known_ok (λ y. SpellsDemand d y row) (position_of (node_names d) n) (λ i. demand.Avoid i) (λ i at. (h.0, spells_name (node_names d) n i h.0 at h.1, h.2))
demand_spells d (Take n true) row h = known_ok (λ y. SpellsDemand d y row) (step_where is_fork d n) (λ i. demand.Take i true) (λ i at. (h.0, spells_name (node_names d) n i h.0 (step_position is_fork d n i at) h.1, h.2))
demand_spells d (Take n false) row h = known_ok (λ y. SpellsDemand d y row) (step_where is_fork d n) (λ i. demand.Take i false) (λ i at. (h.0, spells_name (node_names d) n i h.0 (step_position is_fork d n i at) h.1, h.2))
demand_spells d EndDone row h = h
demand_spells d (EndFault code) row h = range_ok (λ y. SpellsDemand d y row) (leb code 65535) (demand.EndFault code) (λ _. h)
demand_spells d (Page exponent) row h = range_ok (λ y. SpellsDemand d y row) (leb exponent d.address) (demand.Page exponent) (λ _. h)
demand_spells d (Bits of mask value) row h =
    then_ok (λ q. quantity_in d of ≡ Some q) (λ y. SpellsDemand d y row) (measured_in d of mask value) (λ q. demand.Bits q mask value) (measured_spells d of mask value) (λ q at. (h.0, h.1, h.2, quantity_spells d of q h.0 at h.3, h.4, h.5, h.6))
demand_spells d (Span of lo hi) row h =
    then_ok (λ q. quantity_in d of ≡ Some q) (λ y. SpellsDemand d y row) (measured_in d of lo hi) (λ q. demand.Span q lo hi) (measured_spells d of lo hi) (λ q at. (h.0, h.1, h.2, quantity_spells d of q h.0 at h.3, h.4, h.5, h.6))

-- ---- links

-- the names of a side were found
abbrev IsFound : ModelData → List Name → AskedSide → Side → Type 0
IsFound d names asked s = (position_of names asked.access ≡ Some s.access) × (position_of (node_names d) asked.node ≡ Some s.node)

side_found : (d : ModelData) (so : Requests) (asked : AskedSide) → IfSome (side_in d so asked) (IsFound d (access_names so.accesses) asked)
side_found d so asked =
    let at = position_of (access_names so.accesses) asked.access in
    let Q = IsFound d (access_names so.accesses) asked in
    chained (λ a. at ≡ Some a) Q at _ (itself at) (λ a e.
    made_some (λ n. step_where is_read d asked.node ≡ Some n) Q (step_where is_read d asked.node) _ (itself (step_where is_read d asked.node)) (λ n f. (e, step_position is_read d asked.node n f)))

abbrev AreFound : ModelData → List Name → AskedSide → AskedSide → Side × Side → Type 0
AreFound d names a b x = IsFound d names a x.0 × IsFound d names b x.1

sides_found : (d : ModelData) (so : Requests) (a b : AskedSide) → IfSome (sides_in d so a b) (AreFound d (access_names so.accesses) a b)
sides_found d so a b =
    let names = access_names so.accesses in
    chained (IsFound d names a) (AreFound d names a b) (side_in d so a) _ (side_found d so a) (λ x p.
    made_some (IsFound d names b) (AreFound d names a b) (side_in d so b) _ (side_found d so b) (λ y q. (p, q)))

abbrev PagesFound : List Name → Name → Name → ℕ × ℕ → Type 0
PagesFound names a b x = (position_of names a ≡ Some x.0) × (position_of names b ≡ Some x.1)

pages_found : (so : Requests) (a b : Name) → IfSome (pages_in so a b) (PagesFound (access_names so.accesses) a b)
pages_found so a b =
    let names = access_names so.accesses in
    chained (λ x. position_of names a ≡ Some x) (PagesFound names a b) (position_of names a) _ (itself (position_of names a)) (λ x p.
    made_some (λ y. position_of names b ≡ Some y) (PagesFound names a b) (position_of names b) _ (itself (position_of names b)) (λ y q. (p, q)))

link_spells : (d : ModelData) (so : Requests) (x : AskedLink) (row : Row) → LinkShape x row → IfSome (link_in d so x) (λ y. SpellsLink d (access_names so.accesses) y row)
link_spells d so (ShareTable a b) row h =
    let names = access_names so.accesses in
    made_some (AreFound d names a b) (λ y. SpellsLink d names y row) (sides_in d so a b) (λ x. link.ShareTable x.0 x.1) (sides_found d so a b) (λ x p. (h.0, h.1, h.2, h.3, spells_name names a.access x.0.access h.0 p.0.0 h.4, spells_name (node_names d) a.node x.0.node h.1 p.0.1 h.5, spells_name names b.access x.1.access h.2 p.1.0 h.6, spells_name (node_names d) b.node x.1.node h.3 p.1.1 h.7, h.8))
link_spells d so (ShareCell a b) row h =
    let names = access_names so.accesses in
    made_some (AreFound d names a b) (λ y. SpellsLink d names y row) (sides_in d so a b) (λ x. link.ShareCell x.0 x.1) (sides_found d so a b) (λ x p. (h.0, h.1, h.2, h.3, spells_name names a.access x.0.access h.0 p.0.0 h.4, spells_name (node_names d) a.node x.0.node h.1 p.0.1 h.5, spells_name names b.access x.1.access h.2 p.1.0 h.6, spells_name (node_names d) b.node x.1.node h.3 p.1.1 h.7, h.8))
link_spells d so (SharePage a b) row h =
    let names = access_names so.accesses in
    made_some (PagesFound names a b) (λ y. SpellsLink d names y row) (pages_in so a b) (λ x. link.SharePage x.0 x.1) (pages_found so a b) (λ x p. (h.0, h.1, spells_name names a x.0 h.0 p.0 h.2, spells_name names b x.1 h.1 p.1 h.3, h.4))
link_spells d so (ApartTable a b) row h =
    let names = access_names so.accesses in
    made_some (AreFound d names a b) (λ y. SpellsLink d names y row) (sides_in d so a b) (λ x. link.ApartTable x.0 x.1) (sides_found d so a b) (λ x p. (h.0, h.1, h.2, h.3, spells_name names a.access x.0.access h.0 p.0.0 h.4, spells_name (node_names d) a.node x.0.node h.1 p.0.1 h.5, spells_name names b.access x.1.access h.2 p.1.0 h.6, spells_name (node_names d) b.node x.1.node h.3 p.1.1 h.7, h.8))
link_spells d so (ApartPage a b) row h =
    let names = access_names so.accesses in
    made_some (PagesFound names a b) (λ y. SpellsLink d names y row) (pages_in so a b) (λ x. link.ApartPage x.0 x.1) (pages_found so a b) (λ x p. (h.0, h.1, spells_name names a x.0 h.0 p.0 h.2, spells_name names b x.1 h.1 p.1 h.3, h.4))

-- ---- one more line of a kind

abbrev snoc : {X : Type 0} → List X → X → List X
snoc xs x = xs ++ x ∷ []

each_more : {X : Type 0} (R : X → Row → Type 0) (xs : List X) (rows : List Row) (x : X) (row : Row) → SpellEach R xs rows → R x row → SpellEach R (snoc xs x) (snoc rows row)
each_more R [] [] x row h k = (k, tt)
each_more R [] (r ∷ rows) x row h k = absurd h
each_more R (y ∷ xs) [] x row h k = absurd h
each_more R (y ∷ xs) (r ∷ rows) x row h k = (h.0, each_more R xs rows x row h.1 k)

-- no rows spell nothing
no_rows : {X : Type 0} (R : X → Row → Type 0) (xs : List X) (rows : List Row) → rows ≡ [] → SpellEach R xs rows → xs ≡ []
no_rows R [] rows e h = refl
no_rows R (x ∷ xs) [] e h = absurd h
no_rows R (x ∷ xs) (r ∷ rows) e h = absurd cc

no_wishes : (d : ModelData) (contexts : List Name) (wishes : List AccessWish) (rows : List Row) → rows ≡ [] → SpellWishes d contexts wishes rows → wishes ≡ []
no_wishes d contexts [] rows e h = refl
no_wishes d contexts (a ∷ wishes) rows e h = absurd (none h.0 h.1 h.2 (sym h.4 ∙ e))
  where
    none : (front back : List Row) → SpellWish d contexts a front → front ++ back ≡ [] → ⊥
    none [] back w e = w
    none (r ∷ front) back w e = cc

wish_more : (d : ModelData) (contexts : List Name) (a : AccessWish) (rows : List Row) (x : Demand) (row : Row) → SpellWish d contexts a rows → SpellsDemand d x row → SpellWish d contexts (record a { demands = snoc a.demands x }) (snoc rows row)
wish_more d contexts a [] x row h k = absurd h
wish_more d contexts a (r ∷ rows) x row h k = (h.0, each_more (SpellsDemand d) a.demands rows x row h.1 k)

wishes_more : (d : ModelData) (contexts : List Name) (wishes : List AccessWish) (rows : List Row) (a : AccessWish) (row : Row) → SpellWishes d contexts wishes rows → SpellWish d contexts a (row ∷ []) → SpellWishes d contexts (snoc wishes a) (snoc rows row)
wishes_more d contexts [] rows a row h k = (row ∷ [], [], k, refl, ap (λ (rs : List Row). snoc rs row) h)
wishes_more d contexts (b ∷ wishes) rows a row h k =
    (h.0, snoc h.1 row, h.2, wishes_more d contexts wishes h.1 a row h.3 k, ap (λ (rs : List Row). snoc rs row) h.4 ∙ append_assoc h.0 h.1 (row ∷ []))

demand_more : (d : ModelData) (contexts : List Name) (wishes : List AccessWish) (rows : List Row) (x : Demand) (row : Row) → 0 < length wishes → SpellWishes d contexts wishes rows → SpellsDemand d x row → SpellWishes d contexts (with_demand wishes x) (snoc rows row)
demand_more d contexts [] rows x row some h k = absurd (omega arith)
demand_more d contexts (a ∷ []) rows x row some h k =
    (snoc h.0 row, [], wish_more d contexts a h.0 x row h.2 k, refl, ap (λ (rs : List Row). snoc rs row) (h.4 ∙ ap (λ (rs : List Row). h.0 ++ rs) h.3 ∙ append-nil h.0) ∙ sym (append-nil (snoc h.0 row)))
demand_more d contexts (a ∷ b ∷ wishes) rows x row some h k =
    (h.0, snoc h.1 row, h.2, demand_more d contexts (b ∷ wishes) h.1 x row (omega arith) h.3 k, ap (λ (rs : List Row). snoc rs row) h.4 ∙ append_assoc h.0 h.1 (row ∷ []))

-- ---- the order of blocks

kept_order : (ks cs accs ls : List Row) (row : Row) → cs ≡ [] → accs ≡ [] → ls ≡ [] → snoc (ks ++ (cs ++ (accs ++ ls))) row ≡ snoc ks row ++ ([] ++ ([] ++ []))
kept_order ks cs accs ls row p q r =
    (λ i. snoc (ks ++ (p i ++ (q i ++ r i))) row) ∙ ap (λ (xs : List Row). snoc xs row) (append-nil ks) ∙ sym (append-nil (snoc ks row))

contexts_order : (ks cs accs ls : List Row) (row : Row) → accs ≡ [] → ls ≡ [] → snoc (ks ++ (cs ++ (accs ++ ls))) row ≡ ks ++ (snoc cs row ++ ([] ++ []))
contexts_order ks cs accs ls row q r =
    (λ i. snoc (ks ++ (cs ++ (q i ++ r i))) row) ∙ ap (λ (xs : List Row). snoc (ks ++ xs) row) (append-nil cs) ∙ append_assoc ks cs (row ∷ []) ∙ ap (λ (xs : List Row). ks ++ xs) (sym (append-nil (snoc cs row)))

accesses_order : (ks cs accs ls : List Row) (row : Row) → ls ≡ [] → snoc (ks ++ (cs ++ (accs ++ ls))) row ≡ ks ++ (cs ++ (snoc accs row ++ []))
accesses_order ks cs accs ls row r =
    (λ i. snoc (ks ++ (cs ++ (accs ++ r i))) row) ∙ ap (λ (xs : List Row). snoc (ks ++ (cs ++ xs)) row) (append-nil accs) ∙ append_assoc ks (cs ++ accs) (row ∷ []) ∙ ap (λ (xs : List Row). ks ++ xs) (append_assoc cs accs (row ∷ []) ∙ ap (λ (xs : List Row). cs ++ xs) (sym (append-nil (snoc accs row))))

links_order : (ks cs accs ls : List Row) (row : Row) → snoc (ks ++ (cs ++ (accs ++ ls))) row ≡ ks ++ (cs ++ (accs ++ snoc ls row))
links_order ks cs accs ls row =
    append_assoc ks (cs ++ (accs ++ ls)) (row ∷ []) ∙ ap (λ (xs : List Row). ks ++ xs) (append_assoc cs (accs ++ ls) (row ∷ []) ∙ ap (λ (xs : List Row). cs ++ xs) (append_assoc accs ls (row ∷ [])))

-- ---- the lines so far

abbrev FirstLine : Bool → Row → Type 0
FirstLine false row = row ≡ codes "requests" ∷ codes "1" ∷ []
FirstLine true row = row ≡ codes "requests" ∷ codes "2" ∷ []

-- the lines before the end spell what they declare, and later blocks have none
record Front (d : ModelData) (so : Declared) (before : List Row) : Type 0 where
  header : Row
  bounds : Row
  kept : List Row
  contexts : List Row
  accesses : List Row
  links : List Row
  in_order : before ≡ header ∷ bounds ∷ (kept ++ (contexts ++ (accesses ++ links)))
  first : FirstLine so.keeps header
  none : so.keeps ≡ false → so.list.kept ≡ []
  bounds_spelled : SpellsBounds (codes "tables") so.list.lo so.list.hi bounds
  kept_spelled : SpellEach SpellsKept so.list.kept kept
  contexts_spelled : SpellEach SpellsContext so.list.contexts contexts
  accesses_spelled : SpellWishes d so.list.contexts so.list.accesses accesses
  links_spelled : SpellEach (SpellsLink d (access_names so.list.accesses)) so.list.links links
  no_contexts : so.place ≤ 3 → contexts ≡ []
  no_accesses : so.place ≤ 4 → accesses ≡ []
  no_links : so.place ≤ 5 → links ≡ []
  some : so.place ≡ 5 → 0 < length so.list.accesses

keep_step : (d : ModelData) (so : Declared) (before : List Row) (k : KeptRange) (row : Row) → so.place ≤ 3 → so.keeps ≡ true → Front d so before → SpellsKept k row → Front d (added so (entry.Keep k)) (snoc before row)
keep_step d so before k row low keeps h s =
    let cs = h.no_contexts low in
    let accs = h.no_accesses (omega (arith, low)) in
    let ls = h.no_links (omega (arith, low)) in
    record {
      header = h.header;
      bounds = h.bounds;
      kept = snoc h.kept row;
      contexts = [];
      accesses = [];
      links = [];
      in_order = ap (λ (rs : List Row). snoc rs row) h.in_order ∙ ap (λ (rs : List Row). h.header ∷ h.bounds ∷ rs) (kept_order h.kept h.contexts h.accesses h.links row cs accs ls);
      first = h.first;
      none = λ e. absurd (let bad : true ≡ false = sym keeps ∙ e in cc);
      bounds_spelled = h.bounds_spelled;
      kept_spelled = each_more SpellsKept so.list.kept h.kept k row h.kept_spelled s;
      contexts_spelled = subst (SpellEach SpellsContext so.list.contexts) cs h.contexts_spelled;
      accesses_spelled = subst (SpellWishes d so.list.contexts so.list.accesses) accs h.accesses_spelled;
      links_spelled = subst (SpellEach (SpellsLink d (access_names so.list.accesses)) so.list.links) ls h.links_spelled;
      no_contexts = λ e. refl;
      no_accesses = λ e. refl;
      no_links = λ e. refl;
      some = λ e. absurd (omega (arith, e));
    }

context_step : (d : ModelData) (so : Declared) (before : List Row) (n : Name) (row : Row) → so.place ≤ 4 → Front d so before → SpellsContext n row → Front d (added so (entry.Context n)) (snoc before row)
context_step d so before n row low h s =
    let accs = h.no_accesses low in
    let ls = h.no_links (omega (arith, low)) in
    let wishes = no_wishes d so.list.contexts so.list.accesses h.accesses accs h.accesses_spelled in
    record {
      header = h.header;
      bounds = h.bounds;
      kept = h.kept;
      contexts = snoc h.contexts row;
      accesses = [];
      links = [];
      in_order = ap (λ (rs : List Row). snoc rs row) h.in_order ∙ ap (λ (rs : List Row). h.header ∷ h.bounds ∷ rs) (contexts_order h.kept h.contexts h.accesses h.links row accs ls);
      first = h.first;
      none = h.none;
      bounds_spelled = h.bounds_spelled;
      kept_spelled = h.kept_spelled;
      contexts_spelled = each_more SpellsContext so.list.contexts h.contexts n row h.contexts_spelled s;
      accesses_spelled = subst (λ (ws : List AccessWish). SpellWishes d (snoc so.list.contexts n) ws []) (sym wishes) refl;
      links_spelled = subst (SpellEach (SpellsLink d (access_names so.list.accesses)) so.list.links) ls h.links_spelled;
      no_contexts = λ e. absurd (omega (arith, e));
      no_accesses = λ e. refl;
      no_links = λ e. refl;
      some = λ e. absurd (omega (arith, e));
    }

access_step : (d : ModelData) (so : Declared) (before : List Row) (n : Name) (k : ℕ) (row : Row) → so.place ≤ 5 → Front d so before → SpellsAccess so.list.contexts (record { name = n; context = k; demands = [] }) row → Front d (added so (entry.Access n k)) (snoc before row)
access_step d so before n k row low h s =
    let ls = h.no_links low in
    let links = no_rows (SpellsLink d (access_names so.list.accesses)) so.list.links h.links ls h.links_spelled in
    let a : AccessWish = record { name = n; context = k; demands = [] } in
    record {
      header = h.header;
      bounds = h.bounds;
      kept = h.kept;
      contexts = h.contexts;
      accesses = snoc h.accesses row;
      links = [];
      in_order = ap (λ (rs : List Row). snoc rs row) h.in_order ∙ ap (λ (rs : List Row). h.header ∷ h.bounds ∷ rs) (accesses_order h.kept h.contexts h.accesses h.links row ls);
      first = h.first;
      none = h.none;
      bounds_spelled = h.bounds_spelled;
      kept_spelled = h.kept_spelled;
      contexts_spelled = h.contexts_spelled;
      accesses_spelled = wishes_more d so.list.contexts so.list.accesses h.accesses a row h.accesses_spelled (s, tt);
      links_spelled = subst (λ (xs : List Link). SpellEach (SpellsLink d (access_names (snoc so.list.accesses a))) xs []) (sym links) tt;
      no_contexts = λ e. absurd (omega (arith, e));
      no_accesses = λ e. absurd (omega (arith, e));
      no_links = λ e. refl;
      some = λ e. omega (arith, length_push so.list.accesses a);
    }

demand_step : (d : ModelData) (so : Declared) (before : List Row) (x : Demand) (row : Row) → so.place ≡ 5 → Front d so before → SpellsDemand d x row → Front d (added so (entry.Demand x)) (snoc before row)
demand_step d so before x row at h s =
    let ls = h.no_links (omega (arith, at)) in
    record {
      header = h.header;
      bounds = h.bounds;
      kept = h.kept;
      contexts = h.contexts;
      accesses = snoc h.accesses row;
      links = [];
      in_order = ap (λ (rs : List Row). snoc rs row) h.in_order ∙ ap (λ (rs : List Row). h.header ∷ h.bounds ∷ rs) (accesses_order h.kept h.contexts h.accesses h.links row ls);
      first = h.first;
      none = h.none;
      bounds_spelled = h.bounds_spelled;
      kept_spelled = h.kept_spelled;
      contexts_spelled = h.contexts_spelled;
      accesses_spelled = demand_more d so.list.contexts so.list.accesses h.accesses x row (h.some at) h.accesses_spelled s;
      links_spelled = subst (λ (ns : List Name). SpellEach (SpellsLink d ns) so.list.links []) (sym (names_with so.list.accesses x)) (subst (SpellEach (SpellsLink d (access_names so.list.accesses)) so.list.links) ls h.links_spelled);
      no_contexts = λ e. absurd (omega (arith, e));
      no_accesses = λ e. absurd (omega (arith, e));
      no_links = λ e. refl;
      some = λ e. omega (arith, length_with so.list.accesses x, h.some at);
    }

link_step : (d : ModelData) (so : Declared) (before : List Row) (x : Link) (row : Row) → Front d so before → SpellsLink d (access_names so.list.accesses) x row → Front d (added so (entry.Link x)) (snoc before row)
link_step d so before x row h s = record {
  header = h.header;
  bounds = h.bounds;
  kept = h.kept;
  contexts = h.contexts;
  accesses = h.accesses;
  links = snoc h.links row;
  in_order = ap (λ (rs : List Row). snoc rs row) h.in_order ∙ ap (λ (rs : List Row). h.header ∷ h.bounds ∷ rs) (links_order h.kept h.contexts h.accesses h.links row);
  first = h.first;
  none = h.none;
  bounds_spelled = h.bounds_spelled;
  kept_spelled = h.kept_spelled;
  contexts_spelled = h.contexts_spelled;
  accesses_spelled = h.accesses_spelled;
  links_spelled = each_more (SpellsLink d (access_names so.list.accesses)) so.list.links h.links x row h.links_spelled s;
  no_contexts = λ e. absurd (omega (arith, e));
  no_accesses = λ e. absurd (omega (arith, e));
  no_links = λ e. absurd (omega (arith, e));
  some = λ e. absurd (omega (arith, e));
}

header_is : (keeps : Bool) (kept : List KeptRange) (row : Row) → FirstLine keeps row → (keeps ≡ false → kept ≡ []) → SpellsHeader kept row
header_is false kept row h none = inl (h, none refl)
header_is true kept row h none = inr h

end_step : (d : ModelData) (so : Declared) (before : List Row) (row : Row) → Front d so before → row ≡ codes "end" ∷ [] → Spell d so.list (snoc before row)
end_step d so before row h is = record {
  header = h.header;
  bounds = h.bounds;
  kept = h.kept;
  contexts = h.contexts;
  accesses = h.accesses;
  links = h.links;
  in_order = ap (λ (rs : List Row). snoc rs row) h.in_order ∙ ap (λ (rs : List Row). h.header ∷ h.bounds ∷ rs) (links_order h.kept h.contexts h.accesses h.links row ∙ ap (λ (x : Row). h.kept ++ (h.contexts ++ (h.accesses ++ (h.links ++ x ∷ [])))) is);
  header_spelled = header_is so.keeps so.list.kept h.header h.first h.none;
  bounds_spelled = h.bounds_spelled;
  kept_spelled = h.kept_spelled;
  contexts_spelled = h.contexts_spelled;
  accesses_spelled = h.accesses_spelled;
  links_spelled = h.links_spelled;
}

-- ---- where the text stands

-- nothing but the header was read, or not even it; or the lines so far spell what they declare; or all of them do
abbrev Spelt : ModelData → Declared → List Row → Type 0
Spelt d so before =
    ((so.place ≡ 0) × (so.list ≡ (nothing).list) × (before ≡ []))
    ⊎ (((so.place ≡ 1) × (so.list ≡ (nothing).list) × ((header : Row) × FirstLine so.keeps header × (before ≡ header ∷ [])))
    ⊎ (((2 ≤ so.place) × (so.place ≤ 6) × Front d so before)
    ⊎ ((so.place ≡ 7) × Spell d so.list before)))

header_place : (p : ℕ) → may_follow sections p (In 0) ≡ true → p ≡ 0
header_place zero e = refl
header_place (suc zero) e = absurd cc
header_place (suc (suc p)) e = absurd (let le = place_le sections (suc (suc p)) 0 e in omega (arith, le))

tables_place : (p : ℕ) → may_follow sections p (In 1) ≡ true → p ≡ 1
tables_place zero e = absurd cc
tables_place (suc zero) e = refl
tables_place (suc (suc zero)) e = absurd cc
tables_place (suc (suc (suc p))) e = absurd (let le = place_le sections (suc (suc (suc p))) 1 e in omega (arith, le))

-- lines before the end stand behind the bounds and before the end
front_of : (d : ModelData) (so : Declared) (before : List Row) → 2 ≤ so.place → so.place ≤ 6 → Spelt d so before → Front d so before
front_of d so before low high (inl h) = absurd (omega (arith, h.0, low))
front_of d so before low high (inr (inl h)) = absurd (omega (arith, h.0, low))
front_of d so before low high (inr (inr (inl h))) = h.2
front_of d so before low high (inr (inr (inr h))) = absurd (omega (arith, h.0, high))

goes_on : (d : ModelData) (so : Declared) (before : List Row) → 2 ≤ so.place → so.place ≤ 6 → Front d so before → Spelt d so before
goes_on d so before low high h = inr (inr (inl (low, high, h)))

behind : (at : ℕ) (p : ℕ) → may_follow sections 0 (In at) ≡ false → may_follow sections 1 (In at) ≡ false → may_follow sections p (In at) ≡ true → 2 ≤ p
behind at p a b e = two_on (λ q. may_follow sections q (In at)) a b p e

-- what a line leaves
abbrev Leaves : ModelData → Declared → List Row → Row → Entry → Type 0
Leaves d so before row e = Spelt d (added so e) (snoc before row)

header_kept : (d : ModelData) (so : Declared) (before : List Row) (keeps : Bool) (row : Row) → so.place ≡ 0 → FirstLine keeps row → Spelt d so before → Leaves d so before row (entry.Header keeps)
header_kept d so before keeps row at first (inl h) = inr (inl (refl, h.1, (row, first, ap (λ (rs : List Row). snoc rs row) h.2)))
header_kept d so before keeps row at first (inr (inl h)) = absurd (omega (arith, at, h.0))
header_kept d so before keeps row at first (inr (inr (inl h))) = absurd (omega (arith, at, h.0))
header_kept d so before keeps row at first (inr (inr (inr h))) = absurd (omega (arith, at, h.0))

tables_kept : (d : ModelData) (so : Declared) (before : List Row) (lo hi : ℕ) (row : Row) → so.place ≡ 1 → SpellsBounds (codes "tables") lo hi row → Spelt d so before → Leaves d so before row (entry.Tables lo hi)
tables_kept d so before lo hi row at s (inl h) = absurd (omega (arith, at, h.0))
tables_kept d so before lo hi row at s (inr (inl h)) =
    let f = h.2 in
    goes_on d (added so (entry.Tables lo hi)) (snoc before row) (omega arith) (omega arith) (record {
      header = f.0;
      bounds = row;
      kept = [];
      contexts = [];
      accesses = [];
      links = [];
      in_order = ap (λ (rs : List Row). snoc rs row) f.2;
      first = f.1;
      none = λ e. ap (λ (r : Requests). r.kept) h.1;
      bounds_spelled = s;
      kept_spelled = subst (λ (r : Requests). SpellEach SpellsKept r.kept []) (sym h.1) tt;
      contexts_spelled = subst (λ (r : Requests). SpellEach SpellsContext r.contexts []) (sym h.1) tt;
      accesses_spelled = subst (λ (r : Requests). SpellWishes d r.contexts r.accesses []) (sym h.1) refl;
      links_spelled = subst (λ (r : Requests). SpellEach (SpellsLink d (access_names r.accesses)) r.links []) (sym h.1) tt;
      no_contexts = λ e. refl;
      no_accesses = λ e. refl;
      no_links = λ e. refl;
      some = λ e. absurd (omega (arith, e));
    })
tables_kept d so before lo hi row at s (inr (inr (inl h))) = absurd (omega (arith, at, h.0))
tables_kept d so before lo hi row at s (inr (inr (inr h))) = absurd (omega (arith, at, h.0))

end_kept : (d : ModelData) (so : Declared) (before : List Row) (row : Row) → may_follow sections so.place (In 6) ≡ true → row ≡ codes "end" ∷ [] → Spelt d so before → Leaves d so before row entry.End
end_kept d so before row at is (inl h) = absurd (let low = behind 6 so.place refl refl at in omega (arith, low, h.0))
end_kept d so before row at is (inr (inl h)) = absurd (let low = behind 6 so.place refl refl at in omega (arith, low, h.0))
end_kept d so before row at is (inr (inr (inl h))) = inr (inr (inr (refl, end_step d so before row h.2 is)))
end_kept d so before row at is (inr (inr (inr h))) = absurd (let bad : false ≡ true = subst (λ (p : ℕ). may_follow sections p (In 6) ≡ true) h.0 at in cc)

-- an access whose context was found
access_kept : (d : ModelData) (so : Declared) (before : List Row) (n context : Name) (o : Option ℕ) (row : Row) → position_of so.list.contexts context ≡ o → 2 ≤ so.place → so.place ≤ 5 → Shape (line.Access n context) row → Spelt d so before → IfOk (access_at so.list n o) (Leaves d so before row)
access_kept d so before n context None row at low high h f = tt
access_kept d so before n context (Some k) row at low high h f =
    chosen_ok (Leaves d so before row) (is_named (access_names so.list.accesses) n) (Err Twice) (Ok (entry.Access n k)) (λ e. tt)
    (λ e. goes_on d (added so (entry.Access n k)) (snoc before row) (omega arith) (omega arith) (access_step d so before n k row high (front_of d so before low (omega (arith, high)) f) (h.0, h.1, h.2, spells_name so.list.contexts context k h.1 at h.3, h.4)))

header_first : (keeps : Bool) (row : Row) → Shape (line.Header keeps) row → FirstLine keeps row
header_first false row h = h
header_first true row h = h

entry_kept : (d : ModelData) (so : Declared) (before : List Row) (l : Line) (row : Row) → may_follow sections so.place (standing l) ≡ true → is_allowed so.keeps l ≡ true → Shape l row → Spelt d so before → IfOk (entry_of d so.list l) (Leaves d so before row)
entry_kept d so before (line.Header keeps) row at allowed h f = header_kept d so before keeps row (header_place so.place at) (header_first keeps row h) f
entry_kept d so before (line.Tables lo hi) row at allowed h f = range_ok (Leaves d so before row) (bounds_fit d lo hi) (entry.Tables lo hi) (λ _. tables_kept d so before lo hi row (tables_place so.place at) h f)
entry_kept d so before (line.Keep lo hi) row at allowed h f =
    let low = behind 2 so.place refl refl at in
    let high = place_le sections so.place 2 at in
    let k : KeptRange = record { lo = lo; hi = hi } in
    chosen_ok (Leaves d so before row) (ltb (length so.list.kept) 16) _ (Err TooMany)
    (λ few. range_ok (Leaves d so before row) (leb lo hi && leb hi (2 ^ d.address)) (entry.Keep k) (λ _. goes_on d (added so (entry.Keep k)) (snoc before row) (omega arith) (omega arith) (keep_step d so before k row (omega (arith, high)) allowed (front_of d so before low (omega (arith, high)) f) h)))
    (λ e. tt)
entry_kept d so before (line.Context n) row at allowed h f =
    let low = behind 3 so.place refl refl at in
    let high = place_le sections so.place 3 at in
    chosen_ok (Leaves d so before row) (ltb (length so.list.contexts) 16) _ (Err TooMany)
    (λ few. chosen_ok (Leaves d so before row) (is_named so.list.contexts n) (Err Twice) (Ok (entry.Context n)) (λ e. tt) (λ e. goes_on d (added so (entry.Context n)) (snoc before row) (omega arith) (omega arith) (context_step d so before n row (omega (arith, high)) (front_of d so before low (omega (arith, high)) f) h)))
    (λ e. tt)
entry_kept d so before (line.Access n context) row at allowed h f =
    let low = behind 4 so.place refl refl at in
    let high = place_le sections so.place 4 at in
    chosen_ok (Leaves d so before row) (ltb (length so.list.accesses) 64) _ (Err TooMany)
    (λ few. access_kept d so before n context (position_of so.list.contexts context) row refl low (omega (arith, high)) h f)
    (λ e. tt)
entry_kept d so before (line.Demand x) row at allowed h f =
    let five = place_is sections so.place 4 at in
    chosen_ok (Leaves d so before row) (ltb (length (last_demands so.list.accesses)) 64) _ (Err TooMany)
    (λ few. then_ok (λ y. SpellsDemand d y row) (Leaves d so before row) (demand_in d x) (λ y. entry.Demand y) (demand_spells d x row h) (λ y s. goes_on d (added so (entry.Demand y)) (snoc before row) (omega arith) (omega arith) (demand_step d so before y row (omega (arith, five)) (front_of d so before (omega (arith, five)) (omega (arith, five)) f) s)))
    (λ e. tt)
entry_kept d so before (line.Link x) row at allowed h f =
    let low = behind 5 so.place refl refl at in
    let high = place_le sections so.place 5 at in
    chosen_ok (Leaves d so before row) (ltb (length so.list.links) 256) _ (Err TooMany)
    (λ few. known_then (Leaves d so before row) (link_in d so.list x) _ (λ y e. goes_on d (added so (entry.Link y)) (snoc before row) (omega arith) (omega arith) (link_step d so before y row (front_of d so before low (omega (arith, high)) f) (at_some (λ z. SpellsLink d (access_names so.list.accesses) z row) (link_in d so.list x) y (link_spells d so.list x row h) e))))
    (λ e. tt)
entry_kept d so before line.End row at allowed h f = end_kept d so before row at h f

meaning_kept : (d : ModelData) (so : Declared) (before : List Row) (o : Option Line) (row : Row) → IfSome o (λ l. Shape l row) → Spelt d so before → IfOk (meaning d so o) (Leaves d so before row)
meaning_kept d so before None row h f = tt
meaning_kept d so before (Some l) row h f =
    chosen_ok (Leaves d so before row) (may_follow sections so.place (standing l) && is_allowed so.keeps l) (entry_of d so.list l) (Err Form)
    (λ e. let p = and_parts (may_follow sections so.place (standing l)) (is_allowed so.keeps l) e in entry_kept d so before l row p.0 p.1 h f)
    (λ e. tt)

row_shape : (row : Row) → IfSome (spelled_row row) (λ l. Shape l row)
row_shape [] = tt
row_shape (t ∷ ts) = spelled_shape t ts

rows_spell : (d : ModelData) (so to : Declared) (before rows : List Row) → Spelt d so before → AreRead d so rows to → Spelt d to (before ++ rows)
rows_spell d so to before [] f h = subst (λ (x : Declared). Spelt d x (before ++ [])) h (subst (Spelt d so) (sym (append-nil before)) f)
rows_spell d so to before (row ∷ rows) f h =
    let one = at_ok (Leaves d so before row) (meaning d so (spelled_row row)) h.0 (meaning_kept d so before (spelled_row row) row (row_shape row) f) h.1 in
    subst (Spelt d to) (append_assoc before (row ∷ []) rows) (rows_spell d (added so h.0) to (snoc before row) rows one h.2)

-- lines that are read up to the end spell what they declare
pub read_spells : (d : ModelData) (to : Declared) (rows : List Row) → to.place ≡ 7 → AreRead d nothing rows to → Spell d to.list rows
read_spells d to rows seven h = whole (rows_spell d nothing to [] rows (inl (refl, refl, refl)) h)
  where
    whole : Spelt d to rows → Spell d to.list rows
    whole (inl f) = absurd (omega (arith, seven, f.0))
    whole (inr (inl f)) = absurd (omega (arith, seven, f.0))
    whole (inr (inr (inl f))) = absurd (omega (arith, seven, f.1))
    whole (inr (inr (inr f))) = f.1
