-- Each line that is not at fault leaves a list of the model.
use Rattle.std.proofs.Common.{◌≡◌, ℕ, ◌^◌, ◌<◌, ◌≤◌, Bool, true, false, cond, ltb, leb, ◌&&◌, List, [], ◌∷◌, ◌++◌, length, Option, Some, None, Ok, Err, refl, sym, subst, arith}
use Rattle.std.specs.Prelude.{map, slice_get, IfOk, IfSome, IsTrue, IsSomeAnd, All}
use Rattle.std.specs.Option.{option_map_or}
use Rattle.std.proofs.lemmas.Bool.{and_parts, leb-true, ltb-true}
use Rattle.std.proofs.lemmas.Option.{option_and_then_some}
use Rattle.std.proofs.lemmas.List.{length_push, length-map, map_push}
use Rattle.std.proofs.lemmas.List.Elements.{All-nil, All-cons, All-head, All-tail, All-push, All-weaker}
use Rattle.dt_lemmas.proofs.Options.{chosen_ok, at_ok, at_some, some_if, made_some}
use Rattle.dt_lemmas.proofs.Positions.{position_below}
use Rattle.dt_lex.specs.declared.name.Name.{Name}
use Rattle.dt_lex.specs.Names.{same_name, IsName}
use Rattle.dt_lex.specs.Reading.{last_of}
use Rattle.dt_lex.specs.Sections.{may_follow}
use Rattle.dt_model.specs.ModelData.{ModelData, ActData}
use Rattle.dt_model.specs.Bounds.{bounds_fit}
use Rattle.dt_model.specs.Faults.{is_named, steps, is_read}
use Rattle.dt_model.specs.Positions.{position_of}
use Rattle.dt_model.proofs.BoundsFit.{bounds_are}
use Rattle.dt_request.specs.declared.fault.Cause.TheVariants.{Form, TooMany, Twice}
use Rattle.dt_request.specs.declared.list.Quantity.{Quantity}
use Rattle.dt_request.specs.declared.list.Demand.{Demand}
use Rattle.dt_request.specs.declared.list.Demand.TheVariants as demand
use Rattle.dt_request.specs.declared.list.KeptRange.{KeptRange}
use Rattle.dt_request.specs.declared.list.AccessWish.{AccessWish}
use Rattle.dt_request.specs.declared.list.Requests.{Requests}
use Rattle.dt_request.specs.declared.asked.AskedQuantity.{AskedQuantity}
use Rattle.dt_request.specs.declared.asked.AskedDemand.{AskedDemand}
use Rattle.dt_request.specs.declared.asked.AskedDemand.TheVariants as asked
use Rattle.dt_request.specs.declared.asked.AskedSide.{AskedSide}
use Rattle.dt_request.specs.declared.asked.AskedLink.{AskedLink}
use Rattle.dt_request.specs.declared.asked.AskedLink.TheVariants as asked_link
use Rattle.dt_request.specs.declared.asked.Line.{Line}
use Rattle.dt_request.specs.declared.asked.Line.TheVariants as line
use Rattle.dt_request.specs.declared.entry.Entry.{Entry}
use Rattle.dt_request.specs.declared.entry.Entry.TheVariants as entry
use Rattle.dt_request.specs.declared.list.Side.{Side}
use Rattle.dt_request.specs.declared.list.Link.{Link}
use Rattle.dt_request.specs.declared.list.Link.TheVariants.{ShareTable, ShareCell, SharePage, ApartTable, ApartPage}
use Rattle.dt_request.specs.Lists.{AreNames, IsNode, is_fork, width_of, CanBe, IsDemand, IsWish, access_names, IsSide, IsLink, IsKept, IsList}
use Rattle.dt_request.specs.Line.{spelled}
use Rattle.dt_request.specs.Entry.{Declared, sections, standing, is_allowed, node_names, is_step, step_where, quantity_in, side_in, sides_in, pages_in, link_in, can_be, measured_in, demand_in, access_at, last_demands, entry_of, meaning}
use Rattle.dt_request.specs.Draft.{nothing, with_demand, list_with, added}
use Rattle.dt_request.proofs.Demands.{length_with, names_with}
use Rattle.dt_request.proofs.Results.{known_ok, known_then, range_ok, then_ok, chained, itself}
use Rattle.dt_request.proofs.Names.{HasNames, spelled_names, names_push}

-- ---- one more demand

wish_with : (d : ModelData) (n : ℕ) (a : AccessWish) (x : Demand) → length a.demands < 64 → IsDemand d x → IsWish d n a → IsWish d n (record a { demands = a.demands ++ x ∷ [] })
wish_with d n a x few x_is h = record {
  context = h.context;
  few_demands = omega (arith, length_push a.demands x);
  demands = All-push (IsDemand d) a.demands x h.demands x_is;
}

wishes_with : (d : ModelData) (n : ℕ) (ds : List Demand) (wishes : List AccessWish) (x : Demand) → length (last_of ds (map (λ (a : AccessWish). a.demands) wishes)) < 64 → IsDemand d x → All (IsWish d n) wishes → All (IsWish d n) (with_demand wishes x)
wishes_with d n ds [] x few x_is h = h
wishes_with d n ds (a ∷ []) x few x_is h = All-cons (IsWish d n) _ [] (wish_with d n a x few x_is (All-head (IsWish d n) a [] h)) (All-nil (IsWish d n))
wishes_with d n ds (a ∷ b ∷ wishes) x few x_is h = All-cons (IsWish d n) a _ (All-head (IsWish d n) a (b ∷ wishes) h) (wishes_with d n a.demands (b ∷ wishes) x few x_is (All-tail (IsWish d n) a (b ∷ wishes) h))

-- ---- links over more accesses

side_kept : (d : ModelData) (m n : ℕ) (s : Side) → m ≤ n → IsSide d m s → IsSide d n s
side_kept d m n s le h = (omega (arith, h.0), h.1)

link_kept : (d : ModelData) (m n : ℕ) → m ≤ n → (l : Link) → IsLink d m l → IsLink d n l
link_kept d m n le (ShareTable a b) h = (side_kept d m n a le h.0, side_kept d m n b le h.1)
link_kept d m n le (ShareCell a b) h = (side_kept d m n a le h.0, side_kept d m n b le h.1)
link_kept d m n le (SharePage a b) h = (omega (arith, h.0), omega (arith, h.1))
link_kept d m n le (ApartTable a b) h = (side_kept d m n a le h.0, side_kept d m n b le h.1)
link_kept d m n le (ApartPage a b) h = (omega (arith, h.0), omega (arith, h.1))

links_kept : (d : ModelData) (m n : ℕ) → m ≤ n → (ls : List Link) → All (IsLink d m) ls → All (IsLink d n) ls
links_kept d m n le ls h = All-weaker (IsLink d m) (IsLink d n) (link_kept d m n le) ls h

-- ---- one more entry

-- the entry leaves a list of the model
abbrev pub Leaves : ModelData → Requests → Entry → Type 0
Leaves d r e = IsList d (list_with r e)

tables_kept : (d : ModelData) (r : Requests) (lo hi : ℕ) → bounds_fit d lo hi ≡ true → IsList d r → Leaves d r (entry.Tables lo hi)
tables_kept d r lo hi fit h =
    record {
      bounds = bounds_are d lo hi fit;
      few_kept = h.few_kept;
      kept = h.kept;
      few_contexts = h.few_contexts;
      contexts = h.contexts;
      few_accesses = h.few_accesses;
      names = h.names;
      accesses = h.accesses;
      few_links = h.few_links;
      links = h.links;
    }

further : (d : ModelData) (m n : ℕ) (a : AccessWish) → m ≤ n → IsWish d m a → IsWish d n a
further d m n a le h = record { context = omega (arith, h.context); few_demands = h.few_demands; demands = h.demands }

context_kept : (d : ModelData) (r : Requests) (name : Name) → IsName name → ltb (length r.contexts) 16 ≡ true → is_named r.contexts name ≡ false → IsList d r → Leaves d r (entry.Context name)
context_kept d r name is few none h =
    let more = length_push r.contexts name in
    let small = ltb-true (length r.contexts) 16 few in
    record {
      bounds = h.bounds;
      few_kept = h.few_kept;
      kept = h.kept;
      few_contexts = omega (arith, more, small);
      contexts = names_push r.contexts name is none h.contexts;
      few_accesses = h.few_accesses;
      names = h.names;
      accesses = All-weaker (IsWish d (length r.contexts)) (IsWish d (length (r.contexts ++ name ∷ []))) (λ a. further d (length r.contexts) (length (r.contexts ++ name ∷ [])) a (omega (arith, more))) r.accesses h.accesses;
      few_links = h.few_links;
      links = h.links;
    }

access_kept : (d : ModelData) (r : Requests) (name : Name) (k : ℕ) → IsName name → ltb (length r.accesses) 64 ≡ true → k < length r.contexts → is_named (access_names r.accesses) name ≡ false → IsList d r → Leaves d r (entry.Access name k)
access_kept d r name k is few within none h =
    let a : AccessWish = record { name = name; context = k; demands = [] } in
    let small = ltb-true (length r.accesses) 64 few in
    record {
      bounds = h.bounds;
      few_kept = h.few_kept;
      kept = h.kept;
      few_contexts = h.few_contexts;
      contexts = h.contexts;
      few_accesses = omega (arith, length_push r.accesses a, small);
      names = subst AreNames (sym (map_push (λ (w : AccessWish). w.name) r.accesses a)) (names_push (access_names r.accesses) name is none h.names);
      accesses = All-push (IsWish d (length r.contexts)) r.accesses a h.accesses (record { context = within; few_demands = omega arith; demands = All-nil (IsDemand d) });
      few_links = h.few_links;
      links = links_kept d (length r.accesses) (length (r.accesses ++ a ∷ [])) (omega (arith, length_push r.accesses a)) r.links h.links;
    }

demand_kept : (d : ModelData) (r : Requests) (x : Demand) → ltb (length (last_demands r.accesses)) 64 ≡ true → IsDemand d x → IsList d r → Leaves d r (entry.Demand x)
demand_kept d r x few is h = record {
  bounds = h.bounds;
  few_kept = h.few_kept;
  kept = h.kept;
  few_contexts = h.few_contexts;
  contexts = h.contexts;
  few_accesses = omega (arith, length_with r.accesses x, h.few_accesses);
  names = subst AreNames (sym (names_with r.accesses x)) h.names;
  accesses = wishes_with d (length r.contexts) [] r.accesses x (ltb-true (length (last_demands r.accesses)) 64 few) is h.accesses;
  few_links = h.few_links;
  links = links_kept d (length r.accesses) (length (with_demand r.accesses x)) (omega (arith, length_with r.accesses x)) r.links h.links;
}

kept_kept : (d : ModelData) (r : Requests) (range : KeptRange) → ltb (length r.kept) 16 ≡ true → IsKept d range → IsList d r → Leaves d r (entry.Keep range)
kept_kept d r range few is h = record {
  bounds = h.bounds;
  few_kept = omega (arith, length_push r.kept range, ltb-true (length r.kept) 16 few);
  kept = All-push (IsKept d) r.kept range h.kept is;
  few_contexts = h.few_contexts;
  contexts = h.contexts;
  few_accesses = h.few_accesses;
  names = h.names;
  accesses = h.accesses;
  few_links = h.few_links;
  links = h.links;
}

link_more : (d : ModelData) (r : Requests) (l : Link) → ltb (length r.links) 256 ≡ true → IsLink d (length r.accesses) l → IsList d r → Leaves d r (entry.Link l)
link_more d r l few is h = record {
  bounds = h.bounds;
  few_kept = h.few_kept;
  kept = h.kept;
  few_contexts = h.few_contexts;
  contexts = h.contexts;
  few_accesses = h.few_accesses;
  names = h.names;
  accesses = h.accesses;
  few_links = omega (arith, length_push r.links l, ltb-true (length r.links) 256 few);
  links = All-push (IsLink d (length r.accesses)) r.links l h.links is;
}

-- ---- what names stand for

node_is : (d : ModelData) (name : Name) (i : ℕ) → position_of (node_names d) name ≡ Some i → IsNode d i
node_is d name i e = omega (arith, position_below (same_name name) (node_names d) i e, length-map d.nodes (λ n. n.name))

access_is : (so : Requests) (name : Name) (i : ℕ) → position_of (access_names so.accesses) name ≡ Some i → i < length so.accesses
access_is so name i e = omega (arith, position_below (same_name name) (access_names so.accesses) i e, length-map so.accesses (λ a. a.name))

step_holds : (kind : ActData → Bool) (o : Option ActData) → option_map_or kind o false ≡ true → IsSomeAnd o (λ p. IsTrue (kind p))
step_holds kind None e = absurd cc
step_holds kind (Some p) e = e

-- a node that is found by its kind is of the kind
step_is : (kind : ActData → Bool) (d : ModelData) (name : Name) (i : ℕ) → step_where kind d name ≡ Some i → IsSomeAnd (slice_get (steps d) i) (λ p. IsTrue (kind p))
step_is kind d name i e =
    option_and_then_some (λ k. cond (is_step kind d k) (Some k) None) (position_of (node_names d) name) i e (λ k at is.
    let p = some_if (is_step kind d k) k i is in
    step_holds kind (slice_get (steps d) i) (subst (λ (j : ℕ). is_step kind d j ≡ true) p.1 p.0))

can_is : (o : Option ℕ) (n : ℕ) → option_map_or (λ w. ltb n (2 ^ w)) o false ≡ true → IsSomeAnd o (λ w. n < 2 ^ w)
can_is None n e = absurd cc
can_is (Some w) n e = ltb-true n (2 ^ w) e

-- ---- demands

abbrev CanBoth : ModelData → ℕ → ℕ → Quantity → Type 0
CanBoth d m n q = CanBe d q m × CanBe d q n

measured_is : (d : ModelData) (of : AskedQuantity) (m n : ℕ) → IfOk (measured_in d of m n) (CanBoth d m n)
measured_is d of m n =
    known_then (CanBoth d m n) (quantity_in d of) _ (λ q at.
    range_ok (CanBoth d m n) (can_be d q m && can_be d q n) q (λ e.
    let p = and_parts (can_be d q m) (can_be d q n) e in
    (can_is (width_of d q) m p.0, can_is (width_of d q) n p.1)))

demand_is : (d : ModelData) (x : AskedDemand) → IfOk (demand_in d x) (IsDemand d)
demand_is d (asked.Via name) = known_ok (IsDemand d) (position_of (node_names d) name) (λ i. demand.Via i) (λ i e. node_is d name i e)
demand_is d (asked.Avoid name) = known_ok (IsDemand d) (position_of (node_names d) name) (λ i. demand.Avoid i) (λ i e. node_is d name i e)
demand_is d (asked.Take name by_then) = known_ok (IsDemand d) (step_where is_fork d name) (λ i. demand.Take i by_then) (λ i e. step_is is_fork d name i e)
demand_is d asked.EndDone = tt
demand_is d (asked.EndFault code) = range_ok (IsDemand d) (leb code 65535) (demand.EndFault code) (λ e. leb-true code 65535 e)
demand_is d (asked.Page exponent) = range_ok (IsDemand d) (leb exponent d.address) (demand.Page exponent) (λ e. leb-true exponent d.address e)
demand_is d (asked.Bits of mask value) = then_ok (CanBoth d mask value) (IsDemand d) (measured_in d of mask value) (λ q. demand.Bits q mask value) (measured_is d of mask value) (λ q h. h)
demand_is d (asked.Span of lo hi) = then_ok (CanBoth d lo hi) (IsDemand d) (measured_in d of lo hi) (λ q. demand.Span q lo hi) (measured_is d of lo hi) (λ q h. h)

-- ---- links

side_is : (d : ModelData) (so : Requests) (s : AskedSide) → IfSome (side_in d so s) (IsSide d (length so.accesses))
side_is d so s =
    let at = position_of (access_names so.accesses) s.access in
    chained (λ a. at ≡ Some a) (IsSide d (length so.accesses)) at _ (itself at) (λ a e.
    made_some (λ n. step_where is_read d s.node ≡ Some n) (IsSide d (length so.accesses)) (step_where is_read d s.node) _ (itself (step_where is_read d s.node)) (λ n f. (access_is so s.access a e, step_is is_read d s.node n f)))

sides_are : (d : ModelData) (so : Requests) (a b : AskedSide) → IfSome (sides_in d so a b) (λ x. IsSide d (length so.accesses) x.0 × IsSide d (length so.accesses) x.1)
sides_are d so a b =
    chained (IsSide d (length so.accesses)) (λ x. IsSide d (length so.accesses) x.0 × IsSide d (length so.accesses) x.1) (side_in d so a) _ (side_is d so a) (λ x h.
    made_some (IsSide d (length so.accesses)) (λ x. IsSide d (length so.accesses) x.0 × IsSide d (length so.accesses) x.1) (side_in d so b) _ (side_is d so b) (λ y k. (h, k)))

pages_are : (so : Requests) (a b : Name) → IfSome (pages_in so a b) (λ x. (x.0 < length so.accesses) × (x.1 < length so.accesses))
pages_are so a b =
    let first = position_of (access_names so.accesses) a in
    let second = position_of (access_names so.accesses) b in
    chained (λ x. first ≡ Some x) (λ x. (x.0 < length so.accesses) × (x.1 < length so.accesses)) first _ (itself first) (λ x h.
    made_some (λ y. second ≡ Some y) (λ x. (x.0 < length so.accesses) × (x.1 < length so.accesses)) second _ (itself second) (λ y k. (access_is so a x h, access_is so b y k)))

link_is : (d : ModelData) (so : Requests) (x : AskedLink) → IfSome (link_in d so x) (IsLink d (length so.accesses))
link_is d so (asked_link.ShareTable a b) = made_some _ (IsLink d (length so.accesses)) (sides_in d so a b) (λ x. ShareTable x.0 x.1) (sides_are d so a b) (λ x h. h)
link_is d so (asked_link.ShareCell a b) = made_some _ (IsLink d (length so.accesses)) (sides_in d so a b) (λ x. ShareCell x.0 x.1) (sides_are d so a b) (λ x h. h)
link_is d so (asked_link.SharePage a b) = made_some _ (IsLink d (length so.accesses)) (pages_in so a b) (λ x. SharePage x.0 x.1) (pages_are so a b) (λ x h. h)
link_is d so (asked_link.ApartTable a b) = made_some _ (IsLink d (length so.accesses)) (sides_in d so a b) (λ x. ApartTable x.0 x.1) (sides_are d so a b) (λ x h. h)
link_is d so (asked_link.ApartPage a b) = made_some _ (IsLink d (length so.accesses)) (pages_in so a b) (λ x. ApartPage x.0 x.1) (pages_are so a b) (λ x h. h)

-- ---- one more line

place_kept : (d : ModelData) (r : Requests) (name context : Name) (o : Option ℕ) → IsName name → ltb (length r.accesses) 64 ≡ true → o ≡ position_of r.contexts context → IsList d r → IfOk (access_at r name o) (Leaves d r)
place_kept d r name context None is few e h = tt
place_kept d r name context (Some k) is few e h =
    chosen_ok (Leaves d r) (is_named (access_names r.accesses) name) (Err Twice) (Ok (entry.Access name k)) (λ _. tt)
    (λ none. access_kept d r name k is few (position_below (same_name context) r.contexts k (sym e)) none h)

entry_kept : (d : ModelData) (r : Requests) (l : Line) → HasNames l → IsList d r → IfOk (entry_of d r l) (Leaves d r)
entry_kept d r (line.Header keeps) names h = h
entry_kept d r (line.Tables lo hi) names h = range_ok (Leaves d r) (bounds_fit d lo hi) (entry.Tables lo hi) (λ fit. tables_kept d r lo hi fit h)
entry_kept d r (line.Keep lo hi) names h =
    chosen_ok (Leaves d r) (ltb (length r.kept) 16) _ (Err TooMany)
    (λ few. range_ok (Leaves d r) (leb lo hi && leb hi (2 ^ d.address)) (entry.Keep (record { lo = lo; hi = hi })) (λ e.
    let p = and_parts (leb lo hi) (leb hi (2 ^ d.address)) e in
    kept_kept d r (record { lo = lo; hi = hi }) few (record { rising = leb-true lo hi p.0; within = leb-true hi (2 ^ d.address) p.1 }) h))
    (λ e. tt)
entry_kept d r (line.Context name) names h =
    chosen_ok (Leaves d r) (ltb (length r.contexts) 16) _ (Err TooMany)
    (λ few. chosen_ok (Leaves d r) (is_named r.contexts name) (Err Twice) (Ok (entry.Context name)) (λ e. tt) (λ none. context_kept d r name names few none h))
    (λ e. tt)
entry_kept d r (line.Access name context) names h =
    chosen_ok (Leaves d r) (ltb (length r.accesses) 64) _ (Err TooMany) (λ few. place_kept d r name context (position_of r.contexts context) names few refl h) (λ e. tt)
entry_kept d r (line.Demand x) names h =
    chosen_ok (Leaves d r) (ltb (length (last_demands r.accesses)) 64) _ (Err TooMany)
    (λ few. then_ok (IsDemand d) (Leaves d r) (demand_in d x) (λ y. entry.Demand y) (demand_is d x) (λ y is. demand_kept d r y few is h))
    (λ e. tt)
entry_kept d r (line.Link x) names h =
    chosen_ok (Leaves d r) (ltb (length r.links) 256) _ (Err TooMany)
    (λ few. known_then (Leaves d r) (link_in d r x) _ (λ y at. link_more d r y few (at_some (IsLink d (length r.accesses)) (link_in d r x) y (link_is d r x) at) h))
    (λ e. tt)
entry_kept d r line.End names h = h

meaning_kept : (d : ModelData) (so : Declared) (o : Option Line) → IfSome o HasNames → IsList d so.list → IfOk (meaning d so o) (Leaves d so.list)
meaning_kept d so None names h = tt
meaning_kept d so (Some l) names h =
    chosen_ok (Leaves d so.list) (may_follow sections so.place (standing l) && is_allowed so.keeps l) (entry_of d so.list l) (Err Form)
    (λ at. entry_kept d so.list l names h)
    (λ e. tt)

pub list_kept : (d : ModelData) (so new : Declared) (t : List ℕ) (ts : List (List ℕ)) (e : Entry) → IsList d so.list → meaning d so (spelled t ts) ≡ Ok e → new ≡ added so e → IsList d new.list
list_kept d so new t ts e h is grown =
    subst (λ (x : Declared). IsList d x.list) (sym grown) (at_ok (Leaves d so.list) (meaning d so (spelled t ts)) e (meaning_kept d so (spelled t ts) (spelled_names t ts) h) is)

-- ---- no line

pub list_start : (d : ModelData) → IsList d (record { lo = 0; hi = 0; kept = []; contexts = []; accesses = []; links = [] })
list_start d = record {
  bounds = record { lo_whole = omega arith; hi_whole = omega arith; rising = omega arith; within = omega arith };
  few_kept = omega arith;
  kept = All-nil (IsKept d);
  few_contexts = omega arith;
  contexts = record { spelled = All-nil IsName; distinct = λ i j n l m. absurd (omega arith) };
  few_accesses = omega arith;
  names = record { spelled = All-nil IsName; distinct = λ i j n l m. absurd (omega arith) };
  accesses = All-nil (IsWish d 0);
  few_links = omega arith;
  links = All-nil (IsLink d 0);
}

pub list_starts : (d : ModelData) (so : Declared) → so ≡ nothing → IsList d so.list
list_starts d so is = subst (λ (x : Declared). IsList d x.list) (sym is) (list_start d)
