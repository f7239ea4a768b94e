-- What a line of a request list means where it stands: its entry, or the first thing that is wrong with it.
use Rattle.std.specs.Prelude.{ℕ, ◌^◌, nat_lt, nat_le, Bool, true, false, ◌&&◌, List, [], ◌∷◌, length, map, Option, Some, None, option_map, option_and_then, slice_get, Result, Ok, Err, if◌then◌else◌}
use Rattle.std.specs.Option.{option_map_or}
use Rattle.dt_lex.specs.declared.name.Name.{Name}
use Rattle.dt_lex.specs.declared.section.Section.{Section}
use Rattle.dt_lex.specs.declared.section.Standing.{Standing}
use Rattle.dt_lex.specs.declared.section.Standing.TheVariants.{In, Behind}
use Rattle.dt_lex.specs.Reading.{last_of, ◌>>=◌}
use Rattle.dt_lex.specs.Sections.{one, any, may_follow}
use Rattle.dt_model.specs.Limits.{most_code}
use Rattle.dt_model.specs.ModelData.{ModelData, ActData}
use Rattle.dt_model.specs.Bounds.{bounds_fit}
use Rattle.dt_model.specs.Faults.{is_named, names_of, steps, is_read}
use Rattle.dt_model.specs.Positions.{position_of}
use Rattle.dt_request.specs.declared.fault.Cause.{Cause}
use Rattle.dt_request.specs.declared.fault.Cause.TheVariants.{Form, TooMany, Unknown, Twice, OutOfRange}
use Rattle.dt_request.specs.declared.list.Quantity.{Quantity}
use Rattle.dt_request.specs.declared.list.Quantity.TheVariants as quantity
use Rattle.dt_request.specs.declared.list.Demand.{Demand}
use Rattle.dt_request.specs.declared.list.Demand.TheVariants as demand
use Rattle.dt_request.specs.declared.list.Side.{Side}
use Rattle.dt_request.specs.declared.list.Link.{Link}
use Rattle.dt_request.specs.declared.list.Link.TheVariants as link
use Rattle.dt_request.specs.declared.list.AccessWish.{AccessWish}
use Rattle.dt_request.specs.declared.list.Requests.{Requests}
use Rattle.dt_request.specs.declared.asked.AskedQuantity.{AskedQuantity}
use Rattle.dt_request.specs.declared.asked.AskedQuantity.TheVariants.{Reg, Input, Word, Cell, Pa}
use Rattle.dt_request.specs.declared.asked.AskedDemand.{AskedDemand}
use Rattle.dt_request.specs.declared.asked.AskedDemand.TheVariants.{Via, Avoid, Take, EndDone, EndFault, Page, Bits, Span}
use Rattle.dt_request.specs.declared.asked.AskedSide.{AskedSide}
use Rattle.dt_request.specs.declared.asked.AskedLink.{AskedLink}
use Rattle.dt_request.specs.declared.asked.AskedLink.TheVariants.{ShareTable, ShareCell, SharePage, ApartTable, ApartPage}
use Rattle.dt_request.specs.declared.asked.Line.{Line}
use Rattle.dt_request.specs.declared.asked.Line.TheVariants as line
use Rattle.dt_request.specs.declared.entry.Entry.{Entry}
use Rattle.dt_request.specs.declared.entry.Entry.TheVariants as entry
use Rattle.dt_request.specs.Limits.{most_kept, most_contexts, most_accesses, most_demands, most_links}
use Rattle.dt_request.specs.Lists.{is_fork, width_of, access_names}

-- how far the text has come, whether kept ranges may stand in it, and the list so far
pub record Declared : Type 0 where
  pub place : ℕ
  pub keeps : Bool
  pub list : Requests

-- ---- where a line may stand

-- the header, the bounds, kept ranges, contexts, accesses with their demands, links, and the end
abbrev pub sections : List Section
sections = one ∷ one ∷ any ∷ any ∷ any ∷ any ∷ one ∷ []

abbrev pub standing : Line → Standing
standing (line.Header keeps) = In 0
standing (line.Tables lo hi) = In 1
standing (line.Keep lo hi) = In 2
standing (line.Context name) = In 3
standing (line.Access name context) = In 4
standing (line.Demand x) = Behind 4
standing (line.Link x) = In 5
standing line.End = In 6

-- kept ranges stand behind `requests 2` alone
abbrev pub is_allowed : Bool → Line → Bool
is_allowed keeps (line.Keep lo hi) = keeps
is_allowed keeps _ = true

-- ---- what names stand for

abbrev pub node_names : ModelData → List Name
node_names d = map (λ n. n.name) d.nodes

-- the step of the node at a position is of this kind
abbrev pub is_step : (ActData → Bool) → ModelData → ℕ → Bool
is_step kind d i = option_map_or kind (slice_get (steps d) i) false

-- the position of a node of this kind
abbrev pub step_where : (ActData → Bool) → ModelData → Name → Option ℕ
step_where kind d name = option_and_then (λ i. if is_step kind d i then Some i else None) (position_of (node_names d) name)

abbrev pub quantity_in : ModelData → AskedQuantity → Option Quantity
quantity_in d (Reg name) = option_map (λ i. quantity.Reg i) (position_of (names_of d.regs) name)
quantity_in d (Input name) = option_map (λ i. quantity.Input i) (position_of (names_of d.inputs) name)
quantity_in d (Word name) = option_map (λ i. quantity.Word i) (step_where is_read d name)
quantity_in d (Cell name) = option_map (λ i. quantity.Cell i) (step_where is_read d name)
quantity_in d Pa = Some quantity.Pa

abbrev pub side_in : ModelData → Requests → AskedSide → Option Side
side_in d so s = option_and_then (λ a. option_map (λ n. record { access = a; node = n }) (step_where is_read d s.node)) (position_of (access_names so.accesses) s.access)

-- both sides of a link
abbrev pub sides_in : ModelData → Requests → AskedSide → AskedSide → Option (Side × Side)
sides_in d so a b = option_and_then (λ x. option_map (λ y. (x, y)) (side_in d so b)) (side_in d so a)

-- both accesses of a link
abbrev pub pages_in : Requests → Name → Name → Option (ℕ × ℕ)
pages_in so a b = option_and_then (λ x. option_map (λ y. (x, y)) (position_of (access_names so.accesses) b)) (position_of (access_names so.accesses) a)

abbrev pub link_in : ModelData → Requests → AskedLink → Option Link
link_in d so (ShareTable a b) = option_map (λ x. link.ShareTable x.0 x.1) (sides_in d so a b)
link_in d so (ShareCell a b) = option_map (λ x. link.ShareCell x.0 x.1) (sides_in d so a b)
link_in d so (SharePage a b) = option_map (λ x. link.SharePage x.0 x.1) (pages_in so a b)
link_in d so (ApartTable a b) = option_map (λ x. link.ApartTable x.0 x.1) (sides_in d so a b)
link_in d so (ApartPage a b) = option_map (λ x. link.ApartPage x.0 x.1) (pages_in so a b)

-- ---- what is wrong with a line

abbrev pub known : {X : Type 0} → Option X → Result X Cause
known None = Err Unknown
known (Some x) = Ok x

abbrev pub in_range : {X : Type 0} → Bool → X → Result X Cause
in_range fits x = if fits then Ok x else Err OutOfRange

abbrev pub keep_entry : ModelData → Requests → ℕ → ℕ → Result Entry Cause
keep_entry d so lo hi = if nat_lt (length so.kept) most_kept then in_range (nat_le lo hi && nat_le hi (2 ^ d.address)) (entry.Keep (record { lo = lo; hi = hi })) else Err TooMany

abbrev pub context_entry : Requests → Name → Result Entry Cause
context_entry so name = if nat_lt (length so.contexts) most_contexts then (if is_named so.contexts name then Err Twice else Ok (entry.Context name)) else Err TooMany

-- an access whose context has this place
abbrev pub access_at : Requests → Name → Option ℕ → Result Entry Cause
access_at so name None = Err Unknown
access_at so name (Some k) = if is_named (access_names so.accesses) name then Err Twice else Ok (entry.Access name k)

abbrev pub access_entry : Requests → Name → Name → Result Entry Cause
access_entry so name context = if nat_lt (length so.accesses) most_accesses then access_at so name (position_of so.contexts context) else Err TooMany

-- the quantity can be this number
abbrev pub can_be : ModelData → Quantity → ℕ → Bool
can_be d q n = option_map_or (λ w. nat_lt n (2 ^ w)) (width_of d q) false

-- the quantity of these names, which can be both numbers
abbrev pub measured_in : ModelData → AskedQuantity → ℕ → ℕ → Result Quantity Cause
measured_in d of m n = known (quantity_in d of) >>= λ q. in_range (can_be d q m && can_be d q n) q

abbrev pub demand_in : ModelData → AskedDemand → Result Demand Cause
demand_in d (Via name) = known (position_of (node_names d) name) >>= λ i. Ok (demand.Via i)
demand_in d (Avoid name) = known (position_of (node_names d) name) >>= λ i. Ok (demand.Avoid i)
demand_in d (Take name by_then) = known (step_where is_fork d name) >>= λ i. Ok (demand.Take i by_then)
demand_in d EndDone = Ok demand.EndDone
demand_in d (EndFault code) = in_range (nat_le code most_code) (demand.EndFault code)
demand_in d (Page exponent) = in_range (nat_le exponent d.address) (demand.Page exponent)
demand_in d (Bits of mask value) = measured_in d of mask value >>= λ q. Ok (demand.Bits q mask value)
demand_in d (Span of lo hi) = measured_in d of lo hi >>= λ q. Ok (demand.Span q lo hi)

-- the demands of the last access
abbrev pub last_demands : List AccessWish → List Demand
last_demands wishes = last_of [] (map (λ a. a.demands) wishes)

abbrev pub demand_entry : ModelData → Requests → AskedDemand → Result Entry Cause
demand_entry d so x = if nat_lt (length (last_demands so.accesses)) most_demands then (demand_in d x >>= λ y. Ok (entry.Demand y)) else Err TooMany

abbrev pub link_entry : ModelData → Requests → AskedLink → Result Entry Cause
link_entry d so x = if nat_lt (length so.links) most_links then (known (link_in d so x) >>= λ y. Ok (entry.Link y)) else Err TooMany

-- the entry of a line that may stand here, after the list so far
abbrev pub entry_of : ModelData → Requests → Line → Result Entry Cause
entry_of d so (line.Header keeps) = Ok (entry.Header keeps)
entry_of d so (line.Tables lo hi) = in_range (bounds_fit d lo hi) (entry.Tables lo hi)
entry_of d so (line.Keep lo hi) = keep_entry d so lo hi
entry_of d so (line.Context name) = context_entry so name
entry_of d so (line.Access name context) = access_entry so name context
entry_of d so (line.Demand x) = demand_entry d so x
entry_of d so (line.Link x) = link_entry d so x
entry_of d so line.End = Ok entry.End

-- what a line means after lines that declared this, or the first thing that is wrong with it
abbrev pub meaning : ModelData → Declared → Option Line → Result Entry Cause
meaning d so None = Err Form
meaning d so (Some l) = if may_follow sections so.place (standing l) && is_allowed so.keeps l then entry_of d so.list l else Err Form
