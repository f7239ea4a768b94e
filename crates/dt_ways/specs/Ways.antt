-- Where a walk may go that meets what a list asks of its access, whatever is in memory.
use Rattle.std.specs.Prelude.{ℕ, ◌+◌, ◌==◌, nat_le, nat_lt, Bool, true, false, not, ◌&&◌, ◌||◌, if◌then◌else◌, List, [], ◌∷◌, ◌++◌, map, Option, Some, None, slice_get}
use Rattle.std.specs.List.{flat_map, list_any, list_all}
use Rattle.dt_model.specs.ModelData.{ModelData, ActData, bind, read, branch, fault, done}
use Rattle.dt_model.specs.Faults.{steps}
use Rattle.dt_request.specs.declared.list.AccessWish.{AccessWish}
use Rattle.dt_request.specs.declared.list.Demand.{Demand}
use Rattle.dt_request.specs.declared.list.Demand.TheVariants.{Via, Avoid, Take, EndDone, EndFault, Page, Bits, Span}
use Rattle.dt_request.specs.declared.list.Link.{Link}
use Rattle.dt_request.specs.declared.list.Link.TheVariants.{ShareTable, ShareCell, SharePage, ApartTable, ApartPage}
use Rattle.dt_request.specs.declared.list.Quantity.{Quantity}
use Rattle.dt_request.specs.declared.list.Quantity.TheVariants.{Reg, Input, Word, Cell, Pa}
use Rattle.dt_request.specs.declared.list.Requests.{Requests}
use Rattle.dt_request.specs.declared.list.Side.{Side}
use Rattle.dt_ways.specs.Ends.{is_end, ends_done, ends_fault, ends_page}
use Rattle.dt_reach.specs.declared.ways.Ways.{Ways}

-- ---- what is asked of where a walk goes

-- a demand on the word or the cell of a read asks that the read is made, one on the physical address that there is a result
abbrev pub quantity_asks : Demand → Quantity → Demand
quantity_asks q (Reg i) = q
quantity_asks q (Input i) = q
quantity_asks q (Word n) = Take n true
quantity_asks q (Cell n) = Take n true
quantity_asks q Pa = EndDone

abbrev pub asks : Demand → Demand
asks (Bits of mask value) = quantity_asks (Bits of mask value) of
asks (Span of lo hi) = quantity_asks (Span of lo hi) of
asks (Via n) = Via n
asks (Avoid n) = Avoid n
asks (Take n by_then) = Take n by_then
asks EndDone = EndDone
asks (EndFault code) = EndFault code
asks (Page exponent) = Page exponent

-- a link asks of the walk of access k that its reads are made, and that its page exists
abbrev pub side_asks : ℕ → Side → List Demand
side_asks k s = if s.access == k then Take s.node true ∷ [] else []

abbrev pub page_asks : ℕ → ℕ → List Demand
page_asks k j = if j == k then EndDone ∷ [] else []

abbrev pub link_asks : ℕ → Link → List Demand
link_asks k (ShareTable s t) = side_asks k s ++ side_asks k t
link_asks k (ShareCell s t) = side_asks k s ++ side_asks k t
link_asks k (ApartTable s t) = side_asks k s ++ side_asks k t
link_asks k (SharePage i j) = page_asks k i ++ page_asks k j
link_asks k (ApartPage i j) = page_asks k i ++ page_asks k j

abbrev pub demands_of : Option AccessWish → List Demand
demands_of None = []
demands_of (Some a) = a.demands

-- all that is asked of the walk of access k
abbrev pub all_asks : Requests → ℕ → List Demand
all_asks r k = map asks (demands_of (slice_get r.accesses k)) ++ flat_map (link_asks k) r.links

-- ---- edges

abbrev pub edge_to : ActData → Bool → Option ℕ
edge_to (bind x e to) true = Some to
edge_to (bind x e to) false = None
edge_to (read x e g t o) by_then = if by_then then Some t else Some o
edge_to (branch e t o) by_then = if by_then then Some t else Some o
edge_to (fault c) by_then = None
edge_to (done e p) by_then = None

-- the edge from node n to a later one leads past node m
abbrev pub leads_past : ℕ → ℕ → ℕ → Bool
leads_past m n to = nat_lt n m && nat_lt m to

abbrev pub differ : Bool → Bool → Bool
differ true b = not b
differ false b = b

-- a walk that meets the demand doesn't take this edge of node n: the edge leads past a node that is asked for, or to one that isn't to be visited, or it is the other side
abbrev pub bars : Demand → ℕ → Bool → ℕ → Bool
bars (Via m) n by_then to = leads_past m n to
bars (Avoid m) n by_then to = to == m
bars (Take m side) n by_then to = leads_past m n to || (n == m && differ side by_then)
bars EndDone n by_then to = false
bars (EndFault code) n by_then to = false
bars (Page exponent) n by_then to = false
bars (Bits of mask value) n by_then to = false
bars (Span of lo hi) n by_then to = false

-- the edge, where it is open
abbrev pub open_edge : List Demand → ℕ → Bool → Option ℕ → Option ℕ
open_edge qs n by_then None = None
open_edge qs n by_then (Some to) = if list_any (λ q. bars q n by_then to) qs then None else Some to

-- ---- ends

-- a walk that meets the demand may end at node n by this step: a node that is asked for isn't later
abbrev pub ends_as : Demand → ℕ → ActData → Bool
ends_as (Via m) n p = nat_le m n
ends_as (Avoid m) n p = true
ends_as (Take m side) n p = nat_le m n
ends_as EndDone n p = ends_done p
ends_as (EndFault code) n p = ends_fault code p
ends_as (Page exponent) n p = ends_page exponent p
ends_as (Bits of mask value) n p = true
ends_as (Span of lo hi) n p = true

-- ---- all nodes

abbrev pub ways_of : List Demand → ℕ → ActData → Ways
ways_of qs n p = record {
  then_to = open_edge qs n true (edge_to p true);
  other = open_edge qs n false (edge_to p false);
  ends = is_end p && list_all (λ q. ends_as q n p) qs;
}

-- the ways of these steps, of which the first is node n
abbrev pub all_ways : List Demand → List ActData → ℕ → List Ways
all_ways qs [] n = []
all_ways qs (p ∷ ps) n = ways_of qs n p ∷ all_ways qs ps (n + 1)

-- the ways of the walk of access k
abbrev pub access_ways : ModelData → Requests → ℕ → List Ways
access_ways d r k = all_ways (all_asks r k) (steps d) 0
