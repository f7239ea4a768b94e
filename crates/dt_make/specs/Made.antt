-- The generated list of so many accesses of the shipped model of Sv39.
use Rattle.std.specs.Prelude.{◌≡◌, ℕ, ◌+◌, ◌-◌, ◌*◌, ◌/◌, ◌%◌, ◌^◌, ◌==◌, nat_le, Bool, ◌&&◌, if◌then◌else◌, List, [], ◌∷◌, ◌++◌, map, codes, Some, slice_get}
use Rattle.std.specs.List.{flat_map, range_with_len}
use Rattle.dt_lex.specs.declared.name.Name.{Name}
use Rattle.dt_lex.specs.Names.{padded_name}
use Rattle.dt_lex.specs.Numeral.{decimal}
use Rattle.dt_model.specs.ModelData.{ModelData}
use Rattle.dt_model.specs.Faults.{names_of}
use Rattle.dt_sv39.specs.Shipped.{at_d30, at_d21, at_d12}
use Rattle.dt_request.specs.declared.list.Quantity.TheVariants.{Input}
use Rattle.dt_request.specs.declared.list.Demand.{Demand}
use Rattle.dt_request.specs.declared.list.Demand.TheVariants.{Via, EndDone, Bits, Span}
use Rattle.dt_request.specs.declared.list.Side.{Side}
use Rattle.dt_request.specs.declared.list.Link.{Link}
use Rattle.dt_request.specs.declared.list.Link.TheVariants.{ShareTable, ApartPage}
use Rattle.dt_request.specs.declared.list.AccessWish.{AccessWish}
use Rattle.dt_request.specs.declared.list.Requests.{Requests}
use Rattle.dt_request.specs.Limits.{most_accesses}
use Rattle.dt_request.specs.Entry.{node_names}

-- a list of so many accesses can be generated: there is one, and they aren't too many
abbrev pub can_be_made : ℕ → Bool
can_be_made n = nat_le 1 n && nat_le n most_accesses

-- ---- where the inputs and the nodes stand in the model

abbrev pub at_va : ℕ
at_va = 0

abbrev pub at_kind : ℕ
at_kind = 1

abbrev pub at_user : ℕ
at_user = 2

-- the read of level 0
abbrev pub at_r0 : ℕ
at_r0 = 14

abbrev pub IsNamed : List Name → ℕ → List ℕ → Type 0
IsNamed names i name = slice_get names i ≡ Some (padded_name name)

-- the inputs and nodes at these positions have the names that the positions are called by
pub record StandNamed (d : ModelData) : Type 0 where
  pub va : IsNamed (names_of d.inputs) at_va (codes "va")
  pub kind : IsNamed (names_of d.inputs) at_kind (codes "kind")
  pub user : IsNamed (names_of d.inputs) at_user (codes "user")
  pub r0 : IsNamed (node_names d) at_r0 (codes "r0")
  pub d12 : IsNamed (node_names d) at_d12 (codes "d12")
  pub d21 : IsNamed (node_names d) at_d21 (codes "d21")
  pub d30 : IsNamed (node_names d) at_d30 (codes "d30")

-- ---- an access, by its position k

-- the letter a, and k in decimal
abbrev pub access_name : ℕ → Name
access_name k = padded_name (codes "a" ++ decimal k)

-- the result that the walk comes to: of four accesses two end at level 0, and one each at levels 1 and 2
abbrev pub result_at : ℕ → ℕ
result_at k = if k % 4 == 2 then at_d21 else (if k % 4 == 3 then at_d30 else at_d12)

-- the bits of an input under a mask
abbrev pub bits : ℕ → ℕ → ℕ → Demand
bits input mask value = Bits (Input input) mask value

-- the gigabyte of virtual addresses that the access is in
abbrev pub addresses_at : ℕ → Demand
addresses_at k = Span (Input at_va) (k * 2 ^ 30) (k * 2 ^ 30 + (2 ^ 30 - 1))

-- the kinds take turns, and so do the modes, each for two accesses
abbrev pub demands_at : ℕ → List Demand
demands_at k = EndDone ∷ Via (result_at k) ∷ bits at_kind 3 (k % 3) ∷ bits at_user 1 (k / 2 % 2) ∷ addresses_at k ∷ []

abbrev pub wish_at : ℕ → AccessWish
wish_at k = record { name = access_name k; context = 0; demands = demands_at k }

-- ---- how an access relates to the one before it

abbrev pub last_read : ℕ → Side
last_read k = record { access = k; node = at_r0 }

-- where both accesses of a pair end at level 0, their last reads are in one table
abbrev pub shared_at : ℕ → List Link
shared_at k = if k % 4 == 1 then ShareTable (last_read (k - 1)) (last_read k) ∷ [] else []

-- their pages don't overlap
abbrev pub links_at : ℕ → List Link
links_at k = ApartPage (k - 1) k ∷ shared_at k

-- ---- the list

abbrev pub context_names : List Name
context_names = padded_name (codes "c0") ∷ []

unfoldable pub made : ℕ → Requests
made n = record {
  lo = 0x8000_0000;
  hi = 0x8100_0000;
  kept = [];
  contexts = context_names;
  accesses = map wish_at (range_with_len 0 n);
  links = flat_map links_at (range_with_len 1 (n - 1));
}
