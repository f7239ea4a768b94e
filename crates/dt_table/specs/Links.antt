-- Links as forms over the terms of two accesses.
use Rattle.std.specs.Prelude.{ℕ, ◌==◌, max, ◌&&◌, if◌then◌else◌, List, [], ◌∷◌, ◌++◌, slice_get, slice_index_or}
use Rattle.std.specs.List.{flat_map}
use Rattle.dt_model.specs.ModelData.{ModelData}
use Rattle.dt_model.specs.Faults.{steps}
use Rattle.dt_request.specs.declared.list.Requests.{Requests}
use Rattle.dt_request.specs.declared.list.Side.{Side}
use Rattle.dt_request.specs.declared.list.Link.{Link}
use Rattle.dt_request.specs.declared.list.Link.TheVariants.{ShareTable, ShareCell, SharePage, ApartTable, ApartPage}
use Rattle.dt_satisfy.specs.Links.{step_granule}
use Rattle.dt_forms.specs.Forms.{Form, term, not_of, both_of, implies, same_of}
use Rattle.dt_table.specs.declared.out.Out.{Out}
use Rattle.dt_table.specs.Passing.{Access}
use Rattle.dt_table.specs.Claims.{ends_only}
use Rattle.dt_ways.specs.Ends.{ends_done}
use Rattle.dt_table.specs.Apart.{Sized, same_block, apart_form}
use Rattle.dt_table.specs.Outs.{out_at}
use Rattle.dt_table.specs.Spots.{Spot, only_if, page_spots}
use Rattle.dt_ways.specs.Ways.{access_ways}

-- ---- reads

-- what stands for the nodes of the access of this number
abbrev pub outs_of : List (List Out) → ℕ → List Out
outs_of oss k = slice_index_or oss k []

-- what stands for the read of a side, with the exponent of its table
abbrev pub side_at : ModelData → List (List Out) → Side → Sized
side_at d oss s = record { exponent = step_granule (slice_get (steps d) s.node); out = out_at (outs_of oss s.access) s.node }

-- both reads are made, and the test of the two holds
abbrev pub reads_forms : (Sized → Sized → Form) → Sized → Sized → List Form
reads_forms test x y = term x.out.by_then ∷ term y.out.by_then ∷ test x y ∷ []

-- the blocks of both are one
abbrev pub one_block : Access → Sized → Sized → Form
one_block a x y = if x.exponent == y.exponent then same_block a x.exponent x.out.value y.out.value else term a.zero_term

abbrev pub apart_blocks : Access → Sized → Sized → Form
apart_blocks a x y = not_of (same_block a (max x.exponent y.exponent) x.out.value y.out.value)

abbrev pub one_cell : Sized → Sized → Form
one_cell x y = same_of (term x.out.value) (term y.out.value)

-- ---- pages

-- where the walks come to both results, their pages are one
abbrev pub one_page : Access → Sized → Sized → Form
one_page a x y =
    let both = both_of (term x.out.come) (term y.out.come) in
    if x.exponent == y.exponent then implies both (same_block a x.exponent x.out.value y.out.value) else not_of both

-- both walks end with a result, and the form of each two live results holds
abbrev pub page_if : (Sized → Sized → Form) → Spot → Spot → List Form
page_if form x y = only_if (x.live && y.live) (form x.of y.of)

abbrev pub pages_forms : ModelData → (Sized → Sized → Form) → List Out → List Out → List Spot → List Spot → List Form
pages_forms d form os others pages other_pages =
    ends_only ends_done (steps d) os ++ (ends_only ends_done (steps d) others ++ flat_map (λ x. flat_map (page_if form x) other_pages) pages)

-- the results of access k
abbrev pub access_pages : ModelData → Requests → List (List Out) → ℕ → List Spot
access_pages d r oss k = page_spots (access_ways d r k) k (steps d) (outs_of oss k) 0

-- ---- links

-- what must be 1 for a link; the numbers of its sides are those of accesses
abbrev pub link_forms : ModelData → Requests → Access → List (List Out) → Link → List Form
link_forms d r a oss (ShareTable s t) = reads_forms (one_block a) (side_at d oss s) (side_at d oss t)
link_forms d r a oss (ShareCell s t) = reads_forms one_cell (side_at d oss s) (side_at d oss t)
link_forms d r a oss (SharePage j k) = pages_forms d (one_page a) (outs_of oss j) (outs_of oss k) (access_pages d r oss j) (access_pages d r oss k)
link_forms d r a oss (ApartTable s t) = reads_forms (apart_blocks a) (side_at d oss s) (side_at d oss t)
link_forms d r a oss (ApartPage j k) = pages_forms d (apart_form a (λ o. o.come)) (outs_of oss j) (outs_of oss k) (access_pages d r oss j) (access_pages d r oss k)
