-- Tables and pages of runs, and when a link over two accesses holds.
use Rattle.std.specs.Prelude.{ℕ, ◌==◌, Bool, false, not, List, Option, Some, None, map, option_map, option_and_then, slice_get}
use Rattle.std.specs.List.{flat_map}
use Rattle.std.specs.Option.{option_to_list}
use Rattle.dt_model.specs.ModelData.{ActData, read}
use Rattle.dt_model.specs.Faults.{steps}
use Rattle.dt_walk.specs.declared.run.End.{End}
use Rattle.dt_walk.specs.declared.run.End.TheVariants.{Done, Fault}
use Rattle.dt_walk.specs.declared.run.ReadMade.{ReadMade}
use Rattle.dt_walk.specs.Walks.{RunData}
use Rattle.dt_request.specs.declared.list.Side.{Side}
use Rattle.dt_request.specs.declared.list.Link.{Link}
use Rattle.dt_request.specs.declared.list.Link.TheVariants.{ShareTable, ShareCell, SharePage, ApartTable, ApartPage}
use Rattle.dt_satisfy.specs.declared.block.Block.{Block}
use Rattle.dt_satisfy.specs.Blocks.{block_at, is_block, overlap}
use Rattle.dt_satisfy.specs.Demands.{read_at}

-- ---- pages and tables

-- the page of a run that ends with a result: the block of its page exponent that holds pa
abbrev pub page_of : End → Option Block
page_of (Done n pa page) = Some (block_at pa page)
page_of (Fault n code) = None

abbrev pub pages_of : List RunData → List Block
pages_of runs = flat_map (λ run. option_to_list (page_of run.end)) runs

abbrev pub step_granule : Option ActData → ℕ
step_granule (Some (read x e granule t o)) = granule
step_granule _ = 0

-- the table of a made read: the block of its node's granule that holds its cell
abbrev pub table_of : List ActData → ReadMade → Block
table_of steps made = block_at made.cell (step_granule (slice_get steps made.node))

abbrev pub tables_of : List ActData → List RunData → List Block
tables_of steps runs = flat_map (λ run. map (table_of steps) run.reads) runs

-- ---- links

-- the read that the access makes at the node
abbrev pub read_in : List RunData → Side → Option ReadMade
read_in runs s = option_and_then (λ run. read_at run s.node) (slice_get runs s.access)

abbrev pub table_in : List ActData → List RunData → Side → Option Block
table_in steps runs s = option_map (table_of steps) (read_in runs s)

abbrev pub cell_in : List RunData → Side → Option ℕ
cell_in runs s = option_map (λ m. m.cell) (read_in runs s)

-- the page that the access ends in
abbrev pub page_in : List RunData → ℕ → Option Block
page_in runs k = option_and_then (λ run. page_of run.end) (slice_get runs k)

-- both are there, and the test holds of them
abbrev pub both : {X : Type 0} → (X → X → Bool) → Option X → Option X → Bool
both test (Some x) (Some y) = test x y
both test _ _ = false

abbrev pub is_apart : Block → Block → Bool
is_apart b c = not (overlap b c)

abbrev pub is_cell : ℕ → ℕ → Bool
is_cell a b = a == b

abbrev pub link_holds : List ActData → List RunData → Link → Bool
link_holds steps runs (ShareTable a b) = both is_block (table_in steps runs a) (table_in steps runs b)
link_holds steps runs (ShareCell a b) = both is_cell (cell_in runs a) (cell_in runs b)
link_holds steps runs (SharePage a b) = both is_block (page_in runs a) (page_in runs b)
link_holds steps runs (ApartTable a b) = both is_apart (table_in steps runs a) (table_in steps runs b)
link_holds steps runs (ApartPage a b) = both is_apart (page_in runs a) (page_in runs b)
