-- The one printed text of a list of a model.
use Rattle.std.specs.Prelude.{ℕ, Bool, List, [], ◌∷◌, ◌++◌, map, codes, slice_get, if◌then◌else◌}
use Rattle.std.specs.List.{flat_map}
use Rattle.std.specs.Option.{option_map_or}
use Rattle.dt_lex.specs.declared.name.Name.{Name}
use Rattle.dt_lex.specs.Names.{bytes_of}
use Rattle.dt_lex.specs.Numeral.{decimal, hex}
use Rattle.dt_lex.specs.Printing.{text_of}
use Rattle.dt_model.specs.ModelData.{ModelData}
use Rattle.dt_model.specs.Faults.{names_of}
use Rattle.dt_request.specs.declared.list.Quantity.{Quantity}
use Rattle.dt_request.specs.declared.list.Quantity.TheVariants.{Reg, Input, Word, Cell, Pa}
use Rattle.dt_request.specs.declared.list.Demand.{Demand}
use Rattle.dt_request.specs.declared.list.Demand.TheVariants.{Via, Avoid, Take, EndDone, EndFault, Page, Bits, Span}
use Rattle.dt_request.specs.declared.list.Side.{Side}
use Rattle.dt_request.specs.declared.list.Link.{Link}
use Rattle.dt_request.specs.declared.list.Link.TheVariants.{ShareTable, ShareCell, SharePage, ApartTable, ApartPage}
use Rattle.dt_request.specs.declared.list.KeptRange.{KeptRange}
use Rattle.dt_request.specs.declared.list.AccessWish.{AccessWish}
use Rattle.dt_request.specs.declared.list.Requests.{Requests}
use Rattle.dt_request.specs.Lists.{access_names}
use Rattle.dt_request.specs.Entry.{node_names}

-- ---- names by their positions; a position that has none is printed as nothing

abbrev pub name_text : List Name → ℕ → List ℕ
name_text names i = option_map_or (λ n. bytes_of n) (slice_get names i) []

-- ---- rows of tokens

abbrev pub quantity_row : ModelData → Quantity → List (List ℕ)
quantity_row d (Reg i) = codes "reg" ∷ name_text (names_of d.regs) i ∷ []
quantity_row d (Input i) = codes "in" ∷ name_text (names_of d.inputs) i ∷ []
quantity_row d (Word n) = codes "word" ∷ name_text (node_names d) n ∷ []
quantity_row d (Cell n) = codes "cell" ∷ name_text (node_names d) n ∷ []
quantity_row d Pa = codes "pa" ∷ []

abbrev pub branch_text : Bool → List ℕ
branch_text by_then = if by_then then codes "then" else codes "else"

abbrev pub demand_row : ModelData → Demand → List (List ℕ)
demand_row d (Via n) = codes "via" ∷ name_text (node_names d) n ∷ []
demand_row d (Avoid n) = codes "avoid" ∷ name_text (node_names d) n ∷ []
demand_row d (Take n by_then) = codes "take" ∷ name_text (node_names d) n ∷ branch_text by_then ∷ []
demand_row d EndDone = codes "ends" ∷ codes "done" ∷ []
demand_row d (EndFault code) = codes "ends" ∷ codes "fault" ∷ decimal code ∷ []
demand_row d (Page exponent) = codes "page" ∷ decimal exponent ∷ []
demand_row d (Bits of mask value) = codes "bits" ∷ (quantity_row d of ++ hex mask ∷ hex value ∷ [])
demand_row d (Span of lo hi) = codes "range" ∷ (quantity_row d of ++ hex lo ∷ hex hi ∷ [])

-- an access, and its demands
abbrev pub access_rows : ModelData → List Name → AccessWish → List (List (List ℕ))
access_rows d contexts a = (codes "access" ∷ bytes_of a.name ∷ name_text contexts a.context ∷ []) ∷ map (demand_row d) a.demands

-- the accesses have these names
abbrev pub side_row : ModelData → List Name → Side → List (List ℕ)
side_row d names s = name_text names s.access ∷ name_text (node_names d) s.node ∷ []

abbrev pub sides_row : ModelData → List Name → Side → Side → List (List ℕ)
sides_row d names a b = side_row d names a ++ side_row d names b

abbrev pub pages_row : List Name → ℕ → ℕ → List (List ℕ)
pages_row names a b = name_text names a ∷ name_text names b ∷ []

abbrev pub link_row : ModelData → List Name → Link → List (List ℕ)
link_row d names (ShareTable a b) = codes "share" ∷ codes "table" ∷ sides_row d names a b
link_row d names (ShareCell a b) = codes "share" ∷ codes "cell" ∷ sides_row d names a b
link_row d names (SharePage a b) = codes "share" ∷ codes "page" ∷ pages_row names a b
link_row d names (ApartTable a b) = codes "apart" ∷ codes "table" ∷ sides_row d names a b
link_row d names (ApartPage a b) = codes "apart" ∷ codes "page" ∷ pages_row names a b

-- ---- the whole text

-- `requests 2` where there is a kept range, and nowhere else
abbrev pub version_of : List KeptRange → List ℕ
version_of [] = codes "1"
version_of (k ∷ ks) = codes "2"

abbrev pub keep_row : KeptRange → List (List ℕ)
keep_row k = codes "keep" ∷ hex k.lo ∷ hex k.hi ∷ []

abbrev pub context_row : Name → List (List ℕ)
context_row name = codes "context" ∷ bytes_of name ∷ []

abbrev pub rows_of : ModelData → Requests → List (List (List ℕ))
rows_of d r =
    (codes "requests" ∷ version_of r.kept ∷ [])
    ∷ (codes "tables" ∷ hex r.lo ∷ hex r.hi ∷ [])
    ∷ (map keep_row r.kept
    ++ (map context_row r.contexts
    ++ (flat_map (access_rows d r.contexts) r.accesses
    ++ (map (link_row d (access_names r.accesses)) r.links
    ++ (codes "end" ∷ []) ∷ []))))

unfoldable pub printed : ModelData → Requests → List ℕ
printed d r = text_of (rows_of d r)
