-- The text of a list, as its lines spell it, whatever reads them.
use Rattle.std.specs.Prelude.{◌≡◌, ◌⊎◌, ℕ, true, false, List, [], ◌∷◌, ◌++◌, All, Some, None, codes, slice_get}
use Rattle.dt_lex.specs.declared.name.Name.{Name}
use Rattle.dt_lex.specs.Names.{name_of}
use Rattle.dt_lex.specs.Numeral.{number_of}
use Rattle.dt_lex.specs.Text.{lines_of, tokens_of, fault_of}
use Rattle.dt_model.specs.ModelData.{ModelData}
use Rattle.dt_model.specs.Faults.{names_of}
use Rattle.dt_request.specs.declared.list.Quantity.{Quantity}
use Rattle.dt_request.specs.declared.list.Quantity.TheVariants.{Reg, Input, Word, Cell, Pa}
use Rattle.dt_request.specs.declared.list.Demand.{Demand}
use Rattle.dt_request.specs.declared.list.Demand.TheVariants.{Via, Avoid, Take, EndDone, EndFault, Page, Bits, Span}
use Rattle.dt_request.specs.declared.list.Side.{Side}
use Rattle.dt_request.specs.declared.list.Link.{Link}
use Rattle.dt_request.specs.declared.list.Link.TheVariants.{ShareTable, ShareCell, SharePage, ApartTable, ApartPage}
use Rattle.dt_request.specs.declared.list.KeptRange.{KeptRange}
use Rattle.dt_request.specs.declared.list.AccessWish.{AccessWish}
use Rattle.dt_request.specs.declared.list.Requests.{Requests}
use Rattle.dt_request.specs.Lists.{access_names, IsList}
use Rattle.dt_request.specs.Entry.{node_names}

-- the tokens of a line
abbrev pub Row : Type 0
Row = List (List ℕ)

-- ---- tokens

-- the token is the name at a position of these names
abbrev pub SpellsName : List Name → ℕ → List ℕ → Type 0
SpellsName names i t = (n : Name) × (slice_get names i ≡ Some n) × (name_of t ≡ Some n)

abbrev pub SpellsNumber : ℕ → List ℕ → Type 0
SpellsNumber n t = number_of t ≡ Some n

-- a word, and the name at a position
abbrev pub SpellsNamed : List ℕ → List Name → ℕ → Row → Type 0
SpellsNamed word names i row = (t : List ℕ) × SpellsName names i t × (row ≡ word ∷ t ∷ [])

-- ---- demands

abbrev pub SpellsQuantity : ModelData → Quantity → Row → Type 0
SpellsQuantity d (Reg i) row = SpellsNamed (codes "reg") (names_of d.regs) i row
SpellsQuantity d (Input i) row = SpellsNamed (codes "in") (names_of d.inputs) i row
SpellsQuantity d (Word node) row = SpellsNamed (codes "word") (node_names d) node row
SpellsQuantity d (Cell node) row = SpellsNamed (codes "cell") (node_names d) node row
SpellsQuantity d Pa row = row ≡ codes "pa" ∷ []

-- a word, a quantity and two numbers
abbrev pub SpellsMeasured : List ℕ → ModelData → Quantity → ℕ → ℕ → Row → Type 0
SpellsMeasured word d of m n row = (q : Row) × (t u : List ℕ) × SpellsQuantity d of q × SpellsNumber m t × SpellsNumber n u × (row ≡ word ∷ (q ++ t ∷ u ∷ []))

abbrev pub SpellsDemand : ModelData → Demand → Row → Type 0
SpellsDemand d (Via node) row = SpellsNamed (codes "via") (node_names d) node row
SpellsDemand d (Avoid node) row = SpellsNamed (codes "avoid") (node_names d) node row
SpellsDemand d (Take node true) row = (t : List ℕ) × SpellsName (node_names d) node t × (row ≡ codes "take" ∷ t ∷ codes "then" ∷ [])
SpellsDemand d (Take node false) row = (t : List ℕ) × SpellsName (node_names d) node t × (row ≡ codes "take" ∷ t ∷ codes "else" ∷ [])
SpellsDemand d EndDone row = row ≡ codes "ends" ∷ codes "done" ∷ []
SpellsDemand d (EndFault code) row = (t : List ℕ) × SpellsNumber code t × (row ≡ codes "ends" ∷ codes "fault" ∷ t ∷ [])
SpellsDemand d (Page exponent) row = (t : List ℕ) × SpellsNumber exponent t × (row ≡ codes "page" ∷ t ∷ [])
SpellsDemand d (Bits of mask value) row = SpellsMeasured (codes "bits") d of mask value row
SpellsDemand d (Span of lo hi) row = SpellsMeasured (codes "range") d of lo hi row

-- ---- links; the accesses have these names

abbrev pub SpellsSides : List ℕ → List ℕ → ModelData → List Name → Side → Side → Row → Type 0
SpellsSides word kind d names a b row =
    (t u v w : List ℕ) × SpellsName names a.access t × SpellsName (node_names d) a.node u × SpellsName names b.access v × SpellsName (node_names d) b.node w × (row ≡ word ∷ kind ∷ t ∷ u ∷ v ∷ w ∷ [])

abbrev pub SpellsPages : List ℕ → List Name → ℕ → ℕ → Row → Type 0
SpellsPages word names a b row = (t u : List ℕ) × SpellsName names a t × SpellsName names b u × (row ≡ word ∷ codes "page" ∷ t ∷ u ∷ [])

abbrev pub SpellsLink : ModelData → List Name → Link → Row → Type 0
SpellsLink d names (ShareTable a b) row = SpellsSides (codes "share") (codes "table") d names a b row
SpellsLink d names (ShareCell a b) row = SpellsSides (codes "share") (codes "cell") d names a b row
SpellsLink d names (SharePage a b) row = SpellsPages (codes "share") names a b row
SpellsLink d names (ApartTable a b) row = SpellsSides (codes "apart") (codes "table") d names a b row
SpellsLink d names (ApartPage a b) row = SpellsPages (codes "apart") names a b row

-- ---- other lines

-- kept ranges stand behind `requests 2` alone
abbrev pub SpellsHeader : List KeptRange → Row → Type 0
SpellsHeader kept row = ((row ≡ codes "requests" ∷ codes "1" ∷ []) × (kept ≡ [])) ⊎ (row ≡ codes "requests" ∷ codes "2" ∷ [])

abbrev pub SpellsBounds : List ℕ → ℕ → ℕ → Row → Type 0
SpellsBounds word lo hi row = (t u : List ℕ) × SpellsNumber lo t × SpellsNumber hi u × (row ≡ word ∷ t ∷ u ∷ [])

abbrev pub SpellsKept : KeptRange → Row → Type 0
SpellsKept range row = SpellsBounds (codes "keep") range.lo range.hi row

abbrev pub SpellsContext : Name → Row → Type 0
SpellsContext name row = (t : List ℕ) × (name_of t ≡ Some name) × (row ≡ codes "context" ∷ t ∷ [])

abbrev pub SpellsAccess : List Name → AccessWish → Row → Type 0
SpellsAccess contexts a row = (t u : List ℕ) × (name_of t ≡ Some a.name) × SpellsName contexts a.context u × (row ≡ codes "access" ∷ t ∷ u ∷ [])

-- ---- all lines

-- each value has a line, in their order
abbrev pub SpellEach : {X : Type 0} → (X → Row → Type 0) → List X → List Row → Type 0
SpellEach R [] [] = Unit {0}
SpellEach R (x ∷ xs) (row ∷ rows) = R x row × SpellEach R xs rows
SpellEach R _ _ = ⊥

-- the line of an access, and those of its demands
abbrev pub SpellWish : ModelData → List Name → AccessWish → List Row → Type 0
SpellWish d contexts a [] = ⊥
SpellWish d contexts a (row ∷ rows) = SpellsAccess contexts a row × SpellEach (SpellsDemand d) a.demands rows

-- the lines of accesses, one access after the other
abbrev pub SpellWishes : ModelData → List Name → List AccessWish → List Row → Type 0
SpellWishes d contexts [] rows = rows ≡ []
SpellWishes d contexts (a ∷ wishes) rows = (front back : List Row) × SpellWish d contexts a front × SpellWishes d contexts wishes back × (rows ≡ front ++ back)

-- the header, the bounds, kept ranges, contexts, accesses with their demands, links, and the end
pub record Spell (d : ModelData) (r : Requests) (rows : List Row) : Type 0 where
  pub header : Row
  pub bounds : Row
  pub kept : List Row
  pub contexts : List Row
  pub accesses : List Row
  pub links : List Row
  pub in_order : rows ≡ header ∷ bounds ∷ (kept ++ (contexts ++ (accesses ++ (links ++ (codes "end" ∷ []) ∷ []))))
  pub header_spelled : SpellsHeader r.kept header
  pub bounds_spelled : SpellsBounds (codes "tables") r.lo r.hi bounds
  pub kept_spelled : SpellEach SpellsKept r.kept kept
  pub contexts_spelled : SpellEach SpellsContext r.contexts contexts
  pub accesses_spelled : SpellWishes d r.contexts r.accesses accesses
  pub links_spelled : SpellEach (SpellsLink d (access_names r.accesses)) r.links links

-- ---- a text

-- the tokens of its lines; a line without tokens says nothing
abbrev pub with_row : Row → List Row → List Row
with_row [] rows = rows
with_row (t ∷ ts) rows = (t ∷ ts) ∷ rows

unfoldable pub rows_in : List (List ℕ) → List Row
rows_in [] = []
rows_in (line ∷ lines) = with_row (tokens_of line) (rows_in lines)

-- the line has no bad byte and not too many bytes, wherever it stands
abbrev pub IsFaultless : List ℕ → Type 0
IsFaultless line = (n : ℕ) → fault_of n line ≡ None

-- a text of a list of the model
pub record IsListText (d : ModelData) (text : List ℕ) (r : Requests) : Type 0 where
  pub faultless : All IsFaultless (lines_of text)
  pub spelled : Spell d r (rows_in (lines_of text))
  pub list : IsList d r
