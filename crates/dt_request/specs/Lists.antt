-- Request lists of a model: each bound, count, name, position, width and code in them is as the text of a list asks.
use Rattle.std.specs.Prelude.{◌≢◌, ℕ, ◌^◌, ◌<◌, ◌≤◌, Bool, true, false, if◌then◌else◌, List, length, map, Option, Some, None, slice_get, IsTrue, IsSomeAnd, All, AllPairs}
use Rattle.dt_lex.specs.declared.name.Name.{Name}
use Rattle.dt_lex.specs.Names.{IsName}
use Rattle.dt_model.specs.Limits.{most_code}
use Rattle.dt_model.specs.ModelData.{ModelData, ActData, read, branch}
use Rattle.dt_model.specs.Bounds.{AreBounds}
use Rattle.dt_model.specs.Widths.{width_at}
use Rattle.dt_model.specs.Faults.{steps, is_read}
use Rattle.dt_request.specs.declared.list.Quantity.{Quantity}
use Rattle.dt_request.specs.declared.list.Quantity.TheVariants.{Reg, Input, Word, Cell, Pa}
use Rattle.dt_request.specs.declared.list.Demand.{Demand}
use Rattle.dt_request.specs.declared.list.Demand.TheVariants.{Via, Avoid, Take, EndDone, EndFault, Page, Bits, Span}
use Rattle.dt_request.specs.declared.list.Side.{Side}
use Rattle.dt_request.specs.declared.list.Link.{Link}
use Rattle.dt_request.specs.declared.list.Link.TheVariants.{ShareTable, ShareCell, SharePage, ApartTable, ApartPage}
use Rattle.dt_request.specs.declared.list.AccessWish.{AccessWish}
use Rattle.dt_request.specs.declared.list.KeptRange.{KeptRange}
use Rattle.dt_request.specs.declared.list.Requests.{Requests}
use Rattle.dt_request.specs.Limits.{most_kept, most_contexts, most_accesses, most_demands, most_links}

-- ---- names

-- each can be spelled, and no two are the same
pub record AreNames (names : List Name) : Type 0 where
  pub spelled : All IsName names
  pub distinct : AllPairs (λ m n. m ≢ n) names

-- ---- nodes and quantities

abbrev pub IsNode : ModelData → ℕ → Type 0
IsNode d n = n < length d.nodes

-- a node with the sides then and other
abbrev pub is_fork : ActData → Bool
is_fork (read x e g t o) = true
is_fork (branch e t o) = true
is_fork _ = false

abbrev pub IsFork : ModelData → ℕ → Type 0
IsFork d n = IsSomeAnd (slice_get (steps d) n) (λ p. IsTrue (is_fork p))

abbrev pub IsReadNode : ModelData → ℕ → Type 0
IsReadNode d n = IsSomeAnd (slice_get (steps d) n) (λ p. IsTrue (is_read p))

-- the width, where the step is a read
abbrev pub read_width : ℕ → Option ActData → Option ℕ
read_width w None = None
read_width w (Some p) = if is_read p then Some w else None

-- how many bits a quantity has, where there is such a register, input or read node
abbrev pub width_of : ModelData → Quantity → Option ℕ
width_of d (Reg i) = width_at d.regs i
width_of d (Input i) = width_at d.inputs i
width_of d (Word n) = read_width d.word (slice_get (steps d) n)
width_of d (Cell n) = read_width d.address (slice_get (steps d) n)
width_of d Pa = Some d.address

-- the quantity is one of the model, and can be this number
abbrev pub CanBe : ModelData → Quantity → ℕ → Type 0
CanBe d q n = IsSomeAnd (width_of d q) (λ w. n < 2 ^ w)

-- ---- demands

-- a code is one that a model may have, and a page is within the addresses
abbrev pub IsDemand : ModelData → Demand → Type 0
IsDemand d (Via node) = IsNode d node
IsDemand d (Avoid node) = IsNode d node
IsDemand d (Take node by_then) = IsFork d node
IsDemand d EndDone = Unit {0}
IsDemand d (EndFault code) = code ≤ most_code
IsDemand d (Page exponent) = exponent ≤ d.address
IsDemand d (Bits q mask value) = CanBe d q mask × CanBe d q value
IsDemand d (Span q lo hi) = CanBe d q lo × CanBe d q hi

-- an access whose context is one of so many
pub record IsWish (d : ModelData) (contexts : ℕ) (a : AccessWish) : Type 0 where
  pub context : a.context < contexts
  pub few_demands : length a.demands ≤ most_demands
  pub demands : All (IsDemand d) a.demands

abbrev pub access_names : List AccessWish → List Name
access_names wishes = map (λ a. a.name) wishes

-- ---- links

-- a read node in the walk of one of so many accesses
abbrev pub IsSide : ModelData → ℕ → Side → Type 0
IsSide d accesses s = (s.access < accesses) × IsReadNode d s.node

abbrev pub IsLink : ModelData → ℕ → Link → Type 0
IsLink d accesses (ShareTable a b) = IsSide d accesses a × IsSide d accesses b
IsLink d accesses (ShareCell a b) = IsSide d accesses a × IsSide d accesses b
IsLink d accesses (SharePage a b) = (a < accesses) × (b < accesses)
IsLink d accesses (ApartTable a b) = IsSide d accesses a × IsSide d accesses b
IsLink d accesses (ApartPage a b) = (a < accesses) × (b < accesses)

-- ---- kept ranges

-- the ends are in order and within the addresses
pub record IsKept (d : ModelData) (k : KeptRange) : Type 0 where
  pub rising : k.lo ≤ k.hi
  pub within : k.hi ≤ 2 ^ d.address

-- ---- lists

-- the list is of the model
pub record IsList (d : ModelData) (r : Requests) : Type 0 where
  pub bounds : AreBounds d r.lo r.hi
  pub few_kept : length r.kept ≤ most_kept
  pub kept : All (IsKept d) r.kept
  pub few_contexts : length r.contexts ≤ most_contexts
  pub contexts : AreNames r.contexts
  pub few_accesses : length r.accesses ≤ most_accesses
  pub names : AreNames (access_names r.accesses)
  pub accesses : All (IsWish d (length r.contexts)) r.accesses
  pub few_links : length r.links ≤ most_links
  pub links : All (IsLink d (length r.accesses)) r.links
