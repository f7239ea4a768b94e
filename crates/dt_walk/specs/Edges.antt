-- The edges by which a run goes through the graph: a path of the model, on which each variable is assigned before it is used.
use Rattle.std.specs.Prelude.{◌≡◌, ℕ, ◌+◌, ◌<◌, ◌≤◌, true, false, List, [], ◌∷◌, ◌++◌, Option, Some, None, map, length, slice_get}
use Rattle.std.specs.List.{AllByRecursion}
use Rattle.dt_bits.specs.Memory.{Memory}
use Rattle.dt_model.specs.ModelData.{ModelData, Tree, ActData, read, fault, done}
use Rattle.dt_model.specs.Paths.{Side, next, then, other, Edge, IsPath, assigned_by}
use Rattle.dt_model.specs.Widths.{uses}
use Rattle.dt_model.specs.Faults.{IsAccepted, HaveArities, steps, tree_in}
use Rattle.dt_walk.specs.declared.run.End.{End}
use Rattle.dt_walk.specs.declared.run.End.TheVariants.{Done, Fault}
use Rattle.dt_walk.specs.declared.run.SideTaken.{SideTaken}
use Rattle.dt_walk.specs.Walks.{RunData, walk_of}

-- what a run lists of an edge: nothing where the node has one side alone
abbrev pub side_listed : ℕ → Side → List SideTaken
side_listed n next = []
side_listed n then = record { node = n; by_then = true } ∷ []
side_listed n other = record { node = n; by_then = false } ∷ []

abbrev pub sides_listed : List Edge → List SideTaken
sides_listed [] = []
sides_listed (e ∷ es) = side_listed e.node e.side ++ sides_listed es

-- a read that is left by `then` is made
abbrev pub read_listed : Option ActData → ℕ → Side → List ℕ
read_listed (Some (read x e g t o)) n then = n ∷ []
read_listed _ n side = []

abbrev pub reads_listed : List ActData → List Edge → List ℕ
reads_listed g [] = []
reads_listed g (e ∷ es) = read_listed (slice_get g e.node) e.node e.side ++ reads_listed g es

-- the edges past those before, the last one first
abbrev pub laid : List Edge → List Edge → List Edge
laid [] before = before
laid (e ∷ es) before = laid es (e ∷ before)

-- the numbers rise strictly, from this one on
abbrev pub Rise : ℕ → List ℕ → Type 0
Rise low [] = Unit {0}
Rise low (n ∷ ns) = (low ≤ n) × Rise (n + 1) ns

-- the act at node n ends a walk so
abbrev pub EndsAs : Option ActData → ℕ → End → Type 0
EndsAs (Some (fault c)) n e = e ≡ Fault n c
EndsAs (Some (done t page)) n e = (pa : ℕ) × (e ≡ Done n pa page)
EndsAs _ n e = ⊥

abbrev pub IsRead : Option ActData → Type 0
IsRead (Some (read x e g t o)) = Unit {0}
IsRead _ = ⊥

-- each variable that the act's expression uses is assigned by one of the edges before
abbrev pub AreUsesAssigned : List ActData → List Edge → Option ActData → Type 0
AreUsesAssigned g before None = Unit {0}
AreUsesAssigned g before (Some p) = (t : Tree) (v : ℕ) → tree_in p ≡ Some t → uses t v ≡ true → assigned_by g before v ≡ true

-- so it is at each node of a path, that to which it leads among them
abbrev pub AreAssignedBefore : List ActData → List Edge → ℕ → Type 0
AreAssignedBefore g [] n = AreUsesAssigned g [] (slice_get g n)
AreAssignedBefore g (e ∷ before) n = AreUsesAssigned g (e ∷ before) (slice_get g n) × AreAssignedBefore g before e.node

-- the run goes by edges that are a path of the graph from node 0 to its ending node; its nodes rise
-- and exist; its end is the ending node's own act; no variable is used before it is assigned; and
-- the listed reads are those of the read nodes that are left by `then`, in order
pub record GoesByPath (g : List ActData) (run : RunData) : Type 0 where
  pub edges : List Edge
  pub to : ℕ
  pub path : IsPath g (laid edges []) to
  pub nodes : run.path ≡ map (λ e. e.node) edges ++ to ∷ []
  pub sides : run.sides ≡ sides_listed edges
  pub rise : Rise 0 run.path
  pub exist : AllByRecursion (λ n. n < length g) run.path
  pub end : EndsAs (slice_get g to) to run.end
  pub assigned : AreAssignedBefore g (laid edges []) to
  pub reads : map (λ m. m.node) run.reads ≡ reads_listed g edges
  pub at_reads : AllByRecursion (λ m. IsRead (slice_get g m.node)) run.reads

-- each walk of an accepted model does, under all values and memories
abbrev pub WalksGoByPaths : Type 0
WalksGoByPaths = (d : ModelData) (regs inputs : List ℕ) (memory : Memory) → IsAccepted d → HaveArities d → GoesByPath (steps d) (walk_of d regs inputs memory)
