-- The reads and the results of a list's walks, with what is known of where these walks may go, and which two of them can be visited by walks that meet the list.
use Rattle.std.specs.Prelude.{ℕ, ◌+◌, ◌==◌, Bool, not, ◌&&◌, ◌||◌, if◌then◌else◌, List, [], ◌∷◌, ◌++◌}
use Rattle.dt_model.specs.ModelData.{ModelData, ActData, read, done}
use Rattle.dt_model.specs.Faults.{steps}
use Rattle.dt_request.specs.declared.list.Requests.{Requests}
use Rattle.dt_forms.specs.Forms.{Form}
use Rattle.dt_table.specs.declared.out.Out.{Out}
use Rattle.dt_reach.specs.declared.ways.Ways.{Ways}
use Rattle.dt_table.specs.Apart.{Sized}
use Rattle.dt_reach.specs.Reach.{is_marked, ahead_of, is_live}
use Rattle.dt_ways.specs.Ways.{access_ways}

-- a node of the walk of an access: whether the node is live, the nodes to which walks can come from there, and what stands for it
pub record Spot : Type 0 where
  pub access : ℕ
  pub node : ℕ
  pub live : Bool
  pub ahead : List Bool
  pub of : Sized

abbrev pub spot_at : List Ways → ℕ → ℕ → ℕ → Out → Spot
spot_at ws k n exponent o = record { access = k; node = n; live = is_live ws n; ahead = ahead_of ws n; of = record { exponent = exponent; out = o } }

-- walks can come to both: both are live, and where they are of one access one leads to the other
abbrev pub can_meet : Spot → Spot → Bool
can_meet x y = (x.live && y.live) && (not (x.access == y.access) || (is_marked x.ahead y.node || is_marked y.ahead x.node))

-- the form, where the test holds
abbrev pub only_if : Bool → Form → List Form
only_if b f = if b then f ∷ [] else []

-- ---- the spots of an access; the first of the steps is node n

abbrev pub read_spots : List Ways → ℕ → List ActData → List Out → ℕ → List Spot
read_spots ws k (read x e g t f ∷ ps) (o ∷ os) n = spot_at ws k n g o ∷ read_spots ws k ps os (n + 1)
read_spots ws k (p ∷ ps) (o ∷ os) n = read_spots ws k ps os (n + 1)
read_spots ws k _ _ n = []

abbrev pub page_spots : List Ways → ℕ → List ActData → List Out → ℕ → List Spot
page_spots ws k (done e p ∷ ps) (o ∷ os) n = spot_at ws k n p o ∷ page_spots ws k ps os (n + 1)
page_spots ws k (p ∷ ps) (o ∷ os) n = page_spots ws k ps os (n + 1)
page_spots ws k _ _ n = []

-- ---- the spots of all accesses, of which the first is number k

abbrev pub all_reads : ModelData → Requests → ℕ → List (List Out) → List Spot
all_reads d r k [] = []
all_reads d r k (os ∷ oss) = read_spots (access_ways d r k) k (steps d) os 0 ++ all_reads d r (k + 1) oss

abbrev pub all_pages : ModelData → Requests → ℕ → List (List Out) → List Spot
all_pages d r k [] = []
all_pages d r k (os ∷ oss) = page_spots (access_ways d r k) k (steps d) os 0 ++ all_pages d r (k + 1) oss
