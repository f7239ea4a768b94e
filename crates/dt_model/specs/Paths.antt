-- Paths through the graph, and what they assign.
use Rattle.std.specs.Prelude.{◌≡◌, ℕ, ◌<◌, Bool, false, ◌||◌, ◌==◌, List, [], ◌∷◌, Option, Some, None, slice_get}
use Rattle.dt_model.specs.ModelData.{ActData, bind, read, branch}

-- the sides by which a walk may leave a node
pub data Side : Type 0 where
  next : Side
  then : Side
  other : Side

-- where a side leads, and which variable it assigns
pub record Exit : Type 0 where
  pub to : ℕ
  pub assigns : Option ℕ

abbrev pub plain : ℕ → Option Exit
plain n = Some (record { to = n; assigns = None })

abbrev pub assigning : ℕ → ℕ → Option Exit
assigning x n = Some (record { to = n; assigns = Some x })

abbrev pub exit : ActData → Side → Option Exit
exit (bind x e n) next = assigning x n
exit (read x e g t o) then = assigning x t
exit (read x e g t o) other = plain o
exit (branch e t o) then = plain t
exit (branch e t o) other = plain o
exit _ _ = None

-- an edge is a node with a side
pub record Edge : Type 0 where
  pub node : ℕ
  pub side : Side

abbrev pub step_exit : Option ActData → Side → Option Exit
step_exit None s = None
step_exit (Some p) s = exit p s

abbrev pub exit_at : List ActData → Edge → Option Exit
exit_at g e = step_exit (slice_get g e.node) e.side

-- The edge leads to the node, which is later than its own.
abbrev pub Leads : List ActData → Edge → ℕ → Type 0
Leads g e to = (x : Exit) × (exit_at g e ≡ Some x) × (x.to ≡ to) × (e.node < to)

-- The edges, the last one first, are a path from node 0 to this node.
abbrev pub IsPath : List ActData → List Edge → ℕ → Type 0
IsPath g [] to = to ≡ 0
IsPath g (e ∷ before) to = Leads g e to × IsPath g before e.node

abbrev pub is_var : Option ℕ → ℕ → Bool
is_var None v = false
is_var (Some x) v = x == v

abbrev pub exit_assigns : Option Exit → ℕ → Bool
exit_assigns None v = false
exit_assigns (Some x) v = is_var x.assigns v

-- some edge of the path assigns the variable
abbrev pub assigned_by : List ActData → List Edge → ℕ → Bool
assigned_by g [] v = false
assigned_by g (e ∷ before) v = exit_assigns (exit_at g e) v || assigned_by g before v

-- some path to the node assigns the variable (b is true), or leaves it (b is false)
abbrev pub SomePath : List ActData → ℕ → ℕ → Bool → Type 0
SomePath g n v b = (p : List Edge) × IsPath g p n × (assigned_by g p v ≡ b)
