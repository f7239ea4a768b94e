-- The sets of variables that the check keeps for each node.
use Rattle.std.specs.Prelude.{ℕ, zero, suc, Bool, true, false, not, ◌&&◌, ◌||◌, cond, eqb, ltb, List, Option, Some, None, slice_get, map}
use Rattle.dt_model.specs.declared.model.Node.{Node}
use Rattle.dt_model.specs.declared.flow.NodeSets.{NodeSets}
use Rattle.dt_model.specs.ModelData.{ActData, act_of}
use Rattle.dt_model.specs.Paths.{Side, next, then, other, Exit, step_exit, is_var}
use Rattle.dt_model.specs.Sets.{has}

abbrev pub steps_of : List Node → List ActData
steps_of nodes = map (λ n. act_of n.act) nodes

-- v is among the variables that some path assigns (b is true), or leaves (b is false)
abbrev pub found : NodeSets → ℕ → Bool → Bool
found s v true = has s.assigned v
found s v false = has s.left v

-- past an edge that assigns this variable, or none
abbrev pub past : Option ℕ → ℕ → Bool → (Bool → Bool) → Bool
past x v b at = cond (is_var x v) (b && (at true || at false)) (at b)

-- the exit of node k leads to the later node n, on a path that assigns v (b is true) or leaves it (b is false)
abbrev pub arrives : Option Exit → ℕ → ℕ → ℕ → Bool → (Bool → Bool) → Bool
arrives None k n v b at = false
arrives (Some x) k n v b at = eqb x.to n && (ltb k n && past x.assigns v b at)

abbrev pub any_side : (Side → Bool) → Bool
any_side f = f next || (f then || f other)

-- the same of the paths whose last edge leaves a node below k
unfoldable pub some_after : List ActData → ℕ → ℕ → ℕ → Bool → Bool
some_after g v zero n b = eqb n 0 && not b
some_after g v (suc k) n b = some_after g v k n b || any_side (λ s. arrives (step_exit (slice_get g k) s) k n v b (some_after g v k k))
