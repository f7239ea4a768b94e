-- The acts of a list of nodes.
use Rattle.std.proofs.Common.{◌≡◌, ℕ, zero, suc, ◌<◌, List, [], ◌∷◌, length, get_or, map, Some, refl, sym, ap, arith}
use Rattle.std.specs.Prelude.{slice_get}
use Rattle.dt_model.specs.declared.model.Node.{Node}
use Rattle.dt_model.specs.ModelData.{ActData, NodeData, act_of, node_of}
use Rattle.dt_model.specs.Flow.{steps_of}

pub step_at : (nodes : List Node) (k : ℕ) (x d : Node) → k < length nodes → x ≡ get_or nodes k d → slice_get (steps_of nodes) k ≡ Some (act_of x.act)
step_at [] k x d l e = absurd (omega arith)
step_at (n ∷ ns) zero x d l e = ap (λ (m : Node). Some (act_of m.act)) (sym e)
step_at (n ∷ ns) (suc k) x d l e = step_at ns k x d (omega arith) e

-- the steps of a model's data are those of its nodes
pub steps_same : (nodes : List Node) → map (λ n. n.step) (map node_of nodes) ≡ steps_of nodes
steps_same [] = refl
steps_same (n ∷ ns) = ap (λ (l : List ActData). act_of n.act ∷ l) (steps_same ns)

-- an act of the nodes is that of a node
pub act_at : (nodes : List NodeData) (i : ℕ) (p : ActData) → slice_get (map (λ n. n.step) nodes) i ≡ Some p → (n : NodeData) × (slice_get nodes i ≡ Some n) × (n.step ≡ p)
act_at [] i p e = absurd (cc)
act_at (n ∷ ns) zero p e = let s : n.step ≡ p = cc in (n, refl, s)
act_at (n ∷ ns) (suc i) p e = act_at ns i p e
