-- What the node at a position does.
use Rattle.std.proofs.Common.{◌≡◌, ℕ, ◌<◌, false, cond, List, length, get_or, Option, Some, None, refl, ap, ◌∙◌}
use Rattle.std.specs.Prelude.{map, slice_get}
use Rattle.std.specs.Option.{option_map, option_map_or}
use Rattle.std.proofs.lemmas.Option.{slice_get-map, slice_get_read}
use Rattle.std.proofs.lemmas.Simd.{map-map}
use Rattle.dt_model.specs.declared.model.Node.{Node}
use Rattle.dt_model.specs.declared.model.Model.{Model}
use Rattle.dt_model.specs.ModelData.{ActData, NodeData, act_of, node_of, data_of}
use Rattle.dt_model.specs.Faults.{steps, is_read}
use Rattle.dt_request.specs.Lists.{read_width}

pub names_are : (nodes : List Node) → map (λ (n : NodeData). n.name) (map node_of nodes) ≡ map (λ (n : Node). n.name) nodes
names_are nodes = map-map (λ (n : NodeData). n.name) node_of nodes

step_seen : (m : Model) (i : ℕ) → slice_get (steps (data_of m)) i ≡ option_map (λ (n : Node). act_of n.act) (slice_get m.nodes i)
step_seen m i = ap (λ (ps : List ActData). slice_get ps i) (map-map (λ (n : NodeData). n.step) node_of m.nodes) ∙ slice_get-map (λ (n : Node). act_of n.act) m.nodes i

pub step_some : (m : Model) (i : ℕ) (n : Node) → i < length m.nodes → n ≡ get_or m.nodes i n → slice_get (steps (data_of m)) i ≡ Some (act_of n.act)
step_some m i n lt e = step_seen m i ∙ ap (option_map (λ (x : Node). act_of x.act)) (slice_get_read m.nodes (length m.nodes) i n refl lt e)

pub step_none : (m : Model) (i : ℕ) → slice_get m.nodes i ≡ None → slice_get (steps (data_of m)) i ≡ None
step_none m i e = step_seen m i ∙ ap (option_map (λ (x : Node). act_of x.act)) e

pub read_width_is : (w : ℕ) (o : Option ActData) → read_width w o ≡ cond (option_map_or is_read o false) (Some w) None
read_width_is w None = refl
read_width_is w (Some p) = refl
