-- Lists of nodes.
use Rattle.std.proofs.Common.{◌≡◌, List, [], ◌∷◌, map, ap, ◌∙◌}
use Rattle.dt_model.specs.declared.model.Node.{Node}
use Rattle.dt_model.specs.ModelData.{NodeData, node_of}
use Rattle.dt_stage.proofs.Appends.{two_nodes, three_nodes, four_nodes, five_nodes}

pub one_node : (l : List Node) (a : Node) (x : NodeData) → l ≡ a ∷ [] → node_of a ≡ x → map node_of l ≡ x ∷ []
one_node l a x h p = ap (map node_of) h ∙ ap (λ k. k ∷ []) p

pub ruleset joins = (one_node, two_nodes, three_nodes, four_nodes, five_nodes)
