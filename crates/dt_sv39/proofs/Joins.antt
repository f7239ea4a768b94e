-- Lists of nodes, and joined lists.
use Rattle.dt_stage.proofs.Appends.{two_nodes, three_nodes, four_nodes, five_nodes, five_lists}

pub ruleset joins = (two_nodes, three_nodes, four_nodes, five_nodes, five_lists)
