use Rattle.dt_log.proofs.Forests.{tree_is, tree_of, same_tree}
use Rattle.dt_log.proofs.Beginnings.{first_wrong_is}
use Rattle.dt_log.proofs.laws.trees_are_read.Goals as goal

pub returns : goal.returns
returns c = record { trees = tree_is; stand = tree_of; once = same_tree; first = first_wrong_is }
