use Rattle.dt_table.proofs.Whole.{lists_are_problems}
use Rattle.dt_table.proofs.faithful.lists_are_problems.Goals as goal

pub returns : goal.returns
returns c = lists_are_problems
