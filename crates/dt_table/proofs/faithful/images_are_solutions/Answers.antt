use Rattle.dt_table.proofs.Whole.{images_are_solutions}
use Rattle.dt_table.proofs.faithful.images_are_solutions.Goals as goal

pub returns : goal.returns
returns c = images_are_solutions
