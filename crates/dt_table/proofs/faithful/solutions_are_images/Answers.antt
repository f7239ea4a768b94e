use Rattle.dt_table.proofs.Whole.{solutions_are_images}
use Rattle.dt_table.proofs.faithful.solutions_are_images.Goals as goal

pub returns : goal.returns
returns c = solutions_are_images
