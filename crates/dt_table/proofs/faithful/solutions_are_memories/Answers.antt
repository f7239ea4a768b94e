use Rattle.dt_table.proofs.Whole.{solutions_are_memories}
use Rattle.dt_table.proofs.faithful.solutions_are_memories.Goals as goal

pub returns : goal.returns
returns c = solutions_are_memories
