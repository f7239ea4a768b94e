use Rattle.dt_sets.proofs.Writes.{at_is}
use Rattle.dt_sets.proofs.Sets.at.Goals as goal

pub returns : goal.returns
returns c = at_is c.args.self.now c.args.place c.requires.place
