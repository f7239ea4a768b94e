use Rattle.std.proofs.Common.{ap}
use Rattle.dt_pair.specs.Pair.{no_pair}
use Rattle.dt_sets.specs.Triple.{beside}
use Rattle.dt_sets.proofs.triple_normal.nothing.Goals as goal

pub returns : goal.returns
returns c = ap (beside (no_pair c.args.width)) c.nothing.ensures
