use Rattle.std.proofs.Common.{◌∙◌}
use Rattle.dt_pair.proofs.Normals.{no_greatest, both_ends, ends_order}
use Rattle.dt_pair.proofs.normal.up_from.Goals as goal

pub filled-requires-clause-order : goal.filled-requires-clause-order
filled-requires-clause-order c = ends_order c.args.known.now c.args.range.now c.args.lo c.in-Some.hi c.requires.parts c.requires.least c.requires.within c.in-Some.ensures.greatest

pub returns-in-Some : goal.returns-in-Some
returns-in-Some c = c.filled.ensures
    ∙ both_ends c.args.known.now c.args.range.now c.args.lo c.in-Some.hi c.requires.parts c.requires.full c.requires.least c.requires.within c.in-Some.ensures.is

pub returns-in-None : goal.returns-in-None
returns-in-None c = c.nothing.ensures ∙ no_greatest c.args.known.now c.args.range.now c.in-None.ensures.is
