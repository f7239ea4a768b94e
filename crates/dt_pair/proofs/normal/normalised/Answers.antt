use Rattle.std.proofs.Common.{◌∙◌, sym}
use Rattle.dt_pair.specs.Laws.Form.{normal_of_empty}
use Rattle.dt_pair.proofs.Normals.{no_least, least_above}
use Rattle.dt_pair.proofs.normal.normalised.Goals as goal

pub returns-then-known : goal.returns-then-known
returns-then-known c = c.nothing.ensures ∙ sym (normal_of_empty c.args.known.now c.args.range.now c.if-known.true)

pub returns-else-lo-range : goal.returns-else-lo-range
returns-else-lo-range c = c.nothing-else-lo-range.ensures ∙ least_above c.args.known.now c.args.range.now c.in-Some.lo c.in-Some.ensures.is c.if-lo-range.false

pub returns-in-None : goal.returns-in-None
returns-in-None c = c.nothing-in-None.ensures ∙ no_least c.args.known.now c.args.range.now c.in-None.ensures.is
