use Rattle.std.proofs.Common.{ap}
use Rattle.std.specs.Prelude.{is_some}
use Rattle.dt_walk.proofs.Named.{named_at, set_value, set_bound}
use Rattle.dt_walk.proofs.step.bind.Goals as goal

pub bounds-vars-x : goal.bounds-vars-x
bounds-vars-x c = (named_at c.args.names.now c.args.vars.now c.args.x c.requires.values (ap is_some c.requires.there.1)).within

pub returns-clause-values : goal.returns-clause-values
returns-clause-values c = set_value c.args.names.now c.args.vars.now c.args.x c.requires.there.0 c.args.bits c.requires.values c.requires.there.1 c.requires.there.2

pub returns-clause-bound : goal.returns-clause-bound
returns-clause-bound c = set_bound c.args.vars.now c.args.x c.args.bits (bounds-vars-x c)
