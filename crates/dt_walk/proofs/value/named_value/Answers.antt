use Rattle.dt_walk.proofs.Named.{named_at, value_of_name}
use Rattle.dt_walk.proofs.value.named_value.Goals as goal

pub bounds-values-i : goal.bounds-values-i
bounds-values-i c = (named_at c.args.names.now c.args.values.now c.args.i c.requires.values c.requires.there).within

pub returns-clause-value : goal.returns-clause-value
returns-clause-value c = value_of_name _ _ _ _ (named_at c.args.names.now c.args.values.now c.args.i c.requires.values c.requires.there)

pub returns-clause-range : goal.returns-clause-range
returns-clause-range c = let r = named_at c.args.names.now c.args.values.now c.args.i c.requires.values c.requires.there in (r.is_width _, r.fits _)

pub returns-clause-width : goal.returns-clause-width
returns-clause-width c = (named_at c.args.names.now c.args.values.now c.args.i c.requires.values c.requires.there).width _
