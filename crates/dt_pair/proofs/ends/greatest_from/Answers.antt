use Rattle.std.proofs.Common.{◌-◌, Some, None}
use Rattle.dt_pair.proofs.Words.{turned_is, greatest_same, greatest_found}
use Rattle.dt_pair.proofs.ends.greatest_from.Goals as goal

pub least_from-requires-clause-known : goal.least_from-requires-clause-known
least_from-requires-clause-known c = turned_is c.args.known.now c.requires.known

pub returns-in-Some-clause-is : goal.returns-in-Some-clause-is
returns-in-Some-clause-is c = greatest_same c.args.known.now c.args.hi c.ones-largest.result (Some c.in-Some.lo) c.requires.known c.requires.hi c.ones-largest.ensures c.in-Some.ensures.is

pub returns-in-Some-clause-greatest : goal.returns-in-Some-clause-greatest
returns-in-Some-clause-greatest c = greatest_found c.args.known.now c.args.hi (Some (c.ones-largest.result - c.in-Some.lo)) c.requires.known c.requires.hi (returns-in-Some-clause-is c)

pub returns-in-None-clause-is : goal.returns-in-None-clause-is
returns-in-None-clause-is c = greatest_same c.args.known.now c.args.hi c.ones-largest.result None c.requires.known c.requires.hi c.ones-largest.ensures c.in-None.ensures.is

pub returns-in-None-clause-greatest : goal.returns-in-None-clause-greatest
returns-in-None-clause-greatest c = greatest_found c.args.known.now c.args.hi None c.requires.known c.requires.hi (returns-in-None-clause-is c)
