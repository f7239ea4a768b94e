use Rattle.std.proofs.Common.{Some, None, sym, subst}
use Rattle.std.proofs.lemmas.Bool.{ne_eqb}
use Rattle.dt_pair.specs.Ends.{IsLeastFound}
use Rattle.dt_pair.specs.Laws.Least.{none_is}
use Rattle.dt_pair.proofs.Words.{candidate_wide, least_some, least_same}
use Rattle.dt_pair.proofs.ends.least_from.Goals as goal

pub candidate-requires-clause-fits : goal.candidate-requires-clause-fits
candidate-requires-clause-fits c = candidate_wide c.args.known.now c.args.lo c.in-Some.place c.requires.known c.requires.lo c.in-Some.ensures.below

pub returns-in-Some-clause-least : goal.returns-in-Some-clause-least
returns-in-Some-clause-least c =
    let k = c.args.known.now in
    subst (λ x. IsLeastFound k.width.0 k.mask k.value c.args.lo (Some x)) (sym c.candidate.ensures)
    (least_some k c.args.lo c.in-Some.place c.requires.known c.requires.lo (ne_eqb _ _ c.if-lo-known.false) c.in-Some.ensures)

pub returns-in-Some-clause-is : goal.returns-in-Some-clause-is
returns-in-Some-clause-is c = least_same c.args.known.now c.args.lo (Some c.candidate.result) c.requires.known c.requires.lo (returns-in-Some-clause-least c)

pub returns-in-None-clause-least : goal.returns-in-None-clause-least
returns-in-None-clause-least c =
    let k = c.args.known.now in
    none_is k.width.0 k.mask k.value c.args.lo (ne_eqb _ _ c.if-lo-known.false) c.in-None.ensures

pub returns-in-None-clause-is : goal.returns-in-None-clause-is
returns-in-None-clause-is c = least_same c.args.known.now c.args.lo None c.requires.known c.requires.lo (returns-in-None-clause-least c)
