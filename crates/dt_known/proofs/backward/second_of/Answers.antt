use Rattle.dt_known.proofs.Places.{second_eq}
use Rattle.dt_known.proofs.backward.second_of.Goals as goal

pub returns-in-Eq : goal.returns-in-Eq
returns-in-Eq c = second_eq c.args.op c.args.outcome.now c.args.a.now c.args.b.now c.args.c.now _ c.in-Eq.is c.eq_back_of.ensures
