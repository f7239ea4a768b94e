use Rattle.dt_known.proofs.Places.{first_eq, first_ite}
use Rattle.dt_known.proofs.backward.first_of.Goals as goal

pub returns-in-Eq : goal.returns-in-Eq
returns-in-Eq c = first_eq c.args.op c.args.outcome.now c.args.a.now c.args.b.now c.args.c.now _ c.in-Eq.is c.eq_back_of.ensures

pub returns-in-Ite : goal.returns-in-Ite
returns-in-Ite c = first_ite c.args.op c.args.outcome.now c.args.a.now c.args.b.now c.args.c.now _ c.in-Ite.is c.requires.operands.fits c.test_of.ensures
