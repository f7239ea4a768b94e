use Rattle.std.proofs.Common.{sym}
use Rattle.dt_check.proofs.Testing.{settled_is}
use Rattle.dt_check.proofs.checker.Checker.trial_cause.Goals as goal

pub solves-requires-clause-held : goal.solves-requires-clause-held
solves-requires-clause-held g c =
    (settled_is g.row.D.Denot g.D.Domain.ops c.args.problem.now.terms c.args.self.now.cells c.requires.cells.count (sym c.if-not-is_settled_now.ensures)).held
