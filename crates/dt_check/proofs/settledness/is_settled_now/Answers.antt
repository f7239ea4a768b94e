use Rattle.dt_check.proofs.Sweeping.{settled_exactly}
use Rattle.dt_check.proofs.settledness.is_settled_now.Goals as goal

pub returns-in-Some : goal.returns-in-Some
returns-in-Some g c =
    settled_exactly g.row.D.Denot g.D.Domain.ops c.args.problem.now.terms c.args.cells.now c.requires.cells.count c.is_settled_since.result c.is_settled_since.ensures.0 c.is_settled_since.ensures.1
