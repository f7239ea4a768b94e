use Rattle.std.proofs.Common.{[]}
use Rattle.dt_propagate.proofs.Progress.{progress_none}
use Rattle.dt_solve.proofs.root.settle_root.Goals as goal

pub returns-in-Some-clause-logged : goal.returns-in-Some-clause-logged
returns-in-Some-clause-logged g c = (progress_none g.row.D.Denot g.D.Domain.ops c.args.problem.now.terms c.args.cells.now [] c.args.draft.now.lines c.requires.cells).logged
