use Rattle.std.proofs.Common.{◌≡◌, ℕ}
use Rattle.dt_propagate.proofs.Progress.{course_none}
use Rattle.dt_propagate.proofs.passing.visit.Goals as goal

pub returns-in-Choice-clause-progress : goal.returns-in-Choice-clause-progress
returns-in-Choice-clause-progress g c = course_none g.row.D.Denot g.D.Domain.ops c.args.problem.now.terms c.args.keep c.args.cells.now c.args.trail.now c.args.draft.now.lines c.requires.cells
