use Rattle.std.proofs.Common.{subst}
use Rattle.dt_propagate.proofs.Progress.{progress_none}
use Rattle.dt_solve.specs.declared.turning.Start.{Start}
use Rattle.dt_solve.specs.Searching.{IsStart}
use Rattle.dt_solve.proofs.turning.settle_start.Goals as goal

pub returns-in-Ended-clause-progress : goal.returns-in-Ended-clause-progress
returns-in-Ended-clause-progress g c = progress_none g.row.D.Denot g.D.Domain.ops c.args.problem.now.terms c.args.cells.now c.args.trail.now c.args.draft.now.lines c.requires.cells

pub returns-in-Ended-clause-end : goal.returns-in-Ended-clause-end
returns-in-Ended-clause-end g c = subst (λ (s : Start). IsStart g.D.Domain.ops c.args.problem.now.terms s c.args.cells.now) c.in-Ended.is c.requires.start

pub returns-then-is_empty-clause-progress : goal.returns-then-is_empty-clause-progress
returns-then-is_empty-clause-progress g c = progress_none g.row.D.Denot g.D.Domain.ops c.args.problem.now.terms c.args.cells.now c.args.trail.now c.args.draft.now.lines c.requires.cells
