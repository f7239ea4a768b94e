use Rattle.std.proofs.Common.{sym}
use Rattle.dt_check.proofs.Testing.{settled_test}
use Rattle.dt_check.proofs.Sweeping.{some_empty, some_step}
use Rattle.dt_check.proofs.settledness.are_settled.Goals as goal

pub returns-in-Some : goal.returns-in-Some
returns-in-Some g c = some_empty g.row.D.Denot g.D.Domain.ops c.args.problem.now.terms c.args.cells.now c.requires.count _ c.in-Some.ensures.found.0 c.in-Some.ensures.found.1

pub returns-in-Some-unsettled : goal.returns-in-Some-unsettled
returns-in-Some-unsettled g c = some_step g.row.D.Denot g.D.Domain.ops c.args.problem.now.terms c.args.cells.now c.requires.count _ c.in-Some-unsettled.ensures

pub returns-in-None-unsettled : goal.returns-in-None-unsettled
returns-in-None-unsettled g c = sym (settled_test g.row.D.Denot g.D.Domain.ops c.args.problem.now.terms c.args.cells.now c.requires.count c.in-None-unsettled.ensures)
