use Rattle.dt_check.proofs.Checking.{state_begun}
use Rattle.dt_check.proofs.checker.Checker.new.Goals as goal

pub returns-clause-state : goal.returns-clause-state
returns-clause-state g c =
    λ claim. state_begun g.row.D.Denot g.D.Domain.ops c.args.problem.now.terms claim c.in_ok-root.field-0 c.in_ok-new.field-0 c.new-2.result.items c.in_ok-root.ensures.are c.in_ok-new.ensures c.new-2.ensures.items
