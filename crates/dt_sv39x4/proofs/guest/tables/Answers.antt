use Rattle.std.proofs.Common.{subst}
use Rattle.std.specs.Prelude.{IfOk}
use Rattle.dt_stage.specs.Stage.{Shape, GoesByLevels}
use Rattle.dt_sv39x4.proofs.Short.{none_2, none_1, none_0}
use Rattle.dt_sv39x4.proofs.guest.tables.Goals as goal

pub stage-requires-clause-fetch2 : goal.stage-requires-clause-fetch2
stage-requires-clause-fetch2 c = none_2 c.in_ok-plan.field-0 c.args.g c.in_ok-plan.ensures

pub stage-requires-clause-fetch1 : goal.stage-requires-clause-fetch1
stage-requires-clause-fetch1 c = none_1 c.in_ok-plan.field-0 c.args.g c.in_ok-plan.ensures

pub stage-requires-clause-fetch0 : goal.stage-requires-clause-fetch0
stage-requires-clause-fetch0 c = none_0 c.in_ok-plan.field-0 c.args.g c.in_ok-plan.ensures

pub returns-clause-walks : goal.returns-clause-walks
returns-clause-walks c = subst (λ (s : Shape). IfOk c.stage.result (λ v. GoesByLevels s)) c.in_ok-plan.ensures c.stage.ensures.walks
