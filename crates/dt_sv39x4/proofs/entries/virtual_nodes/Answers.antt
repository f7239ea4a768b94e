use Rattle.std.proofs.Common.{subst}
use Rattle.std.specs.Prelude.{IfOk}
use Rattle.dt_stage.specs.Stage.{Shape, GoesByLevels}
use Rattle.dt_sv39x4.proofs.Short.{at_small, fetch2_short, fetch1_short, fetch0_short}
use Rattle.dt_sv39x4.proofs.entries.virtual_nodes.Goals as goal

pub stage-requires-clause-at : goal.stage-requires-clause-at
stage-requires-clause-at c = at_small c.in_ok-plan.plan c.in_ok-plan.ensures.shape

pub stage-requires-clause-fetch2 : goal.stage-requires-clause-fetch2
stage-requires-clause-fetch2 c = fetch2_short c.in_ok-plan.plan c.in_ok-plan.ensures.shape

pub stage-requires-clause-fetch1 : goal.stage-requires-clause-fetch1
stage-requires-clause-fetch1 c = fetch1_short c.in_ok-plan.plan c.in_ok-plan.ensures.shape

pub stage-requires-clause-fetch0 : goal.stage-requires-clause-fetch0
stage-requires-clause-fetch0 c = fetch0_short c.in_ok-plan.plan c.in_ok-plan.ensures.shape

pub returns-clause-v : goal.returns-clause-v
returns-clause-v c = subst (λ (s : Shape). IfOk c.stage.result (λ v. GoesByLevels s)) c.in_ok-plan.ensures.shape c.stage.ensures.walks
