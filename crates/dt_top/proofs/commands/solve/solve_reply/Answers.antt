use Rattle.dt_model.specs.Accepted.{accepted_data}
use Rattle.dt_top.specs.commands.Solve.{Answering}
use Rattle.dt_top.proofs.Commanded.{replies_within}
use Rattle.dt_top.proofs.commands.solve.solve_reply.Goals as goal

pub returns-in-Ok-searched : goal.returns-in-Ok-searched
returns-in-Ok-searched c =
    let d = accepted_data c.args.model.now in
    replies_within d c.args.list.now (Answering d c.args.list.now c.args.splits) c.in-Ok.ensures.within _ _ c.in-Ok-searched.ensures
