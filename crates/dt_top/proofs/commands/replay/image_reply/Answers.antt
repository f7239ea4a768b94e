use Rattle.dt_model.specs.Accepted.{accepted_data}
use Rattle.dt_top.proofs.Commanded.{replies_matching}
use Rattle.dt_top.proofs.commands.replay.image_reply.Goals as goal

pub returns-in-Ok-judged : goal.returns-in-Ok-judged
returns-in-Ok-judged c =
    replies_matching (accepted_data c.args.model.now) c.args.list.now c.args.bytes.now c.in-Ok.image c.in-Ok.ensures.text _ _ c.in-Ok-judged.ensures
