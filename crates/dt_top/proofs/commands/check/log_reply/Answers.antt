use Rattle.dt_top.proofs.Commanded.{replies_log_read}
use Rattle.dt_top.proofs.commands.check.log_reply.Goals as goal

pub returns-in-Ok-judged : goal.returns-in-Ok-judged
returns-in-Ok-judged c = replies_log_read c.args.problem.now c.args.bytes.now (c.in-Ok.log.claim, c.in-Ok.log.lines) c.in-Ok.ensures.text _ _ c.in-Ok-judged.ensures
