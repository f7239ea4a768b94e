use Rattle.dt_top.proofs.ReadLogs.{few_read}
use Rattle.dt_top.proofs.stages.problem_log.Goals as goal

pub returns-in-Ok-clause-few : goal.returns-in-Ok-clause-few
returns-in-Ok-clause-few c = few_read c.args.bytes.now (c.in-Ok.log.claim, c.in-Ok.log.lines) c.in-Ok.ensures c.requires
