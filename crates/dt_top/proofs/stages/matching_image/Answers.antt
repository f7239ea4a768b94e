use Rattle.std.proofs.Common.{rules}
use Rattle.dt_model.specs.Accepted.{accepted_data}
use Rattle.dt_top.proofs.Commanded.{replies_image, replies_mismatch}
use Rattle.dt_top.proofs.stages.matching_image.Goals as goal

pub returns-then-not-matches-clause-refused : goal.returns-then-not-matches-clause-refused
returns-then-not-matches-clause-refused c =
    replies_mismatch (accepted_data c.args.model.now) c.args.list.now c.args.bytes.now c.in-Ok.image c.line.result c.in-Ok.ensures.value (search rules) c.line.ensures.status c.line.ensures.text

pub returns-in-Err-clause-refused : goal.returns-in-Err-clause-refused
returns-in-Err-clause-refused c =
    replies_image (accepted_data c.args.model.now) c.args.list.now c.args.bytes.now c.in-Err.fault c.refused.result c.in-Err.ensures.value
    (rw (c.line-in-Err.ensures, c.word.ensures) at c.refused.ensures)
