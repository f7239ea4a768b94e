use Rattle.dt_model.specs.Accepted.{accepted_data}
use Rattle.dt_top.proofs.Commanded.{replies_model_image}
use Rattle.dt_top.proofs.stages.model_image.Goals as goal

pub returns-in-Err-clause-refused : goal.returns-in-Err-clause-refused
returns-in-Err-clause-refused c =
    replies_model_image (accepted_data c.args.model.now) c.args.bytes.now c.in-Err.fault c.refused.result c.in-Err.ensures.value
    (rw (c.line.ensures, c.word.ensures) at c.refused.ensures)
