use Rattle.std.proofs.lemmas.Result.{err_from_is_err_and}
use Rattle.dt_modeltext.proofs.Refusals.{unread}
use Rattle.dt_modeltext.proofs.read.read_model.Goals as goal

pub returns-in_err-model-clause-refused : goal.returns-in_err-model-clause-refused
returns-in_err-model-clause-refused c =
    let p = err_from_is_err_and c.from_residual.result c.from_residual.ensures.1 in
    rw (p.1, p.2) (unread c.args.bytes.now c.in_err-model.field-0.0 c.in_err-model.ensures.value)
