use Rattle.std.proofs.Common.{sym, subst}
use Rattle.std.specs.Prelude.{IfOk}
use Rattle.std.proofs.lemmas.Result.{IfOk-weaker}
use Rattle.dt_model.specs.declared.model.Act.{Act}
use Rattle.dt_model.specs.ModelData.{act_of}
use Rattle.dt_unroll.specs.Fronts.{access_data, Passes}
use Rattle.dt_unroll.proofs.Steps.{any_granule}
use Rattle.dt_unroll.proofs.node.pass.Goals as goal

pub returns-in-Read : goal.returns-in-Read
returns-in-Read c =
    subst (λ (z : Act). IfOk c.pass_read.result (λ out. Passes (access_data c.args.frame.now) c.args.at (act_of z) c.args.builder.now c.args.front.now c.pass_read.new.builder c.pass_read.new.front out)) (sym c.in-Read.is)
    (IfOk-weaker c.pass_read.result _ _ (λ out h. any_granule _ _ _ _ c.in-Read.granule _ _ _ _ _ _ _ _ h) c.pass_read.ensures)
