use Rattle.std.proofs.Common.{length, ap, arith}
use Rattle.dt_model.specs.ModelData.{ModelData}
use Rattle.dt_model.specs.Accepted.{accepted_data}
use Rattle.dt_model.proofs.Accepting.{few_regs}
use Rattle.dt_request.proofs.counting.reg_count.Goals as goal

pub returns-clause-few : goal.returns-clause-few
returns-clause-few c = omega (arith, few_regs (accepted_data c.args.model.now) c.model.ensures.accepted, ap (λ (d : ModelData). length d.regs) c.model.ensures.same)
