use Rattle.std.proofs.Common.{ap, arith}
use Rattle.dt_model.specs.ModelData.{ModelData}
use Rattle.dt_model.specs.Accepted.{accepted_data}
use Rattle.dt_model.proofs.BoundsFit.{some_bytes}
use Rattle.dt_model.proofs.bounds.word_bytes.Goals as goal

pub returns-clause-some : goal.returns-clause-some
returns-clause-some c = omega (arith, some_bytes (accepted_data c.args.model.now) c.model.ensures.accepted, ap (λ (d : ModelData). d.word) c.model.ensures.same)
