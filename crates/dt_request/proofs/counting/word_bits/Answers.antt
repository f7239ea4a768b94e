use Rattle.std.proofs.Common.{ap, arith}
use Rattle.dt_model.specs.ModelData.{ModelData}
use Rattle.dt_model.specs.Accepted.{accepted_data}
use Rattle.dt_request.proofs.Choosing.{word_few}
use Rattle.dt_request.proofs.counting.word_bits.Goals as goal

pub returns-clause-few : goal.returns-clause-few
returns-clause-few c = omega (arith, word_few (accepted_data c.args.model.now) c.model.ensures.accepted, ap (λ (d : ModelData). d.word) c.model.ensures.same)
