use Rattle.std.proofs.Common.{ap, arith}
use Rattle.dt_model.specs.ModelData.{ModelData}
use Rattle.dt_model.specs.Accepted.{accepted_data}
use Rattle.dt_request.specs.Choices.{widths_of}
use Rattle.dt_request.proofs.Choosing.{input_bits_few}
use Rattle.dt_request.proofs.counting.input_bits.Goals as goal

pub total_width-requires : goal.total_width-requires
total_width-requires c = omega (arith, input_bits_few (accepted_data c.args.model.now) c.model.ensures.accepted, ap (λ (d : ModelData). widths_of d.inputs) c.model.ensures.same, ap widths_of c.as_slice.ensures)

pub returns-clause-few : goal.returns-clause-few
returns-clause-few c = omega (arith, input_bits_few (accepted_data c.args.model.now) c.model.ensures.accepted, ap (λ (d : ModelData). widths_of d.inputs) c.model.ensures.same, ap widths_of c.as_slice.ensures)
