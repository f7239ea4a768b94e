use Rattle.std.proofs.Common.{◌∙◌}
use Rattle.std.proofs.lemmas.Result.{IfOk-weaker}
use Rattle.dt_ways.specs.Ways.{all_ways}
use Rattle.dt_ways.proofs.Models.{model_steps}
use Rattle.dt_ways.proofs.ways.access_ways.Goals as goal

pub returns : goal.returns
returns c =
    let same = model_steps c.args.model.now c.as_slice-2.result.now c.as_slice-2.ensures in
    let asked = c.as_slice.ensures.value ∙ c.in_ok-asked.ensures in
    IfOk-weaker c.all_ways.result _ _
    (λ v h. h ∙ (λ i. all_ways (asked i) (same i) 0))
    c.all_ways.ensures
