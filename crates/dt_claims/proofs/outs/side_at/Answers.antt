use Rattle.std.proofs.Common.{List, slice_get, ap, ◌∙◌}
use Rattle.dt_model.specs.ModelData.{ActData}
use Rattle.dt_satisfy.specs.Links.{step_granule}
use Rattle.dt_table.specs.declared.out.Out.{Out}
use Rattle.dt_table.specs.Outs.{out_at}
use Rattle.dt_ways.proofs.Models.{model_steps}
use Rattle.dt_claims.proofs.outs.side_at.Goals as goal

pub returns : goal.returns
returns c =
    let g = c.granule.ensures ∙ ap (λ (ps : List ActData). step_granule (slice_get ps c.args.side.node)) (model_steps c.args.model.now c.as_slice.result.now c.as_slice.ensures) in
    let o = c.out_at.ensures ∙ ap (λ (os : List Out). out_at os c.args.side.node) c.outs_of.ensures in
    λ i. record { exponent = g i; out = o i }
