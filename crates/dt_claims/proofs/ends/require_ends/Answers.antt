use Rattle.std.proofs.Common.{◌≡◌, List, subst}
use Rattle.std.specs.Prelude.{OnOk}
use Rattle.dt_model.specs.ModelData.{ActData}
use Rattle.dt_build.specs.Building.{claimed}
use Rattle.dt_table.specs.Claims.{ends_only}
use Rattle.dt_claims.specs.Endings.{passes}
use Rattle.dt_ways.proofs.Models.{model_steps}
use Rattle.dt_claims.proofs.ends.require_ends.Goals as goal

pub returns : goal.returns
returns c =
    subst (λ (ps : List ActData). OnOk c.require_ends_among.result (c.require_ends_among.new.builder ≡ claimed c.args.builder.now (ends_only (passes c.args.ending) ps c.args.outs.now)))
    (model_steps c.args.model.now c.as_slice.result.now c.as_slice.ensures) c.require_ends_among.ensures
