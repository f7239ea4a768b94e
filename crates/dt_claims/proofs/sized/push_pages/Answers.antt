use Rattle.std.proofs.Common.{◌≡◌, List, ◌++◌, map, subst}
use Rattle.std.specs.Prelude.{OnOk}
use Rattle.dt_model.specs.ModelData.{ActData}
use Rattle.dt_table.specs.Apart.{pages_at}
use Rattle.dt_claims.specs.Views.{sized}
use Rattle.dt_ways.proofs.Models.{model_steps}
use Rattle.dt_claims.proofs.sized.push_pages.Goals as goal

pub returns : goal.returns
returns c =
    subst (λ (ps : List ActData). OnOk c.push_pages_among.result (map sized c.push_pages_among.new.pages.items ≡ map sized c.args.pages.now.items ++ pages_at ps c.args.outs.now))
    (model_steps c.args.model.now c.as_slice.result.now c.as_slice.ensures) c.push_pages_among.ensures
