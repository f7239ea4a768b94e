use Rattle.std.proofs.Common.{List, map, ap, ◌∙◌}
use Rattle.std.proofs.lemmas.Result.{on_ok_weaker}
use Rattle.dt_model.specs.ModelData.{data_of}
use Rattle.dt_model.specs.Faults.{steps}
use Rattle.dt_build.specs.Building.{claimed}
use Rattle.dt_table.specs.Apart.{Sized, pages_at}
use Rattle.dt_table.specs.Claims.{ends_only}
use Rattle.dt_ways.specs.Ends.{ends_done}
use Rattle.dt_table.specs.Demands.{result_form}
use Rattle.dt_claims.specs.Tests.{test_form}
use Rattle.dt_claims.specs.Views.{sized}
use Rattle.dt_claims.proofs.Steps.{collected}
use Rattle.dt_claims.proofs.Turns.{both_required}
use Rattle.dt_claims.proofs.demands.require_address.Goals as goal

pub returns : goal.returns
returns c =
    let ps = steps (data_of c.args.model.now) in
    let form = result_form (test_form c.args.width c.args.test) in
    let pages = collected sized c.as_slice.result.now c.push_pages.new.pages.items c.new-pages.result.items (pages_at ps c.args.outs.now) c.as_slice.ensures.value c.in_ok-push_pages.ensures c.new-pages.ensures.items in
    on_ok_weaker c.require_result_tests.result
    (λ h. both_required c.args.builder.now c.require_ends.new.builder c.require_result_tests.new.builder (ends_only ends_done ps c.args.outs.now) (map form (pages_at ps c.args.outs.now)) c.in_ok-require_ends.ensures
    (h ∙ ap (λ (xs : List Sized). claimed c.require_ends.new.builder (map form xs)) pages))
    c.require_result_tests.ensures
