use Rattle.std.proofs.Common.{◌∙◌}
use Rattle.std.proofs.lemmas.Result.{on_ok_weaker}
use Rattle.dt_build.specs.Building.{claimed}
use Rattle.dt_table.specs.Unlike.{unlike_forms}
use Rattle.dt_claims.specs.Views.{access_of}
use Rattle.dt_claims.proofs.claims.require_differing.Goals as goal

pub returns : goal.returns
returns c =
    on_ok_weaker c.require_unlikes.result
    (λ h. h ∙ (λ i. claimed c.args.builder.now (unlike_forms (access_of (c.in_ok-places.ensures i)) c.args.words.now)))
    c.require_unlikes.ensures
