use Rattle.std.proofs.Common.{◌∙◌}
use Rattle.std.proofs.lemmas.Result.{IfOk-weaker, on_ok_weaker}
use Rattle.dt_claims.specs.Blocks.{not_above, not_below}
use Rattle.dt_claims.proofs.Parts.{both_at, both_here}
use Rattle.dt_claims.proofs.kept.within.Goals as goal

pub returns-clause-at : goal.returns-clause-at
returns-clause-at c =
    let x = not_above c.args.width c.args.last c.args.exponent c.args.address in
    let y = not_below c.args.width c.args.first c.args.exponent c.args.address in
    IfOk-weaker c.both.result _ _
    (λ t h. h ∙ both_at c.args.builder.now c.not_above.new.builder c.not_below.new.builder x y c.in_ok-reached.reached c.in_ok-begun.begun c.in_ok-reached.ensures.placed c.in_ok-reached.ensures.at c.in_ok-begun.ensures.placed c.in_ok-begun.ensures.at)
    c.both.ensures.at

pub returns-clause-placed : goal.returns-clause-placed
returns-clause-placed c =
    let x = not_above c.args.width c.args.last c.args.exponent c.args.address in
    let y = not_below c.args.width c.args.first c.args.exponent c.args.address in
    on_ok_weaker c.both.result
    (λ h. h ∙ both_here c.args.builder.now c.not_above.new.builder c.not_below.new.builder x y c.in_ok-reached.reached c.in_ok-begun.begun c.in_ok-reached.ensures.placed c.in_ok-reached.ensures.at c.in_ok-begun.ensures.placed c.in_ok-begun.ensures.at)
    c.both.ensures.placed
