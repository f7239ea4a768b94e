use Rattle.std.proofs.Common.{◌∙◌, sym}
use Rattle.dt_solve.proofs.Numbers.{lines_next, lines_end}
use Rattle.dt_solve.proofs.writing.write_tries.Goals as goal

pub loop-pair-preserved : goal.loop-pair-preserved
loop-pair-preserved c =
    lines_next c.args.pairs.now c.loop-pair.pair-index c.loop-pair.draft.lines _ (0, 0) c.loop-pair-test.true c.in_ok-push.ensures.ok
    ∙ c.loop-pair.invariant

pub returns : goal.returns
returns c = sym (lines_end c.args.pairs.now c.loop-pair.pair-index c.loop-pair.draft.lines c.loop-pair-test.false) ∙ c.loop-pair.invariant
