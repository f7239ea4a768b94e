use Rattle.std.proofs.Common.{◌∙◌, sym, arith}
use Rattle.dt_solve.proofs.Untried.{without_next, without_end}
use Rattle.dt_solve.proofs.writing.without_tries.Goals as goal

pub loop-at-preserved : goal.loop-at-preserved
loop-at-preserved c =
    without_next c.args.draft.now.lines c.loop-at.at c.loop-at.bare.lines c.push_untried.new.bare.lines c.at.result (omega arith) c.at.ensures c.in_ok-push_untried.ensures
    ∙ c.loop-at.invariant

pub returns : goal.returns
returns c = sym (without_end c.args.draft.now.lines c.loop-at.at c.loop-at.bare.lines (omega arith)) ∙ c.loop-at.invariant
