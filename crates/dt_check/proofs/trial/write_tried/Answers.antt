use Rattle.std.proofs.Common.{sym, ◌∙◌, length-set}
use Rattle.dt_check.proofs.Overwriting.{next_try, last_try}
use Rattle.dt_check.proofs.trial.write_tried.Goals as goal

pub returns : goal.returns
returns g c = sym (last_try c.loop-pair.out c.args.tries.now c.loop-pair.pair-index c.loop-pair-test.false) ∙ c.loop-pair.invariant.rest

pub loop-pair-preserved : goal.loop-pair-preserved
loop-pair-preserved g c = record {
  count = length-set c.loop-pair.out _ _ ∙ c.loop-pair.invariant.count;
  rest = next_try c.loop-pair.out c.args.tries.now c.loop-pair.pair-index (0, 0) c.loop-pair-test.true ∙ c.loop-pair.invariant.rest;
}
