use Rattle.std.proofs.Common.{sym, ap, ◌∙◌}
use Rattle.std.proofs.lemmas.Bool.{cond-true, cond-false}
use Rattle.dt_sets.specs.Triple.{beside}
use Rattle.dt_sets.proofs.triple_normal.of_pair.Goals as goal

pub returns-then-pair : goal.returns-then-pair
returns-then-pair c = ap (beside c.args.pair.now) (c.nothing.ensures ∙ sym (cond-true _ _ _ c.if-pair.true))

pub returns-else-pair : goal.returns-else-pair
returns-else-pair c = ap (beside c.args.pair.now) (c.everything.ensures ∙ sym (cond-false _ _ _ c.if-pair.false))
