use Rattle.std.proofs.Common.{◌==◌, ap, ◌∙◌}
use Rattle.dt_satisfy.proofs.Ends.{below_end}
use Rattle.dt_satisfy.proofs.block.is_below_end.Goals as goal

pub returns-else-address-block : goal.returns-else-address-block
returns-else-address-block c = ap (λ q. q == 0) c.quotient.ensures ∙ below_end c.args.address c.args.block.start c.args.block.exponent c.if-address-block.false
