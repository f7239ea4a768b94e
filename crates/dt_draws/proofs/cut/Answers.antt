use Rattle.std.proofs.Common.{ap, ◌∙◌, bit_and}
use Rattle.std.proofs.lemmas.Nat.{and_mask}
use Rattle.dt_draws.proofs.cut.Goals as goal

pub returns : goal.returns
returns c = ap (λ n. bit_and c.args.number n) c.ones.ensures ∙ and_mask c.args.number c.args.width.0
