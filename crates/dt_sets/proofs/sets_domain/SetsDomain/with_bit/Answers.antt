use Rattle.std.proofs.Common.{sym, ◌∙◌}
use Rattle.std.proofs.lemmas.Bool.{cond-true, cond-false}
use Rattle.dt_sets.proofs.sets_domain.SetsDomain.with_bit.Goals as goal

pub returns-then-self : goal.returns-then-self
returns-then-self c = sym (cond-true _ _ _ c.if-self.true)

pub returns-else-self : goal.returns-else-self
returns-else-self c = c.with_bit_at.ensures ∙ sym (cond-false _ _ _ c.if-self.false)
