use Rattle.std.proofs.Common.{leb, sym, ap, ◌∙◌}
use Rattle.std.proofs.lemmas.Bool.{cond-true, cond-false}
use Rattle.std.proofs.lemmas.Nat.{pow_pos}
use Rattle.dt_sets.specs.Laws.Form.{few_is}
use Rattle.dt_sets.proofs.Alike.{top_test}
use Rattle.dt_sets.proofs.sets_domain.SetsDomain.holds.Goals as goal

pub lists-requires : goal.lists-requires
lists-requires c = few_is c.args.self.now c.requires c.if-self.false

pub returns-then-self : goal.returns-then-self
returns-then-self c = ap (leb c.args.value) c.ones.ensures ∙ top_test c.args.value _ (pow_pos c.args.self.now.width.0) ∙ sym (cond-true _ _ _ c.if-self.true)

pub returns-else-self : goal.returns-else-self
returns-else-self c = c.lists.ensures ∙ sym (cond-false _ _ _ c.if-self.false)
