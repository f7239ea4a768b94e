use Rattle.std.proofs.Common.{sym, ap, ◌∙◌, subst}
use Rattle.dt_bits.specs.Bits.{IsWidth}
use Rattle.dt_bits.specs.declared.value.Width.{Width}
use Rattle.dt_sets.specs.Sets.{no_sets, sets_full}
use Rattle.dt_sets.specs.Laws.Calls.{width_is}
use Rattle.dt_sets.proofs.Choosing.{forward_none, forward_unlisted, forward_few}
use Rattle.dt_sets.proofs.sets_domain.SetsDomain.forward.Goals as goal

pub returns-then-is_used_empty : goal.returns-then-is_used_empty
returns-then-is_used_empty c = c.nothing.ensures ∙ ap no_sets c.result_width-width.ensures
    ∙ forward_none c.args.op c.args.a.now c.args.b.now c.args.c.now (sym c.is_used_empty.ensures ∙ c.if-is_used_empty.true)

pub all-requires : goal.all-requires
all-requires c = subst (λ (w : Width). IsWidth w.0) (sym c.result_width-width.ensures) (width_is c.args.op c.args.a.now c.args.b.now c.args.c.now c.requires)

pub returns-then-is_some_used : goal.returns-then-is_some_used
returns-then-is_some_used c = c.all.ensures ∙ ap sets_full c.result_width-width.ensures
    ∙ forward_unlisted c.args.op c.args.a.now c.args.b.now c.args.c.now (sym c.is_used_empty.ensures ∙ c.if-is_used_empty.false) (sym c.is_some_used.ensures ∙ c.if-is_some_used.true)

pub few_forward-requires-clause-listed : goal.few_forward-requires-clause-listed
few_forward-requires-clause-listed c = sym c.is_some_used.ensures ∙ c.if-is_some_used.false

pub returns-else-is_some_used : goal.returns-else-is_some_used
returns-else-is_some_used c = c.few_forward.ensures
    ∙ forward_few c.args.op c.args.a.now c.args.b.now c.args.c.now (sym c.is_used_empty.ensures ∙ c.if-is_used_empty.false) (sym c.is_some_used.ensures ∙ c.if-is_some_used.false)

pub result_width-width-requires : goal.result_width-width-requires
result_width-width-requires c = c.requires.fits

pub is_used_empty-requires : goal.is_used_empty-requires
is_used_empty-requires c = c.requires

pub few_forward-requires-clause-fitting : goal.few_forward-requires-clause-fitting
few_forward-requires-clause-fitting c = c.requires
