use Rattle.std.proofs.Common.{sym, ap, ◌∙◌, subst, true, false}
use Rattle.std.proofs.lemmas.Bool.{cond-false}
use Rattle.dt_bits.specs.Bits.{IsWidth}
use Rattle.dt_bits.specs.declared.value.Width.{Width}
use Rattle.dt_sets.specs.Sets.{sets_full}
use Rattle.dt_sets.specs.Laws.Calls.{width_is}
use Rattle.dt_sets.proofs.Choosing.{all_used, all_fitting, all_selections, gathered_used}
use Rattle.dt_sets.proofs.selections.few_forward.Goals as goal

pub are_few-requires-clause-a_is : goal.are_few-requires-clause-a_is
are_few-requires-clause-a_is c = (all_used c.args.op c.args.a.now c.args.b.now c.args.c.now c.used-first.result c.used-second.result c.used-third.result c.requires.fitting c.requires.listed c.used-first.ensures c.used-second.ensures c.used-third.ensures).first.is

pub are_few-requires-clause-a_few : goal.are_few-requires-clause-a_few
are_few-requires-clause-a_few c = (all_used c.args.op c.args.a.now c.args.b.now c.args.c.now c.used-first.result c.used-second.result c.used-third.result c.requires.fitting c.requires.listed c.used-first.ensures c.used-second.ensures c.used-third.ensures).first.few

pub are_few-requires-clause-b_is : goal.are_few-requires-clause-b_is
are_few-requires-clause-b_is c = (all_used c.args.op c.args.a.now c.args.b.now c.args.c.now c.used-first.result c.used-second.result c.used-third.result c.requires.fitting c.requires.listed c.used-first.ensures c.used-second.ensures c.used-third.ensures).second.is

pub are_few-requires-clause-b_few : goal.are_few-requires-clause-b_few
are_few-requires-clause-b_few c = (all_used c.args.op c.args.a.now c.args.b.now c.args.c.now c.used-first.result c.used-second.result c.used-third.result c.requires.fitting c.requires.listed c.used-first.ensures c.used-second.ensures c.used-third.ensures).second.few

pub are_few-requires-clause-c_is : goal.are_few-requires-clause-c_is
are_few-requires-clause-c_is c = (all_used c.args.op c.args.a.now c.args.b.now c.args.c.now c.used-first.result c.used-second.result c.used-third.result c.requires.fitting c.requires.listed c.used-first.ensures c.used-second.ensures c.used-third.ensures).third.is

pub are_few-requires-clause-c_few : goal.are_few-requires-clause-c_few
are_few-requires-clause-c_few c = (all_used c.args.op c.args.a.now c.args.b.now c.args.c.now c.used-first.result c.used-second.result c.used-third.result c.requires.fitting c.requires.listed c.used-first.ensures c.used-second.ensures c.used-third.ensures).third.few

pub all_values-requires-clause-fitting : goal.all_values-requires-clause-fitting
all_values-requires-clause-fitting c = all_fitting c.args.op c.args.a.now c.args.b.now c.args.c.now c.used-first.result c.used-second.result c.used-third.result c.requires.fitting (all_used c.args.op c.args.a.now c.args.b.now c.args.c.now c.used-first.result c.used-second.result c.used-third.result c.requires.fitting c.requires.listed c.used-first.ensures c.used-second.ensures c.used-third.ensures)

pub all_values-requires-clause-a_few : goal.all_values-requires-clause-a_few
all_values-requires-clause-a_few c = (all_used c.args.op c.args.a.now c.args.b.now c.args.c.now c.used-first.result c.used-second.result c.used-third.result c.requires.fitting c.requires.listed c.used-first.ensures c.used-second.ensures c.used-third.ensures).first.few

pub all_values-requires-clause-b_few : goal.all_values-requires-clause-b_few
all_values-requires-clause-b_few c = (all_used c.args.op c.args.a.now c.args.b.now c.args.c.now c.used-first.result c.used-second.result c.used-third.result c.requires.fitting c.requires.listed c.used-first.ensures c.used-second.ensures c.used-third.ensures).second.few

pub all_values-requires-clause-c_few : goal.all_values-requires-clause-c_few
all_values-requires-clause-c_few c = (all_used c.args.op c.args.a.now c.args.b.now c.args.c.now c.used-first.result c.used-second.result c.used-third.result c.requires.fitting c.requires.listed c.used-first.ensures c.used-second.ensures c.used-third.ensures).third.few

pub all-requires : goal.all-requires
all-requires c = subst (λ (w : Width). IsWidth w.0) (sym c.result_width.ensures) (width_is c.args.op c.args.a.now c.args.b.now c.args.c.now c.requires.fitting)

pub returns-then-are_few : goal.returns-then-are_few
returns-then-are_few c =
    let h = all_used c.args.op c.args.a.now c.args.b.now c.args.c.now c.used-first.result c.used-second.result c.used-third.result c.requires.fitting c.requires.listed c.used-first.ensures c.used-second.ensures c.used-third.ensures in
    gathered_used c.args.op c.args.a.now c.args.b.now c.args.c.now c.used-first.result c.used-second.result c.used-third.result c.all_values.result h
    (all_selections c.args.op c.args.a.now c.args.b.now c.args.c.now c.used-first.result c.used-second.result c.used-third.result c.are_few.result true h c.are_few.ensures c.if-are_few.true)
    c.all_values.ensures

pub returns-else-are_few : goal.returns-else-are_few
returns-else-are_few c =
    let h = all_used c.args.op c.args.a.now c.args.b.now c.args.c.now c.used-first.result c.used-second.result c.used-third.result c.requires.fitting c.requires.listed c.used-first.ensures c.used-second.ensures c.used-third.ensures in
    c.all.ensures ∙ ap sets_full c.result_width.ensures
    ∙ sym (cond-false _ _ _ (all_selections c.args.op c.args.a.now c.args.b.now c.args.c.now c.used-first.result c.used-second.result c.used-third.result c.are_few.result false h c.are_few.ensures c.if-are_few.false))

pub result_width-requires : goal.result_width-requires
result_width-requires c = c.requires.fitting.fits
