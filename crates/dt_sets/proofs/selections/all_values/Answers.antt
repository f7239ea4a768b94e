use Rattle.std.proofs.Common.{sym, ap, ◌∙◌, subst}
use Rattle.dt_bits.specs.Bits.{IsWidth}
use Rattle.dt_bits.specs.declared.value.Width.{Width}
use Rattle.dt_sets.specs.Lists.{rising}
use Rattle.dt_sets.specs.Sets.{listed, gathered}
use Rattle.dt_sets.specs.Gather.{IsGathering, added_all}
use Rattle.dt_sets.specs.Forward.{values}
use Rattle.dt_sets.specs.Laws.Calls.{width_is}
use Rattle.dt_sets.proofs.Gathers.{nothing_gathers, gathered_few, gathered_over}
use Rattle.dt_sets.proofs.selections.all_values.Goals as goal

pub add_first-requires-clause-gathered : goal.add_first-requires-clause-gathered
add_first-requires-clause-gathered c = subst IsGathering (sym c.nothing-gathered.ensures) (nothing_gathers c.result_width-width.result)

pub all-requires : goal.all-requires
all-requires c = subst (λ (w : Width). IsWidth w.0) (sym c.result_width-width.ensures) (width_is c.args.op c.args.a.now c.args.b.now c.args.c.now c.requires.fitting)

pub returns-then-gathered : goal.returns-then-gathered
returns-then-gathered c =
    let vs = values c.args.op c.args.a.now c.args.b.now c.args.c.now (listed c.args.a.now) (listed c.args.b.now) (listed c.args.c.now) in
    c.all.ensures
    ∙ gathered_over c.result_width-width.result c.add_first.new.gathered vs (c.add_first.ensures.is ∙ ap (λ s. added_all s vs) c.nothing-gathered.ensures) c.if-gathered.true
    ∙ ap (λ w. gathered w (rising vs)) c.result_width-width.ensures

pub returns-else-gathered : goal.returns-else-gathered
returns-else-gathered c =
    let vs = values c.args.op c.args.a.now c.args.b.now c.args.c.now (listed c.args.a.now) (listed c.args.b.now) (listed c.args.c.now) in
    gathered_few c.result_width-width.result c.add_first.new.gathered vs (c.add_first.ensures.is ∙ ap (λ s. added_all s vs) c.nothing-gathered.ensures) c.if-gathered.false
    ∙ ap (λ w. gathered w (rising vs)) c.result_width-width.ensures

pub add_first-requires-clause-fitting : goal.add_first-requires-clause-fitting
add_first-requires-clause-fitting c = c.requires.fitting

pub result_width-width-requires : goal.result_width-width-requires
result_width-width-requires c = c.requires.fitting.fits
