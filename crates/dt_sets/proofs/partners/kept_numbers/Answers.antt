use Rattle.std.proofs.Common.{◌<◌, ◌≤◌, length, sym, ap, ◌∙◌, subst, arith}
use Rattle.dt_bits.specs.declared.value.Bv.{Bv}
use Rattle.dt_sets.specs.declared.Sets.{Sets}
use Rattle.dt_sets.specs.Sets.{IsSets, listed}
use Rattle.dt_sets.specs.Backward.{fixed_gives}
use Rattle.dt_sets.specs.Laws.Calls.{operand_is}
use Rattle.dt_sets.proofs.Choosing.{operand_few}
use Rattle.dt_sets.proofs.Loops.{count_is, keep_form, keep_room, keep_next, keep_all}
use Rattle.dt_sets.proofs.partners.kept_numbers.Goals as goal

pub value_at-value-requires-clause-self_is : goal.value_at-value-requires-clause-self_is
value_at-value-requires-clause-self_is c =
    subst IsSets (sym c.requires.target) (operand_is c.args.place c.args.a.now c.args.b.now c.args.c.now c.requires.fitting.a_is c.requires.fitting.b_is c.requires.fitting.c_is)

pub value_at-value-requires-clause-few : goal.value_at-value-requires-clause-few
value_at-value-requires-clause-few c =
    ap (λ (s : Sets). s.many) c.requires.target ∙ operand_few c.args.place c.args.a.now c.args.b.now c.args.c.now c.requires.a_few c.requires.b_few c.requires.c_few

pub may_be-passes-requires-clause-width : goal.may_be-passes-requires-clause-width
may_be-passes-requires-clause-width c = ap (λ (v : Bv). v.width) c.value_at-value.ensures.is ∙ ap (λ (s : Sets). s.width) c.requires.target

pub push_if-requires-clause-form : goal.push_if-requires-clause-form
push_if-requires-clause-form c =
    let s = c.args.target.now in
    let p : IsSets s = subst IsSets (sym c.requires.target) (operand_is c.args.place c.args.a.now c.args.b.now c.args.c.now c.requires.fitting.a_is c.requires.fitting.b_is c.requires.fitting.c_is) in
    keep_form (fixed_gives c.args.op c.args.place c.args.outcome.now c.args.a.now c.args.b.now c.args.c.now) s.width (listed s) c.loop-at.at c.loop-at.kept p.short c.loop-at.invariant

pub push_if-requires-clause-room : goal.push_if-requires-clause-room
push_if-requires-clause-room c =
    let s = c.args.target.now in
    let p : IsSets s = subst IsSets (sym c.requires.target) (operand_is c.args.place c.args.a.now c.args.b.now c.args.c.now c.requires.fitting.a_is c.requires.fitting.b_is c.requires.fitting.c_is) in
    let m = ap (λ (s : Sets). s.many) c.requires.target ∙ operand_few c.args.place c.args.a.now c.args.b.now c.args.c.now c.requires.a_few c.requires.b_few c.requires.c_few in
    let k = count_is s p m in
    let l : c.loop-at.at < length (listed s) = omega (arith, k, c.loop-at-test.true) in
    keep_room (fixed_gives c.args.op c.args.place c.args.outcome.now c.args.a.now c.args.b.now c.args.c.now) s.width (listed s) c.loop-at.at c.loop-at.kept p.short l c.loop-at.invariant

pub loop-at-preserved : goal.loop-at-preserved
loop-at-preserved c =
    let s = c.args.target.now in
    let p : IsSets s = subst IsSets (sym c.requires.target) (operand_is c.args.place c.args.a.now c.args.b.now c.args.c.now c.requires.fitting.a_is c.requires.fitting.b_is c.requires.fitting.c_is) in
    let m = ap (λ (s : Sets). s.many) c.requires.target ∙ operand_few c.args.place c.args.a.now c.args.b.now c.args.c.now c.requires.a_few c.requires.b_few c.requires.c_few in
    let k = count_is s p m in
    let l : c.loop-at.at < length (listed s) = omega (arith, k, c.loop-at-test.true) in
    keep_next (fixed_gives c.args.op c.args.place c.args.outcome.now c.args.a.now c.args.b.now c.args.c.now) s.width (listed s) c.loop-at.at c.value_at-value.result.bits c.may_be-passes.result c.loop-at.kept c.push_if.new.self
    l c.loop-at.invariant (ap (λ (v : Bv). v.bits) c.value_at-value.ensures.is) c.may_be-passes.ensures c.push_if.ensures

pub returns : goal.returns
returns c =
    let s = c.args.target.now in
    let p : IsSets s = subst IsSets (sym c.requires.target) (operand_is c.args.place c.args.a.now c.args.b.now c.args.c.now c.requires.fitting.a_is c.requires.fitting.b_is c.requires.fitting.c_is) in
    let m = ap (λ (s : Sets). s.many) c.requires.target ∙ operand_few c.args.place c.args.a.now c.args.b.now c.args.c.now c.requires.a_few c.requires.b_few c.requires.c_few in
    let k = count_is s p m in
    let l : length (listed s) ≤ c.loop-at.at = omega (arith, k, c.loop-at-test.false) in
    keep_all (fixed_gives c.args.op c.args.place c.args.outcome.now c.args.a.now c.args.b.now c.args.c.now) s.width (listed s) c.loop-at.at c.loop-at.kept l c.loop-at.invariant

pub may_be-passes-requires-clause-outcome : goal.may_be-passes-requires-clause-outcome
may_be-passes-requires-clause-outcome c = c.requires.outcome

pub may_be-passes-requires-clause-fitting : goal.may_be-passes-requires-clause-fitting
may_be-passes-requires-clause-fitting c = c.requires.fitting

pub may_be-passes-requires-clause-place : goal.may_be-passes-requires-clause-place
may_be-passes-requires-clause-place c = c.requires.place

pub may_be-passes-requires-clause-value : goal.may_be-passes-requires-clause-value
may_be-passes-requires-clause-value c = c.value_at-value.ensures.valid

pub may_be-passes-requires-clause-a_few : goal.may_be-passes-requires-clause-a_few
may_be-passes-requires-clause-a_few c = c.requires.a_few

pub may_be-passes-requires-clause-b_few : goal.may_be-passes-requires-clause-b_few
may_be-passes-requires-clause-b_few c = c.requires.b_few

pub may_be-passes-requires-clause-c_few : goal.may_be-passes-requires-clause-c_few
may_be-passes-requires-clause-c_few c = c.requires.c_few
