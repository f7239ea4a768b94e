use Rattle.std.proofs.Common.{◌≡◌, sym, ap, ◌∙◌, subst, true, false, arith}
use Rattle.std.proofs.lemmas.Bool.{cond-false}
use Rattle.dt_bits.proofs.Operators.{arity_most}
use Rattle.dt_domain.specs.Domain.{operand}
use Rattle.dt_sets.specs.Sets.{IsSets}
use Rattle.dt_sets.specs.Laws.Calls.{operand_is}
use Rattle.dt_sets.proofs.Choosing.{Used, all_used, all_fitting, all_selections, kept_few}
use Rattle.dt_sets.proofs.partners.few_backward.Goals as goal

pub are_few-requires-clause-a_is : goal.are_few-requires-clause-a_is
are_few-requires-clause-a_is c = (all_used c.args.op c.args.a.now c.args.b.now c.args.c.now c.used-first.result c.used-second.result c.used-third.result c.requires.fitting.operands c.requires.listed c.used-first.ensures c.used-second.ensures c.used-third.ensures).first.is

pub are_few-requires-clause-a_few : goal.are_few-requires-clause-a_few
are_few-requires-clause-a_few c = (all_used c.args.op c.args.a.now c.args.b.now c.args.c.now c.used-first.result c.used-second.result c.used-third.result c.requires.fitting.operands c.requires.listed c.used-first.ensures c.used-second.ensures c.used-third.ensures).first.few

pub are_few-requires-clause-b_is : goal.are_few-requires-clause-b_is
are_few-requires-clause-b_is c = (all_used c.args.op c.args.a.now c.args.b.now c.args.c.now c.used-first.result c.used-second.result c.used-third.result c.requires.fitting.operands c.requires.listed c.used-first.ensures c.used-second.ensures c.used-third.ensures).second.is

pub are_few-requires-clause-b_few : goal.are_few-requires-clause-b_few
are_few-requires-clause-b_few c = (all_used c.args.op c.args.a.now c.args.b.now c.args.c.now c.used-first.result c.used-second.result c.used-third.result c.requires.fitting.operands c.requires.listed c.used-first.ensures c.used-second.ensures c.used-third.ensures).second.few

pub are_few-requires-clause-c_is : goal.are_few-requires-clause-c_is
are_few-requires-clause-c_is c = (all_used c.args.op c.args.a.now c.args.b.now c.args.c.now c.used-first.result c.used-second.result c.used-third.result c.requires.fitting.operands c.requires.listed c.used-first.ensures c.used-second.ensures c.used-third.ensures).third.is

pub are_few-requires-clause-c_few : goal.are_few-requires-clause-c_few
are_few-requires-clause-c_few c = (all_used c.args.op c.args.a.now c.args.b.now c.args.c.now c.used-first.result c.used-second.result c.used-third.result c.requires.fitting.operands c.requires.listed c.used-first.ensures c.used-second.ensures c.used-third.ensures).third.few

pub kept_numbers-requires-clause-fitting : goal.kept_numbers-requires-clause-fitting
kept_numbers-requires-clause-fitting c = all_fitting c.args.op c.args.a.now c.args.b.now c.args.c.now c.used-first.result c.used-second.result c.used-third.result c.requires.fitting.operands (all_used c.args.op c.args.a.now c.args.b.now c.args.c.now c.used-first.result c.used-second.result c.used-third.result c.requires.fitting.operands c.requires.listed c.used-first.ensures c.used-second.ensures c.used-third.ensures)

pub kept_numbers-requires-clause-a_few : goal.kept_numbers-requires-clause-a_few
kept_numbers-requires-clause-a_few c = (all_used c.args.op c.args.a.now c.args.b.now c.args.c.now c.used-first.result c.used-second.result c.used-third.result c.requires.fitting.operands c.requires.listed c.used-first.ensures c.used-second.ensures c.used-third.ensures).first.few

pub kept_numbers-requires-clause-b_few : goal.kept_numbers-requires-clause-b_few
kept_numbers-requires-clause-b_few c = (all_used c.args.op c.args.a.now c.args.b.now c.args.c.now c.used-first.result c.used-second.result c.used-third.result c.requires.fitting.operands c.requires.listed c.used-first.ensures c.used-second.ensures c.used-third.ensures).second.few

pub kept_numbers-requires-clause-c_few : goal.kept_numbers-requires-clause-c_few
kept_numbers-requires-clause-c_few c = (all_used c.args.op c.args.a.now c.args.b.now c.args.c.now c.used-first.result c.used-second.result c.used-third.result c.requires.fitting.operands c.requires.listed c.used-first.ensures c.used-second.ensures c.used-third.ensures).third.few

pub returns-then-not-are_few : goal.returns-then-not-are_few
returns-then-not-are_few c =
    let h = all_used c.args.op c.args.a.now c.args.b.now c.args.c.now c.used-first.result c.used-second.result c.used-third.result c.requires.fitting.operands c.requires.listed c.used-first.ensures c.used-second.ensures c.used-third.ensures in
    c.all.ensures
    ∙ sym (cond-false _ _ _ (all_selections c.args.op c.args.a.now c.args.b.now c.args.c.now c.used-first.result c.used-second.result c.used-third.result c.are_few.result false h c.are_few.ensures c.if-not-are_few.true))

pub kept_numbers-requires-clause-place : goal.kept_numbers-requires-clause-place
kept_numbers-requires-clause-place c = let m = arity_most c.args.op in omega (arith, m, c.requires.fitting.place)

pub kept_numbers-requires-clause-target : goal.kept_numbers-requires-clause-target
kept_numbers-requires-clause-target c =
    let m = arity_most c.args.op in
    let e : c.args.place ≡ 0 = c.in-0.is in
    ap (λ k. operand k c.used-first.result c.used-second.result c.used-third.result) (sym e)

pub returns-in-0 : goal.returns-in-0
returns-in-0 c =
    let h = all_used c.args.op c.args.a.now c.args.b.now c.args.c.now c.used-first.result c.used-second.result c.used-third.result c.requires.fitting.operands c.requires.listed c.used-first.ensures c.used-second.ensures c.used-third.ensures in
    let m = arity_most c.args.op in
    let e : c.args.place ≡ 0 = c.in-0.is in
    c.kept_numbers.ensures
    ∙ kept_few c.args.op c.args.place c.args.outcome.now c.args.a.now c.args.b.now c.args.c.now c.used-first.result c.used-second.result c.used-third.result c.args.a.now c.used-first.result c.args.target.now
    h.first h.second h.third (subst (λ k. Used c.args.op k c.args.a.now c.used-first.result) (sym e) h.first) c.requires.fitting.place
    (c.requires.target ∙ ap (λ k. operand k c.args.a.now c.args.b.now c.args.c.now) e)
    (all_selections c.args.op c.args.a.now c.args.b.now c.args.c.now c.used-first.result c.used-second.result c.used-third.result c.are_few.result true h c.are_few.ensures c.if-not-are_few.false)

pub kept_numbers-requires-in-1-clause-fitting : goal.kept_numbers-requires-in-1-clause-fitting
kept_numbers-requires-in-1-clause-fitting c = all_fitting c.args.op c.args.a.now c.args.b.now c.args.c.now c.used-first.result c.used-second.result c.used-third.result c.requires.fitting.operands (all_used c.args.op c.args.a.now c.args.b.now c.args.c.now c.used-first.result c.used-second.result c.used-third.result c.requires.fitting.operands c.requires.listed c.used-first.ensures c.used-second.ensures c.used-third.ensures)

pub kept_numbers-requires-in-1-clause-a_few : goal.kept_numbers-requires-in-1-clause-a_few
kept_numbers-requires-in-1-clause-a_few c = (all_used c.args.op c.args.a.now c.args.b.now c.args.c.now c.used-first.result c.used-second.result c.used-third.result c.requires.fitting.operands c.requires.listed c.used-first.ensures c.used-second.ensures c.used-third.ensures).first.few

pub kept_numbers-requires-in-1-clause-b_few : goal.kept_numbers-requires-in-1-clause-b_few
kept_numbers-requires-in-1-clause-b_few c = (all_used c.args.op c.args.a.now c.args.b.now c.args.c.now c.used-first.result c.used-second.result c.used-third.result c.requires.fitting.operands c.requires.listed c.used-first.ensures c.used-second.ensures c.used-third.ensures).second.few

pub kept_numbers-requires-in-1-clause-c_few : goal.kept_numbers-requires-in-1-clause-c_few
kept_numbers-requires-in-1-clause-c_few c = (all_used c.args.op c.args.a.now c.args.b.now c.args.c.now c.used-first.result c.used-second.result c.used-third.result c.requires.fitting.operands c.requires.listed c.used-first.ensures c.used-second.ensures c.used-third.ensures).third.few

pub kept_numbers-requires-in-1-clause-place : goal.kept_numbers-requires-in-1-clause-place
kept_numbers-requires-in-1-clause-place c = let m = arity_most c.args.op in omega (arith, m, c.requires.fitting.place)

pub kept_numbers-requires-in-1-clause-target : goal.kept_numbers-requires-in-1-clause-target
kept_numbers-requires-in-1-clause-target c =
    let m = arity_most c.args.op in
    let e : c.args.place ≡ 1 = c.in-1.is in
    ap (λ k. operand k c.used-first.result c.used-second.result c.used-third.result) (sym e)

pub returns-in-1 : goal.returns-in-1
returns-in-1 c =
    let h = all_used c.args.op c.args.a.now c.args.b.now c.args.c.now c.used-first.result c.used-second.result c.used-third.result c.requires.fitting.operands c.requires.listed c.used-first.ensures c.used-second.ensures c.used-third.ensures in
    let m = arity_most c.args.op in
    let e : c.args.place ≡ 1 = c.in-1.is in
    c.kept_numbers-in-1.ensures
    ∙ kept_few c.args.op c.args.place c.args.outcome.now c.args.a.now c.args.b.now c.args.c.now c.used-first.result c.used-second.result c.used-third.result c.args.b.now c.used-second.result c.args.target.now
    h.first h.second h.third (subst (λ k. Used c.args.op k c.args.b.now c.used-second.result) (sym e) h.second) c.requires.fitting.place
    (c.requires.target ∙ ap (λ k. operand k c.args.a.now c.args.b.now c.args.c.now) e)
    (all_selections c.args.op c.args.a.now c.args.b.now c.args.c.now c.used-first.result c.used-second.result c.used-third.result c.are_few.result true h c.are_few.ensures c.if-not-are_few.false)

pub kept_numbers-requires-in_default-clause-fitting : goal.kept_numbers-requires-in_default-clause-fitting
kept_numbers-requires-in_default-clause-fitting c = all_fitting c.args.op c.args.a.now c.args.b.now c.args.c.now c.used-first.result c.used-second.result c.used-third.result c.requires.fitting.operands (all_used c.args.op c.args.a.now c.args.b.now c.args.c.now c.used-first.result c.used-second.result c.used-third.result c.requires.fitting.operands c.requires.listed c.used-first.ensures c.used-second.ensures c.used-third.ensures)

pub kept_numbers-requires-in_default-clause-a_few : goal.kept_numbers-requires-in_default-clause-a_few
kept_numbers-requires-in_default-clause-a_few c = (all_used c.args.op c.args.a.now c.args.b.now c.args.c.now c.used-first.result c.used-second.result c.used-third.result c.requires.fitting.operands c.requires.listed c.used-first.ensures c.used-second.ensures c.used-third.ensures).first.few

pub kept_numbers-requires-in_default-clause-b_few : goal.kept_numbers-requires-in_default-clause-b_few
kept_numbers-requires-in_default-clause-b_few c = (all_used c.args.op c.args.a.now c.args.b.now c.args.c.now c.used-first.result c.used-second.result c.used-third.result c.requires.fitting.operands c.requires.listed c.used-first.ensures c.used-second.ensures c.used-third.ensures).second.few

pub kept_numbers-requires-in_default-clause-c_few : goal.kept_numbers-requires-in_default-clause-c_few
kept_numbers-requires-in_default-clause-c_few c = (all_used c.args.op c.args.a.now c.args.b.now c.args.c.now c.used-first.result c.used-second.result c.used-third.result c.requires.fitting.operands c.requires.listed c.used-first.ensures c.used-second.ensures c.used-third.ensures).third.few

pub kept_numbers-requires-in_default-clause-place : goal.kept_numbers-requires-in_default-clause-place
kept_numbers-requires-in_default-clause-place c = let m = arity_most c.args.op in omega (arith, m, c.requires.fitting.place)

pub kept_numbers-requires-in_default-clause-target : goal.kept_numbers-requires-in_default-clause-target
kept_numbers-requires-in_default-clause-target c =
    let m = arity_most c.args.op in
    let e : c.args.place ≡ 2 = omega (arith, m, c.requires.fitting.place) in
    ap (λ k. operand k c.used-first.result c.used-second.result c.used-third.result) (sym e)

pub returns-in_default : goal.returns-in_default
returns-in_default c =
    let h = all_used c.args.op c.args.a.now c.args.b.now c.args.c.now c.used-first.result c.used-second.result c.used-third.result c.requires.fitting.operands c.requires.listed c.used-first.ensures c.used-second.ensures c.used-third.ensures in
    let m = arity_most c.args.op in
    let e : c.args.place ≡ 2 = omega (arith, m, c.requires.fitting.place) in
    c.kept_numbers-in_default.ensures
    ∙ kept_few c.args.op c.args.place c.args.outcome.now c.args.a.now c.args.b.now c.args.c.now c.used-first.result c.used-second.result c.used-third.result c.args.c.now c.used-third.result c.args.target.now
    h.first h.second h.third (subst (λ k. Used c.args.op k c.args.c.now c.used-third.result) (sym e) h.third) c.requires.fitting.place
    (c.requires.target ∙ ap (λ k. operand k c.args.a.now c.args.b.now c.args.c.now) e)
    (all_selections c.args.op c.args.a.now c.args.b.now c.args.c.now c.used-first.result c.used-second.result c.used-third.result c.are_few.result true h c.are_few.ensures c.if-not-are_few.false)

pub all-requires : goal.all-requires
all-requires c = (subst IsSets (sym c.requires.target)
    (operand_is c.args.place c.args.a.now c.args.b.now c.args.c.now c.requires.fitting.operands.a_is c.requires.fitting.operands.b_is c.requires.fitting.operands.c_is)).width

pub kept_numbers-requires-clause-outcome : goal.kept_numbers-requires-clause-outcome
kept_numbers-requires-clause-outcome c = c.requires.fitting.r_is

pub kept_numbers-requires-in-1-clause-outcome : goal.kept_numbers-requires-in-1-clause-outcome
kept_numbers-requires-in-1-clause-outcome c = c.requires.fitting.r_is

pub kept_numbers-requires-in_default-clause-outcome : goal.kept_numbers-requires-in_default-clause-outcome
kept_numbers-requires-in_default-clause-outcome c = c.requires.fitting.r_is
