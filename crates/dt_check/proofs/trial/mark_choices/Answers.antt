use Rattle.std.proofs.Common.{◌<◌, ◌+◌, List, Bool, length, ap, sym, subst, arith}
use Rattle.dt_terms.specs.Problem.{ProblemData}
use Rattle.dt_check.specs.Noting.{AreChoices}
use Rattle.dt_check.proofs.Trying.{choices_none, choices_more}
use Rattle.dt_check.proofs.trial.mark_choices.Goals as goal

pub loop-term-init : goal.loop-term-init
loop-term-init c = choices_none c.args.problem.now.terms c.args.marks.now.marks.items c.requires

pub loop-term-preserved : goal.loop-term-preserved
loop-term-preserved c =
    let terms = c.args.problem.now.terms in
    let n = ap (λ (p : ProblemData). length p.terms) c.problem.view_is in
    let l : c.loop-term.term < length terms = omega (arith, n, c.loop-term-test.true) in
    subst (λ (marks : List Bool). AreChoices terms (c.loop-term.term + 1) marks) (sym c.mark_choice.ensures)
    (choices_more terms c.loop-term.term c.loop-term.marks.marks.items l c.loop-term.invariant)
