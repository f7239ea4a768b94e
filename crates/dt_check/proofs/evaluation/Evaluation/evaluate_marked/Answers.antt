use Rattle.std.proofs.Common.{◌<◌, ◌≤◌, length, subst, arith, rules}
use Rattle.dt_terms.specs.Problem.{ProblemData, most_terms}
use Rattle.dt_check.proofs.evaluation.Evaluation.evaluate_marked.Goals as goal

pub overflow_cast-term : goal.overflow_cast-term
overflow_cast-term c =
    let n : length c.args.problem.now.terms ≤ most_terms = subst (λ (p : ProblemData). length p.terms ≤ most_terms) c.problem.view_is c.problem.invariant.0.count in
    let l : c.in-Some.term < 4294967296 = omega (arith, c.in-Some.ensures.within, c.terms.invariant.seen_to.are.marks_count) in
    search rules
