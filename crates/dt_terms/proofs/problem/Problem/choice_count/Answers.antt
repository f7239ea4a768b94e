use Rattle.std.proofs.Common.{arith, ap, length}
use Rattle.dt_terms.proofs.Choices.{length-choices_from}
use Rattle.dt_terms.proofs.problem.Problem.choice_count.Goals as goal

pub overflow_cast-result : goal.overflow_cast-result
overflow_cast-result c =
    let p = c.self.invariant in
    let e = ap length p.1 in
    let l = length-choices_from 0 c.self.inside.terms in
    let m = p.0.count in
    omega (arith, c.len.ensures, c.self.inside.choices.ok.0)
