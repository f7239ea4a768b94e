use Rattle.std.proofs.Common.{List, [], sym, subst}
use Rattle.dt_terms.specs.declared.term.Term.{Term}
use Rattle.dt_terms.specs.Problem.{ProblemData}
use Rattle.dt_build.specs.Building.{AreChoicesAnd}
use Rattle.dt_build.proofs.Entered.{choices_alone}
use Rattle.dt_build.proofs.builder.Builder.new.Goals as goal

pub invariant_of-result : goal.invariant_of-result
invariant_of-result c =
    subst (λ (l : List Term). AreChoicesAnd c.in_ok-problem.problem.terms l) (sym c.new.ensures)
    (subst (λ (p : ProblemData). AreChoicesAnd p.terms []) (sym c.in_ok-problem.ensures) (choices_alone c.args.choices.now))
