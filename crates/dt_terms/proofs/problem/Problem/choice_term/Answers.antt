use Rattle.std.proofs.Common.{ap, ◌∙◌}
use Rattle.std.specs.Prelude.{slice_get}
use Rattle.dt_terms.specs.Terms.{choices_of}
use Rattle.dt_terms.proofs.Choices.{choice_got}
use Rattle.dt_terms.proofs.problem.Problem.choice_term.Goals as goal

pub returns-clause-there : goal.returns-clause-there
returns-clause-there c =
    choice_got c.args.self.now.terms c.args.choice _
    (c.number_at.ensures ∙ ap (λ xs. slice_get xs c.args.choice) (c.deref.ensures.value ∙ c.self.invariant.1 ∙ ap (λ p. choices_of p.terms) c.self.view_is))
