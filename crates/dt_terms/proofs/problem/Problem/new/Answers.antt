use Rattle.std.proofs.Common.{sym, ◌∙◌}
use Rattle.dt_terms.proofs.Additions.{problem_none}
use Rattle.dt_terms.proofs.Choices.{choices_of-none}
use Rattle.dt_terms.proofs.problem.Problem.new.Goals as goal

pub invariant_of-result : goal.invariant_of-result
invariant_of-result c = rw (c.new.ensures, c.new-2.ensures) (problem_none, c.new-3.ensures.items ∙ sym choices_of-none)
