use Rattle.dt_check.specs.Noting.{AreChoices}
use Rattle.dt_check.proofs.trial.mark_choices.Given as goal

-- the choices up to here are marked
abbrev pub invariant-loop-term : goal.invariant-loop-term
invariant-loop-term l = AreChoices l.problem.terms l.term l.marks.marks.items
