use Rattle.dt_box.specs.Trails.{terms_of}
use Rattle.dt_check.specs.Noting.{AreNoted}
use Rattle.dt_check.proofs.trial.mark_changed.Given as goal

-- the choices among the terms up to here are marked
abbrev pub invariant-loop-place : goal.invariant-loop-place
invariant-loop-place g l = AreNoted l.problem.terms (terms_of l.trail) l.from l.place l.fn.marks.marks.items l.marks.marks.items
