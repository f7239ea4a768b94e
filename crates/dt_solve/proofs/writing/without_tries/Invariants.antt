use Rattle.std.proofs.Common.{◌≡◌, ◌++◌, drop}
use Rattle.dt_solve.specs.Untried.{without_tries}
use Rattle.dt_solve.proofs.writing.without_tries.Given as goal

abbrev pub invariant-loop-at : goal.invariant-loop-at
invariant-loop-at l = l.bare.lines ++ without_tries (drop l.at l.draft.lines) ≡ without_tries l.draft.lines
