use Rattle.std.proofs.Common.{◌≡◌, take}
use Rattle.dt_solve.proofs.writing.copy_of.Given as goal

abbrev pub invariant-loop-at : goal.invariant-loop-at
invariant-loop-at l = l.copy.lines ≡ take l.at l.draft.lines
