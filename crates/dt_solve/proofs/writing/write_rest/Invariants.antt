use Rattle.std.proofs.Common.{◌≡◌, ◌++◌, ◌∷◌, replicate}
use Rattle.dt_log.specs.declared.line.Line.TheVariants.{Loose, Unvisited}
use Rattle.dt_solve.proofs.writing.write_rest.Given as goal

abbrev pub invariant-loop-done : goal.invariant-loop-done
invariant-loop-done l = l.draft.lines ≡ l.fn.draft.lines ++ Loose ∷ replicate l._done Unvisited
