use Rattle.std.proofs.Common.{◌≡◌, ◌++◌, drop, map}
use Rattle.dt_log.specs.Trees.{try_line}
use Rattle.dt_solve.proofs.writing.write_tries.Given as goal

abbrev pub invariant-loop-pair : goal.invariant-loop-pair
invariant-loop-pair l = l.draft.lines ++ map try_line (drop l.pair-index l.pairs) ≡ l.fn.draft.lines ++ map try_line l.pairs
