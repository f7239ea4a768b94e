use Rattle.std.proofs.Common.{All}
use Rattle.dt_box_bench.specs.Moves.{IsMove}
use Rattle.dt_box_bench.proofs.trace.moves_of.Given as goal

abbrev pub invariant-loop-line : goal.invariant-loop-line
invariant-loop-line l = All (IsMove l.problem.terms) l.moves.items
