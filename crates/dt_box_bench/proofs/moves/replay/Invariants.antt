use Rattle.dt_pair.specs.Ops.{pair_ops}
use Rattle.dt_box.specs.Cells.{AreCells}
use Rattle.dt_box_bench.proofs.moves.replay.Given as goal

abbrev pub invariant-loop-made : goal.invariant-loop-made
invariant-loop-made l = AreCells pair_ops l.problem.terms l.cells
