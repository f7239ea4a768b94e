use Rattle.dt_pair.specs.Ops.{pair_ops}
use Rattle.dt_box.specs.Cells.{AreCells}
use Rattle.dt_box_bench.proofs.work.kept.Given as goal

abbrev pub invariant-loop-term : goal.invariant-loop-term
invariant-loop-term l = AreCells pair_ops l.problem.terms l.cells
