use Rattle.dt_pair.specs.Ops.{pair_ops}
use Rattle.dt_box.specs.Cells.{AreCells}
use Rattle.dt_box_bench.proofs.repeat.Given as goal

abbrev pub invariant-loop-round : goal.invariant-loop-round
invariant-loop-round l = AreCells pair_ops l.problem.terms l.cells
