use Rattle.std.proofs.Common.{◌<◌, All, length}
use Rattle.dt_pair.specs.Ops.{pair_ops}
use Rattle.dt_box.specs.Cells.{AreCells}
use Rattle.dt_problem_cases.proofs.trails.take_lines.Given as goal

abbrev pub invariant-loop-line : goal.invariant-loop-line
invariant-loop-line l =
    (goal.iterator-loop-line).can_next l.line-iterator ×
    (goal.iterator-loop-line).is_finite l.line-iterator ×
    AreCells pair_ops l.problem.terms l.cells ×
    All (λ change. change.0 < length l.problem.terms) l.trail
