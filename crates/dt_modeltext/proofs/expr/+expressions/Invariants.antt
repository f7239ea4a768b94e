use Rattle.std.proofs.Common.{◌+◌, ◌*◌}
use Rattle.dt_modeltext.proofs.expr.+expressions.Given as goal

abbrev pub decreases-read_expr : goal.decreases-read_expr
decreases-read_expr l = 4 * l.depth

abbrev pub decreases-read_one : goal.decreases-read_one
decreases-read_one l = 4 * l.depth + 1

abbrev pub decreases-read_two : goal.decreases-read_two
decreases-read_two l = 4 * l.depth + 1

abbrev pub decreases-read_three : goal.decreases-read_three
decreases-read_three l = 4 * l.depth + 1

abbrev pub decreases-read_operands : goal.decreases-read_operands
decreases-read_operands l = 4 * l.depth + 2

abbrev pub decreases-read_applied : goal.decreases-read_applied
decreases-read_applied l = 4 * l.depth + 3
