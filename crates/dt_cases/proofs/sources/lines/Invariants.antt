use Rattle.std.proofs.Common.{length}
use Rattle.dt_cases.proofs.sources.lines.Given as goal

abbrev pub decreases-loop-line : goal.decreases-loop-line
decreases-loop-line l = length l.rest
