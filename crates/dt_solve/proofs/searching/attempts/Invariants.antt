use Rattle.std.proofs.Common.{◌≡◌}
use Rattle.dt_solve.proofs.searching.attempts.Given as goal

abbrev pub invariant-loop-rule : goal.invariant-loop-rule
invariant-loop-rule g l = g.P.Proposer.aim l.proposer ≡ g.P.Proposer.aim l.fn.proposer
