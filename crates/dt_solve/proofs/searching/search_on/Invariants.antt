use Rattle.std.proofs.Common.{◌≡◌, ◌-◌, ◌<◌}
use Rattle.dt_solve.proofs.searching.search_on.Given as goal

abbrev pub invariant-loop-reach : goal.invariant-loop-reach
invariant-loop-reach g l = record {
  aim : g.P.Proposer.aim l.proposer ≡ g.P.Proposer.aim l.fn.proposer;
  some : 0 < l.reach;
}

abbrev pub decreases-loop-reach : goal.decreases-loop-reach
decreases-loop-reach g l = l.limit - l.reach
