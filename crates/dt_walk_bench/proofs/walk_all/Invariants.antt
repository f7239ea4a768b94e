use Rattle.std.proofs.Common.{◌≡◌}
use Rattle.dt_walk.specs.Walkers.{walker_data}
use Rattle.dt_walk_bench.proofs.walk_all.Given as goal

abbrev pub invariant-loop-access : goal.invariant-loop-access
invariant-loop-access l = walker_data l.walker ≡ walker_data l.initial.walker
