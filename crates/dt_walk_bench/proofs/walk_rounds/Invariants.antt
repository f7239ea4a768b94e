use Rattle.std.proofs.Common.{◌≡◌}
use Rattle.dt_walk.specs.Walkers.{walker_data}
use Rattle.dt_walk_bench.proofs.walk_rounds.Given as goal

abbrev pub invariant-loop-round : goal.invariant-loop-round
invariant-loop-round l = walker_data l.walker ≡ walker_data l.initial.walker
