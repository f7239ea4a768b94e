use Rattle.std.proofs.Common.{◌≡◌, ◌++◌, drop}
use Rattle.dt_model.specs.Flow.{steps_of}
use Rattle.dt_ways.specs.Ways.{all_ways}
use Rattle.dt_ways.proofs.ways.all_ways.Given as goal

abbrev pub invariant-loop-n : goal.invariant-loop-n
invariant-loop-n l = l.ways.items ++ all_ways l.demands (steps_of (drop l.n l.nodes)) l.n ≡ all_ways l.demands (steps_of l.nodes) 0
