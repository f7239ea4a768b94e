use Rattle.std.proofs.Common.{◌≡◌, ◌++◌, drop, map}
use Rattle.dt_ways.specs.Ways.{asks}
use Rattle.dt_ways.proofs.asks.push_demands.Given as goal

abbrev pub invariant-loop-demand : goal.invariant-loop-demand
invariant-loop-demand l = l.asked.items ++ map asks (drop l.demand-index l.demands) ≡ l.initial.asked.items ++ map asks l.demands
