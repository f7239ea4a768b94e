use Rattle.std.proofs.Common.{◌≡◌, ◌++◌, map, take}
use Rattle.dt_satisfy.specs.Demands.{meets}
use Rattle.dt_satisfy.specs.Views.{made_data}
use Rattle.dt_satisfy.proofs.demands.push_demands.Given as goal

abbrev pub invariant-loop-demand : goal.invariant-loop-demand
invariant-loop-demand l = l.claims.items ≡ l.initial.claims.items ++ map (meets (made_data l.made)) (take l.demand-index l.demands)
