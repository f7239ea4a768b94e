use Rattle.std.proofs.Common.{◌≡◌, drop}
use Rattle.std.specs.List.{list_any}
use Rattle.dt_ways.specs.Ways.{bars}
use Rattle.dt_ways.proofs.edges.is_barred.Given as goal

abbrev pub invariant-loop-demand : goal.invariant-loop-demand
invariant-loop-demand l = list_any (λ q. bars q l.n l.by_then l.to) (drop l.demand-index l.demands) ≡ list_any (λ q. bars q l.n l.by_then l.to) l.demands
