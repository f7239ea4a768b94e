use Rattle.std.proofs.Common.{◌≡◌, drop}
use Rattle.std.specs.List.{list_all}
use Rattle.dt_model.specs.ModelData.{act_of}
use Rattle.dt_ways.specs.Ways.{ends_as}
use Rattle.dt_ways.proofs.ends.all_end.Given as goal

abbrev pub invariant-loop-demand : goal.invariant-loop-demand
invariant-loop-demand l = list_all (λ q. ends_as q l.n (act_of l.act)) (drop l.demand-index l.demands) ≡ list_all (λ q. ends_as q l.n (act_of l.act)) l.demands
