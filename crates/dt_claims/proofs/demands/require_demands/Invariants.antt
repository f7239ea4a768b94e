use Rattle.std.proofs.Common.{◌≡◌, drop}
use Rattle.std.specs.List.{flat_map}
use Rattle.dt_model.specs.ModelData.{data_of}
use Rattle.dt_build.specs.Building.{claimed}
use Rattle.dt_table.specs.Demands.{demand_forms}
use Rattle.dt_claims.specs.Views.{access_of}
use Rattle.dt_claims.proofs.demands.require_demands.Given as goal

abbrev pub invariant-loop-demand : goal.invariant-loop-demand
invariant-loop-demand l = claimed l.builder (flat_map (demand_forms (data_of l.model) (access_of l.places) l.outs) (drop l.demand-index l.demands)) ≡ claimed l.initial.builder (flat_map (demand_forms (data_of l.model) (access_of l.places) l.outs) l.demands)
