use Rattle.std.proofs.Common.{List, refl}
use Rattle.std.specs.List.{flat_map}
use Rattle.dt_model.specs.ModelData.{data_of}
use Rattle.dt_request.specs.declared.list.Demand.{Demand}
use Rattle.dt_table.specs.Demands.{demand_forms}
use Rattle.dt_claims.specs.Views.{access_of}
use Rattle.dt_claims.proofs.Turns.{turn}
use Rattle.dt_claims.proofs.demands.require_demands.Goals as goal

pub loop-demand-preserved : goal.loop-demand-preserved
loop-demand-preserved c =
    turn (flat_map (demand_forms (data_of c.args.model.now) (access_of c.args.places) c.args.outs.now)) (λ (x : Demand) (xs : List Demand). demand_forms (data_of c.args.model.now) (access_of c.args.places) c.args.outs.now x) (λ x xs. refl)
    c.loop-demand.builder c.require_demand.new.builder _ c.args.demands.now c.loop-demand.demand-index _ c.loop-demand-test.true c.in_ok-require_demand.ensures c.loop-demand.invariant
