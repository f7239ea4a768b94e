use Rattle.std.proofs.Common.{◌≡◌, map, take}
use Rattle.dt_model.specs.Accepted.{accepted_data}
use Rattle.dt_walk.specs.Walkers.{walker_data, run_data}
use Rattle.dt_satisfy.specs.Claims.{run_of}
use Rattle.dt_satisfy.proofs.runs.all_runs.Given as goal

abbrev pub invariant-loop-access : goal.invariant-loop-access
invariant-loop-access l = record {
  walker : walker_data l.walker ≡ accepted_data l.model;
  runs : map run_data l.runs.items ≡ map (run_of (accepted_data l.model) l.image) (take l.access-index l.accesses);
}
