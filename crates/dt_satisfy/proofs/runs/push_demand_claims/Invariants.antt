use Rattle.std.proofs.Common.{◌≡◌, ◌++◌, map, take}
use Rattle.std.specs.List.{flat_map, zip}
use Rattle.dt_model.specs.Accepted.{accepted_data}
use Rattle.dt_satisfy.specs.Demands.{meets}
use Rattle.dt_satisfy.specs.Claims.{all_made}
use Rattle.dt_satisfy.proofs.runs.push_demand_claims.Given as goal

abbrev pub invariant-loop-i : goal.invariant-loop-i
invariant-loop-i l = l.claims.items ≡ l.initial.claims.items ++ flat_map (λ p. map (meets p.0) p.1.demands) (take l.i (zip (all_made (accepted_data l._model) l.image) l.wishes))
