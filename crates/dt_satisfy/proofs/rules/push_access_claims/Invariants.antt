use Rattle.std.proofs.Common.{◌≡◌, ◌++◌, map, take}
use Rattle.std.specs.List.{flat_map}
use Rattle.dt_model.specs.Accepted.{accepted_data}
use Rattle.dt_walk.specs.Meaning.{rule_holds}
use Rattle.dt_satisfy.specs.Claims.{registers}
use Rattle.dt_satisfy.proofs.rules.push_access_claims.Given as goal

abbrev pub invariant-loop-access : goal.invariant-loop-access
invariant-loop-access l = l.claims.items ≡ l.initial.claims.items ++ flat_map (λ a. map (rule_holds (accepted_data l.model) (registers l.image a) a.inputs) (accepted_data l.model).legal_access) (take l.access-index l.accesses)
