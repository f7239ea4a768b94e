use Rattle.std.proofs.Common.{◌≡◌, [], ◌++◌, map, take}
use Rattle.std.specs.List.{flat_map}
use Rattle.dt_model.specs.Accepted.{accepted_data}
use Rattle.dt_walk.specs.Meaning.{rule_holds}
use Rattle.dt_satisfy.proofs.rules.push_context_claims.Given as goal

abbrev pub invariant-loop-context : goal.invariant-loop-context
invariant-loop-context l = l.claims.items ≡ l.initial.claims.items ++ flat_map (λ regs. map (rule_holds (accepted_data l.model) regs []) (accepted_data l.model).legal_context) (take l.context-index l.contexts)
