use Rattle.std.proofs.Common.{◌≡◌, [], ◌++◌, map, take}
use Rattle.dt_model.specs.Accepted.{accepted_data}
use Rattle.dt_model.specs.ModelData.{tree_of}
use Rattle.dt_walk.specs.Meaning.{rule_holds}
use Rattle.dt_satisfy.proofs.rules.push_context.Given as goal

abbrev pub invariant-loop-rule : goal.invariant-loop-rule
invariant-loop-rule l = l.claims.items ≡ l.initial.claims.items ++ map (λ e. rule_holds (accepted_data l.model) l.regs [] (tree_of e)) (take l.rule-index l.rules)
