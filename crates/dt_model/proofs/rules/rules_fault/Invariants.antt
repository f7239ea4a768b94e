use Rattle.std.proofs.Common.{◌≡◌, ℕ, ◌+◌, ◌<◌, ◌≤◌, map, take}
use Rattle.dt_model.specs.declared.refusal.ModelRefusal.{ModelRefusal}
use Rattle.dt_model.specs.ModelData.{tree_of}
use Rattle.dt_model.specs.Scopes.{scope_of}
use Rattle.dt_model.specs.Faults.{rule_operators}
use Rattle.dt_model.specs.Refusals.{RulesBreak}
use Rattle.dt_model.proofs.rules.rules_fault.Given as goal

abbrev pub invariant-loop-i : goal.invariant-loop-i
invariant-loop-i l = record {
  total : l.total ≡ l.before + rule_operators (take l.i (map tree_of l.rules));
  few : l.total ≤ 8192;
  within : l.i ≤ 32;
  none : (j : ℕ) (s : ModelRefusal) → j < l.i → RulesBreak (scope_of l.names) l.before (map tree_of l.rules) j s → ⊥;
}
