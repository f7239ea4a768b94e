use Rattle.std.proofs.Common.{◌≡◌, ℕ, ◌<◌, ◌≤◌, ◌++◌, take}
use Rattle.dt_model.specs.declared.refusal.ModelRefusal.{ModelRefusal}
use Rattle.dt_model.specs.Faults.{names_of}
use Rattle.dt_model.specs.Refusals.{NamesBreak}
use Rattle.dt_model.proofs.naming.names_fault.Given as goal

abbrev pub invariant-loop-i : goal.invariant-loop-i
invariant-loop-i l = record {
  declared : l.declared.keys ≡ l.fn.declared.keys ++ names_of (take l.i l.names);
  within : l.i ≤ l.limit;
  none : (j : ℕ) (s : ModelRefusal) → j < l.i → NamesBreak l.limit l.fn.declared.keys l.names j s → ⊥;
}
