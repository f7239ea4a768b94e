use Rattle.std.proofs.Common.{ℕ, ◌<◌}
use Rattle.dt_model.specs.declared.refusal.ModelRefusal.{ModelRefusal}
use Rattle.dt_model.specs.declared.refusal.Place.TheVariants.{Node as At}
use Rattle.dt_model.specs.ModelData.{data_of}
use Rattle.dt_model.specs.Faults.{Breaks}
use Rattle.dt_model.specs.Prefix.{IsPrefix}
use Rattle.dt_model.proofs.graph.nodes_fault.Given as goal

abbrev pub invariant-loop-i : goal.invariant-loop-i
invariant-loop-i l = record {
  prefix : IsPrefix (data_of l.m) l.i l.prefix;
  none : (j : ℕ) (s : ModelRefusal) → j < l.i → Breaks (data_of l.m) (At j) s → ⊥;
}
