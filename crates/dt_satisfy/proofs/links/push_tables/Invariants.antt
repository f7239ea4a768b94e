use Rattle.std.proofs.Common.{◌≡◌, ◌++◌, map, take}
use Rattle.std.specs.List.{flat_map}
use Rattle.dt_model.specs.Flow.{steps_of}
use Rattle.dt_walk.specs.declared.run.Run.{Run}
use Rattle.dt_satisfy.specs.Links.{table_of}
use Rattle.dt_satisfy.proofs.links.push_tables.Given as goal

abbrev pub invariant-loop-run : goal.invariant-loop-run
invariant-loop-run l = l.tables.items ≡ l.initial.tables.items ++ flat_map (λ (r : Run). map (table_of (steps_of l.nodes)) r.reads.items) (take l.run-index l.runs)
