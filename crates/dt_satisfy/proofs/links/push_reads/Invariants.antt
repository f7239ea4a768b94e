use Rattle.std.proofs.Common.{◌≡◌, ◌++◌, map, take}
use Rattle.dt_model.specs.Flow.{steps_of}
use Rattle.dt_satisfy.specs.Links.{table_of}
use Rattle.dt_satisfy.proofs.links.push_reads.Given as goal

abbrev pub invariant-loop-made : goal.invariant-loop-made
invariant-loop-made l = l.tables.items ≡ l.initial.tables.items ++ map (table_of (steps_of l.nodes)) (take l.made-index l.reads)
