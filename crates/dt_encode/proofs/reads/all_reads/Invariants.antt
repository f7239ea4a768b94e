use Rattle.std.proofs.Common.{◌≡◌, ◌++◌, take}
use Rattle.std.specs.List.{flat_map}
use Rattle.dt_model.specs.Flow.{steps_of}
use Rattle.dt_table.specs.Told.{told}
use Rattle.dt_encode.specs.Telling.{valued}
use Rattle.dt_encode.proofs.reads.all_reads.Given as goal

abbrev pub invariant-loop-row : goal.invariant-loop-row
invariant-loop-row l = l.reads.items ≡ l.initial.reads.items ++ flat_map (λ row. (told (valued l.values) (steps_of l.nodes) row.items 0).reads) (take l.row-index l.outs)
