use Rattle.std.proofs.Common.{◌≡◌, ◌++◌, map, drop}
use Rattle.dt_model.specs.Flow.{steps_of}
use Rattle.dt_table.specs.Spots.{read_spots}
use Rattle.dt_claims.specs.Views.{spot}
use Rattle.dt_claims.proofs.spots.push_reads_among.Given as goal

abbrev pub invariant-loop-n : goal.invariant-loop-n
invariant-loop-n l = map spot l.spots.items ++ read_spots l.ways l.access (steps_of (drop l.n l.nodes)) (drop l.n l.outs) l.n ≡ map spot l.initial.spots.items ++ read_spots l.ways l.access (steps_of l.nodes) l.outs 0
