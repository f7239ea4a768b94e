use Rattle.std.proofs.Common.{◌≡◌, take}
use Rattle.std.specs.List.{filter}
use Rattle.dt_pair.specs.Pair.{pair_holds}
use Rattle.dt_sets.specs.Sets.{listed, listing}
use Rattle.dt_sets.proofs.Sets.held_by_pair.Given as goal

-- those so far that the Pair holds are kept
abbrev pub invariant-loop-place : goal.invariant-loop-place
invariant-loop-place l = l.kept ≡ listing l.self.width (filter (pair_holds l.pair) (take l.place (listed l.self)))
