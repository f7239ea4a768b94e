use Rattle.std.proofs.Common.{◌≡◌, take}
use Rattle.std.specs.List.{filter}
use Rattle.dt_sets.specs.Sets.{listed, listing, sets_holds}
use Rattle.dt_sets.proofs.Sets.held_by.Given as goal

-- those so far that the other holds are kept
abbrev pub invariant-loop-place : goal.invariant-loop-place
invariant-loop-place l = l.kept ≡ listing l.self.width (filter (sets_holds l.other) (take l.place (listed l.self)))
