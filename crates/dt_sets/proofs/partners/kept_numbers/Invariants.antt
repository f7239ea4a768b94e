use Rattle.std.proofs.Common.{◌≡◌, take}
use Rattle.std.specs.List.{filter}
use Rattle.dt_sets.specs.Sets.{listed, listing}
use Rattle.dt_sets.specs.Backward.{fixed_gives}
use Rattle.dt_sets.proofs.partners.kept_numbers.Given as goal

-- those so far that may be are kept
abbrev pub invariant-loop-at : goal.invariant-loop-at
invariant-loop-at l = l.kept ≡ listing l.target.width (filter (fixed_gives l.op l.place l.outcome l.a l.b l.c) (take l.at (listed l.target)))
