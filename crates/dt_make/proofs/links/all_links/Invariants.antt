use Rattle.std.proofs.Common.{◌≡◌, ◌-◌}
use Rattle.std.specs.List.{flat_map, range_with_len}
use Rattle.dt_make.specs.Made.{links_at}
use Rattle.dt_make.proofs.links.all_links.Given as goal

abbrev pub invariant-loop-k : goal.invariant-loop-k
invariant-loop-k l = l.links ≡ flat_map links_at (range_with_len 1 (l.k - 1))
