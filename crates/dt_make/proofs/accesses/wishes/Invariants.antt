use Rattle.std.proofs.Common.{◌≡◌, map}
use Rattle.std.specs.List.{range_with_len}
use Rattle.dt_make.specs.Made.{wish_at}
use Rattle.dt_make.proofs.accesses.wishes.Given as goal

abbrev pub invariant-loop-k : goal.invariant-loop-k
invariant-loop-k l = l.wishes ≡ map wish_at (range_with_len 0 l.k)
