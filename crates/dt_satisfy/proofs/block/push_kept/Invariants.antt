use Rattle.std.proofs.Common.{◌≡◌, ◌++◌, map, take}
use Rattle.dt_satisfy.specs.Blocks.{is_kept}
use Rattle.dt_satisfy.proofs.block.push_kept.Given as goal

abbrev pub invariant-loop-range : goal.invariant-loop-range
invariant-loop-range l = l.claims.items ≡ l.initial.claims.items ++ map (is_kept l.pages l.tables) (take l.range-index l.kept)
