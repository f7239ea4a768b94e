use Rattle.std.proofs.Common.{◌≡◌, ◌<◌, ℕ, false, get_or}
use Rattle.dt_check.proofs.marks.Marks.clear.Given as goal

-- the marks are as they were, and no block up to here is set
abbrev pub invariant-loop-block : goal.invariant-loop-block
invariant-loop-block l = record {
  marks : l.self.marks.items ≡ l.fn.self.marks.items;
  blocks : (b : ℕ) → b < l.block → get_or l.self.blocks.items b false ≡ false;
}
