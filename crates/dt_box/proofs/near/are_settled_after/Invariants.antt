use Rattle.std.proofs.Common.{◌≡◌, ℕ, ◌<◌, false, get_or}
use Rattle.std.specs.Prelude.{IfSome}
use Rattle.dt_bits.specs.Bits.{width}
use Rattle.dt_box.specs.Cells.{cell_at}
use Rattle.dt_box.specs.Stillness.{IsStillAt}
use Rattle.dt_box.specs.Watching.{IsStillNear}
use Rattle.dt_box.proofs.near.are_settled_after.Given as goal

-- near the changes up to here no cell is empty, and no step tells something new; nor does one of the node
-- that is still
abbrev pub invariant-loop-change : goal.invariant-loop-change
invariant-loop-change g l = record {
  held : (k : ℕ) → k < l.change-index → g.D.Domain.ops.is_empty (cell_at g.D.Domain.ops l.cells (get_or l.changes k (0, g.D.Domain.ops.full (width 1))).0) ≡ false;
  still : (k : ℕ) → k < l.change-index → IsStillNear g.D.Domain.ops l.terms l.cells (get_or l.changes k (0, g.D.Domain.ops.full (width 1))).0;
  of_still : IfSome l.still (λ n. IsStillAt g.D.Domain.ops l.terms n l.cells);
}
