use Rattle.std.proofs.Common.{◌≡◌, ℕ, ◌<◌, false, drop}
use Rattle.std.specs.List.{position_from}
use Rattle.dt_box.specs.Cells.{cell_at}
use Rattle.dt_box.proofs.sweep.first_empty.Given as goal

-- the first empty cell is not among those up to here
abbrev pub invariant-loop-at : goal.invariant-loop-at
invariant-loop-at g l = record {
  first : position_from g.D.Domain.ops.is_empty 0 l.cells ≡ position_from g.D.Domain.ops.is_empty l.at (drop l.at l.cells);
  held : (t : ℕ) → t < l.at → g.D.Domain.ops.is_empty (cell_at g.D.Domain.ops l.cells t) ≡ false;
}
