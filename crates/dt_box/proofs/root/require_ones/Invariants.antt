use Rattle.std.proofs.Common.{◌≡◌, length, take}
use Rattle.dt_box.proofs.Roots.{AreCertain}
use Rattle.dt_box.proofs.root.require_ones.Given as goal

-- the terms up to here are certain
abbrev pub invariant-loop-term : goal.invariant-loop-term
invariant-loop-term g l = record {
  certain : AreCertain g.D.Domain.ops l.fn.cells l.cells (take l.term-index l.required);
  len : length l.cells ≡ length l.fn.cells;
}
