use Rattle.std.proofs.Common.{◌≡◌, ◌≤◌, ◌+◌, drop, false}
use Rattle.dt_log.specs.Shapes.{shape, after_lines, is_done, is_tree, goes}
use Rattle.dt_log.proofs.shaping.first_wrong.Given as goal

-- with the lines that are left it is as with all of them
abbrev pub invariant-loop-i : goal.invariant-loop-i
invariant-loop-i l = record {
  same : is_done (after_lines (shape l.awaited.trees l.awaited.trying) (drop l.i l.lines)) ≡ is_tree l.lines;
  gone : l.i + goes (shape l.awaited.trees l.awaited.trying) (drop l.i l.lines) ≡ goes (shape 1 false) l.lines;
  most : l.awaited.trees ≤ l.i + 1;
}
