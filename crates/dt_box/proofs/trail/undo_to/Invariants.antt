use Rattle.std.proofs.Common.{◌≡◌, ◌<◌, ◌≤◌, length, take, All}
use Rattle.dt_box.specs.Trails.{back}
use Rattle.dt_box.proofs.trail.undo_to.Given as goal

-- going back from here leads where going back from the start leads
abbrev pub invariant-loop-changes : goal.invariant-loop-changes
invariant-loop-changes g l = record {
  back : back l.cells l.changes.items l.len ≡ back l.fn.cells l.fn.changes.items l.len;
  kept : take l.len l.changes.items ≡ take l.len l.fn.changes.items;
  len : l.len ≤ length l.changes.items;
  terms : All (λ change. change.0 < length l.fn.cells) l.changes.items;
  count : length l.cells ≡ length l.fn.cells;
}

abbrev pub decreases-loop-changes : goal.decreases-loop-changes
decreases-loop-changes g l = goal.left-loop-changes g l
