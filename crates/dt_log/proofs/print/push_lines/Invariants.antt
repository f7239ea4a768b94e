use Rattle.std.proofs.Common.{◌≡◌, ◌++◌, take}
use Rattle.dt_log.specs.Print.{text_of_entries}
use Rattle.dt_log.specs.Small.{AreSmall}
use Rattle.dt_log.proofs.Printed.{item_entries}
use Rattle.dt_log.proofs.print.push_lines.Given as goal

abbrev pub invariant-loop-i : goal.invariant-loop-i
invariant-loop-i l = record {
  text : l.out.items ≡ l.fn.out.items ++ text_of_entries (item_entries (take l.i l.lines));
  small : AreSmall (item_entries (take l.i l.lines));
}
