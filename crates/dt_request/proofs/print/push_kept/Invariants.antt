use Rattle.std.proofs.Common.{◌≡◌, ◌++◌, take}
use Rattle.std.specs.Prelude.{map}
use Rattle.dt_lex.specs.Printing.{text_of}
use Rattle.dt_request.specs.Print.{keep_row}
use Rattle.dt_request.proofs.print.push_kept.Given as goal

abbrev pub invariant-loop-range : goal.invariant-loop-range
invariant-loop-range l = l.out.items ≡ l.fn.out.items ++ text_of (map keep_row (take l.range-index l.kept))
