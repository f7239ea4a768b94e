use Rattle.std.proofs.Common.{◌≡◌, ◌++◌, take}
use Rattle.std.specs.Prelude.{map}
use Rattle.dt_lex.specs.Printing.{text_of}
use Rattle.dt_modeltext.specs.Print.{named_row}
use Rattle.dt_modeltext.proofs.print.row.push_names.Given as goal

abbrev pub invariant-loop-named : goal.invariant-loop-named
invariant-loop-named l = l.out.items ≡ l.fn.out.items ++ text_of (map (named_row l.kind) (take l.named-index l.names))
