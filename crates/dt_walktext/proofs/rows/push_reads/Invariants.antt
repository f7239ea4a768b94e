use Rattle.std.proofs.Common.{◌≡◌, ◌++◌, take}
use Rattle.std.specs.Prelude.{map}
use Rattle.dt_lex.specs.Printing.{text_of}
use Rattle.dt_model.specs.ModelData.{data_of}
use Rattle.dt_walktext.specs.Printed.{read_row}
use Rattle.dt_walktext.proofs.rows.push_reads.Given as goal

abbrev pub invariant-loop-read : goal.invariant-loop-read
invariant-loop-read l = l.out.items ≡ l.fn.out.items ++ text_of (map (read_row (data_of l.model)) (take l.read-index l.reads))
