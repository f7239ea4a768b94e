use Rattle.std.proofs.Common.{◌≡◌, ◌+◌, ◌++◌, drop}
use Rattle.dt_table.specs.Images.{bits_from}
use Rattle.dt_encode.specs.Telling.{valued}
use Rattle.dt_encode.proofs.names.name_values.Given as goal

abbrev pub invariant-loop-i : goal.invariant-loop-i
invariant-loop-i l = bits_from (valued l.values) l.at l.names ≡ l.numbers ++ bits_from (valued l.values) (l.at + l.i) (drop l.i l.names)
