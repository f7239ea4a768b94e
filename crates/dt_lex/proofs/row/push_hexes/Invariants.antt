use Rattle.std.proofs.Common.{◌≡◌, ◌++◌, take}
use Rattle.std.specs.Prelude.{map}
use Rattle.dt_lex.specs.Numeral.{hex}
use Rattle.dt_lex.specs.Printing.{spaced}
use Rattle.dt_lex.proofs.row.push_hexes.Given as goal

abbrev pub invariant-loop-value : goal.invariant-loop-value
invariant-loop-value l = l.out.items ≡ l.fn.out.items ++ spaced (map hex (take l.value-index l.values))
