use Rattle.std.proofs.Common.{◌≡◌, take}
use Rattle.std.specs.Prelude.{map}
use Rattle.dt_model.specs.NameTable.{Finds}
use Rattle.dt_request.proofs.known.named_table.Given as goal

abbrev pub invariant-loop-named : goal.invariant-loop-named
invariant-loop-named l = (l.at ≡ l.named-index) × Finds l.table (map (λ n. n.name) (take l.named-index l.names))
