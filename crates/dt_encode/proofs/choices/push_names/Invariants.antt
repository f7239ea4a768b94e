use Rattle.std.proofs.Common.{◌≡◌, ◌++◌, take}
use Rattle.dt_encode.specs.Widths.{name_widths}
use Rattle.dt_encode.proofs.choices.push_names.Given as goal

abbrev pub invariant-loop-named : goal.invariant-loop-named
invariant-loop-named l = l.widths.items ≡ l.initial.widths.items ++ name_widths (take l.named-index l.names)
