use Rattle.std.proofs.Common.{◌≡◌, ◌-◌, ◌++◌}
use Rattle.dt_model.specs.Accepted.{accepted_data}
use Rattle.dt_table.specs.Images.{contexts_told}
use Rattle.dt_encode.specs.Telling.{valued}
use Rattle.dt_encode.proofs.names.contexts_told.Given as goal

abbrev pub invariant-loop-c : goal.invariant-loop-c
invariant-loop-c l = contexts_told (valued l.values) (accepted_data l.model) l.count 0 ≡ l.contexts ++ contexts_told (valued l.values) (accepted_data l.model) (l.count - l.c) l.c
