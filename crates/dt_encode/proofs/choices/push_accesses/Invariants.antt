use Rattle.std.proofs.Common.{◌≡◌, ◌++◌, take}
use Rattle.std.specs.List.{flat_map}
use Rattle.dt_model.specs.Accepted.{accepted_data}
use Rattle.dt_encode.specs.Widths.{access_widths}
use Rattle.dt_encode.proofs.choices.push_accesses.Given as goal

abbrev pub invariant-loop-access : goal.invariant-loop-access
invariant-loop-access l = l.widths.items ≡ l.initial.widths.items ++ flat_map (λ _. access_widths (accepted_data l.model)) (take l._access-index l.accesses)
