use Rattle.std.proofs.Common.{◌≡◌, ◌++◌, take}
use Rattle.std.specs.List.{flat_map}
use Rattle.dt_model.specs.Accepted.{accepted_data}
use Rattle.dt_encode.specs.Widths.{name_widths}
use Rattle.dt_encode.proofs.choices.push_contexts.Given as goal

abbrev pub invariant-loop-context : goal.invariant-loop-context
invariant-loop-context l = l.widths.items ≡ l.initial.widths.items ++ flat_map (λ _. name_widths (accepted_data l.model).regs) (take l._context-index l.contexts)
