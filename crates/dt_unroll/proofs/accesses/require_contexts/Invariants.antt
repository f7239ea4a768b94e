use Rattle.std.proofs.Common.{◌≡◌, [], ◌-◌}
use Rattle.dt_model.specs.Accepted.{accepted_data}
use Rattle.dt_table.specs.Table.{contexts_built}
use Rattle.dt_unroll.specs.Building.{built_of}
use Rattle.dt_unroll.proofs.accesses.require_contexts.Given as goal

abbrev pub invariant-loop-context : goal.invariant-loop-context
invariant-loop-context l = contexts_built (accepted_data l.model) (built_of l.builder []) (l.contexts - l.context) l.context ≡ contexts_built (accepted_data l.model) (built_of l.initial.builder []) l.contexts 0
