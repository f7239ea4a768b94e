use Rattle.std.proofs.Common.{◌≡◌, [], drop, map}
use Rattle.dt_model.specs.Accepted.{accepted_data}
use Rattle.dt_table.specs.Table.{accesses_built}
use Rattle.dt_unroll.specs.Building.{built_of}
use Rattle.dt_unroll.proofs.accesses.build_accesses.Given as goal

abbrev pub invariant-loop-k : goal.invariant-loop-k
invariant-loop-k l =
    accesses_built (accepted_data l.model) l.requests (built_of l.builder (map (λ v. v.items) l.all.items)) l.k (drop l.k l.accesses) ≡ accesses_built (accepted_data l.model) l.requests (built_of l.initial.builder []) 0 l.accesses
