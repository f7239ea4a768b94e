use Rattle.std.proofs.Common.{◌≡◌, ◌++◌, drop}
use Rattle.dt_model.specs.Accepted.{accepted_data}
use Rattle.dt_table.specs.Images.{accesses_told}
use Rattle.dt_encode.specs.Telling.{valued}
use Rattle.dt_encode.proofs.names.accesses_told.Given as goal

abbrev pub invariant-loop-k : goal.invariant-loop-k
invariant-loop-k l =
    accesses_told (valued l.values) (accepted_data l.model) l.requests 0 l.requests.accesses ≡ l.accesses ++ accesses_told (valued l.values) (accepted_data l.model) l.requests l.k (drop l.k l.requests.accesses)
