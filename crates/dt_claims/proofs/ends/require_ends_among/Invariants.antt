use Rattle.std.proofs.Common.{◌≡◌}
use Rattle.dt_model.specs.Flow.{steps_of}
use Rattle.dt_build.specs.Building.{claimed}
use Rattle.dt_table.specs.Claims.{ends_only}
use Rattle.dt_claims.specs.Endings.{passes}
use Rattle.dt_claims.proofs.ends.require_ends_among.Given as goal

abbrev pub invariant-loop-node : goal.invariant-loop-node
invariant-loop-node l = claimed l.builder (ends_only (passes l.ending) (steps_of l.node-iterator.a.rest.now) l.node-iterator.b.rest.now) ≡ claimed l.initial.builder (ends_only (passes l.ending) (steps_of l.nodes) l.outs)
