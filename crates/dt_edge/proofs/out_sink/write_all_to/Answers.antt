use Rattle.std.proofs.Common.{arith, take}
use Rattle.std.proofs.lemmas.Grind.{common_steps}
use Rattle.dt_edge.proofs.Written.{wrote_more}
use Rattle.dt_edge.proofs.out_sink.write_all_to.Goals as goal

pub writes-preserved : goal.writes-preserved
writes-preserved g c = wrote_more _ _ _ _ _ (take c.in-Ok.count c.writes.rest.now) _ c.writes.invariant (grind (arith, common_steps)) c.in-Ok.ensures.bytes
