use Rattle.dt_pair.specs.Laws.Calls.{forward_parts}
use Rattle.dt_pair.proofs.Normals.{parts_same}
use Rattle.dt_pair.proofs.domain.PairDomain.forward.Goals as goal

pub normal-requires : goal.normal-requires
normal-requires c = parts_same _ _ _ _ c.forward-known.ensures c.forward-range.ensures (forward_parts c.args.op c.args.a.now c.args.b.now c.args.c.now c.requires)
