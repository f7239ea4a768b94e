use Rattle.dt_pair.specs.Laws.Calls.{backward_parts}
use Rattle.dt_pair.proofs.Normals.{parts_same}
use Rattle.dt_pair.proofs.domain.PairDomain.backward.Goals as goal

pub normal-requires : goal.normal-requires
normal-requires c = parts_same _ _ _ _ c.backward-known.ensures c.backward-range.ensures
    (backward_parts c.args.op c.args.place c.args.outcome.now c.args.a.now c.args.b.now c.args.c.now c.requires)
