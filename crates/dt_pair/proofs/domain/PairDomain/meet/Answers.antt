use Rattle.dt_pair.specs.Laws.Calls.{meet_parts}
use Rattle.dt_pair.proofs.Normals.{parts_same}
use Rattle.dt_pair.proofs.domain.PairDomain.meet.Goals as goal

pub normal-requires : goal.normal-requires
normal-requires c = parts_same _ _ _ _ c.meet.ensures c.meet-2.ensures
    (meet_parts c.args.self.now c.args.other.now (record { a_is = c.requires.self_is; b_is = c.requires.other_is; widths = c.requires.widths }))
