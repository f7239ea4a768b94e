use Rattle.dt_pair.specs.Laws.Calls.{forward_parts}
use Rattle.dt_pair.proofs.Normals.{parts_same}
use Rattle.dt_pair.proofs.Narrowed.{forward_width, narrowed_by}
use Rattle.dt_pair.proofs.domain.PairDomain.narrowed_forward.Goals as goal

pub narrowed-requires-clause-parts : goal.narrowed-requires-clause-parts
narrowed-requires-clause-parts c = parts_same _ _ _ _ c.forward-known.ensures c.forward-range.ensures
    (forward_parts c.args.op c.args.a.now c.args.b.now c.args.c.now c.requires.fitting)

pub narrowed-requires-clause-widths : goal.narrowed-requires-clause-widths
narrowed-requires-clause-widths c =
    forward_width c.args.op c.args.self.now c.args.a.now c.args.b.now c.args.c.now c.forward-known.result c.requires.fitting c.requires.width c.forward-known.ensures

pub returns : goal.returns
returns c = narrowed_by c.args.self.now _ _ _ _ c.narrowed.result c.forward-known.ensures c.forward-range.ensures c.narrowed.ensures
