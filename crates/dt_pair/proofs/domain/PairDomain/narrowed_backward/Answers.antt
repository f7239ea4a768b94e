use Rattle.dt_pair.specs.Laws.Calls.{backward_parts}
use Rattle.dt_pair.proofs.Normals.{parts_same}
use Rattle.dt_pair.proofs.Narrowed.{backward_width, narrowed_by}
use Rattle.dt_pair.proofs.domain.PairDomain.narrowed_backward.Goals as goal

pub narrowed-requires-clause-parts : goal.narrowed-requires-clause-parts
narrowed-requires-clause-parts c = parts_same _ _ _ _ c.backward-known.ensures c.backward-range.ensures
    (backward_parts c.args.op c.args.place c.args.outcome.now c.args.a.now c.args.b.now c.args.c.now c.requires.fitting)

pub narrowed-requires-clause-widths : goal.narrowed-requires-clause-widths
narrowed-requires-clause-widths c = backward_width c.args.op c.args.place c.args.self.now c.args.outcome.now c.args.a.now c.args.b.now c.args.c.now
    c.backward-known.result c.requires.fitting c.requires.width c.backward-known.ensures

pub returns : goal.returns
returns c = narrowed_by c.args.self.now _ _ _ _ c.narrowed.result c.backward-known.ensures c.backward-range.ensures c.narrowed.ensures
