use Rattle.dt_pair.proofs.Narrowed.{AreAlikeParts, none_narrows}
use Rattle.dt_sets.specs.Triple.{pair_of}
use Rattle.dt_sets.proofs.Unlisted.{parts_stay}
use Rattle.dt_sets.proofs.Triple.narrowed_by_parts.Goals as goal

pub returns-then-is_within-2 : goal.returns-then-is_within-2
returns-then-is_within-2 c =
    let g : AreAlikeParts (pair_of c.args.self.now) c.args.known.now c.args.range.now = record { a_is = c.requires.self_is.pair; parts = c.requires.parts; widths = c.requires.widths } in
    parts_stay c.args.self.now c.args.known.now c.args.range.now c.requires.self_is g
    (none_narrows (pair_of c.args.self.now) c.args.known.now c.args.range.now g (c.is_within.ensures.0 c.if-is_within.true) (c.is_within-then-is_within.ensures.0 c.if-is_within-2.true))
