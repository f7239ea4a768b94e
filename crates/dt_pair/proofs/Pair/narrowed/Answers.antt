use Rattle.std.proofs.Common.{ap, ◌∙◌}
use Rattle.dt_known.specs.Known.{known_meet}
use Rattle.dt_pair.specs.Pair.{normal}
use Rattle.dt_pair.proofs.Normals.{parts_same}
use Rattle.dt_pair.proofs.Narrowed.{AreAlikeParts, met_parts, meet_with_parts, none_narrows}
use Rattle.dt_pair.proofs.Pair.narrowed.Goals as goal

pub returns-then-is_within-2 : goal.returns-then-is_within-2
returns-then-is_within-2 c =
    let g : AreAlikeParts c.args.self.now c.args.known.now c.args.range.now = record { a_is = c.requires.self_is; parts = c.requires.parts; widths = c.requires.widths } in
    none_narrows c.args.self.now c.args.known.now c.args.range.now g (c.is_within.ensures.0 c.if-is_within.true) (c.is_within-then-is_within.ensures.0 c.if-is_within-2.true)

pub normal-requires : goal.normal-requires
normal-requires c =
    let g : AreAlikeParts c.args.self.now c.args.known.now c.args.range.now = record { a_is = c.requires.self_is; parts = c.requires.parts; widths = c.requires.widths } in
    parts_same _ _ _ _ c.meet.ensures c.meet-2.ensures (met_parts c.args.self.now c.args.known.now c.args.range.now g)

pub returns : goal.returns
returns c =
    let a = c.args.self.now in
    let k = c.args.known.now in
    let g : AreAlikeParts a k c.args.range.now = record { a_is = c.requires.self_is; parts = c.requires.parts; widths = c.requires.widths } in
    c.normal.ensures.is ∙ ap (λ k. normal k c.meet-2.result) c.meet.ensures ∙ ap (normal (known_meet a.known k)) c.meet-2.ensures
    ∙ meet_with_parts a k c.args.range.now g
