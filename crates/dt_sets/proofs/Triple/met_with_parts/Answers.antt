use Rattle.std.proofs.Common.{sym, ap, ◌∙◌}
use Rattle.dt_known.specs.declared.Known.{Known}
use Rattle.dt_known.specs.Known.{known_meet}
use Rattle.dt_pair.specs.Pair.{normal}
use Rattle.dt_pair.proofs.Normals.{parts_same}
use Rattle.dt_pair.proofs.Narrowed.{AreAlikeParts, met_parts, meet_with_parts}
use Rattle.dt_sets.specs.Triple.{pair_of, reduced}
use Rattle.dt_sets.proofs.Unlisted.{parts_meet, met_width}
use Rattle.dt_sets.proofs.Triple.met_with_parts.Goals as goal

pub normal-pair-requires : goal.normal-pair-requires
normal-pair-requires c =
    let g : AreAlikeParts (pair_of c.args.self.now) c.args.known.now c.args.range.now = record { a_is = c.requires.self_is.pair; parts = c.requires.parts; widths = c.requires.widths } in
    parts_same _ _ _ _ c.meet.ensures c.meet-2.ensures (met_parts (pair_of c.args.self.now) c.args.known.now c.args.range.now g)

pub reduced-requires : goal.reduced-requires
reduced-requires c =
    let g : AreAlikeParts (pair_of c.args.self.now) c.args.known.now c.args.range.now = record { a_is = c.requires.self_is.pair; parts = c.requires.parts; widths = c.requires.widths } in
    record { pair = c.normal-pair.ensures.valid; sets = c.requires.self_is.sets; widths = c.normal-pair.ensures.width ∙ ap (λ (k : Known). k.width) c.meet.ensures ∙ met_width c.args.self.now c.args.known.now c.args.range.now g ∙ c.requires.self_is.widths }

pub returns : goal.returns
returns c =
    let s = c.args.self.now in
    let k = c.args.known.now in
    let r = c.args.range.now in
    let g : AreAlikeParts (pair_of s) k r = record { a_is = c.requires.self_is.pair; parts = c.requires.parts; widths = c.requires.widths } in
    c.reduced.ensures ∙ ap (λ p. reduced p s.sets) (c.normal-pair.ensures.is ∙ ap (λ k. normal k c.meet-2.result) c.meet.ensures ∙ ap (normal (known_meet s.known k)) c.meet-2.ensures
    ∙ meet_with_parts (pair_of s) k r g) ∙ sym (parts_meet s k r c.requires.self_is g)
