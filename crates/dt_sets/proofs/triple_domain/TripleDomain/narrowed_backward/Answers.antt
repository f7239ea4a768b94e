use Rattle.std.proofs.Common.{sym, ap, ◌∙◌}
use Rattle.dt_bits.specs.declared.value.Width.{Width}
use Rattle.dt_pair.specs.Laws.Parts.{at_known, at_range}
use Rattle.dt_pair.specs.Laws.Calls.{backward_parts}
use Rattle.dt_pair.proofs.Normals.{parts_same}
use Rattle.dt_pair.proofs.Narrowed.{backward_width}
use Rattle.dt_sets.specs.Triple.{pair_of}
use Rattle.dt_sets.specs.declared.Triple.{Triple}
use Rattle.dt_sets.specs.TripleLaws.Calls.{at_pair, backward_is}
use Rattle.dt_sets.proofs.OneBits.{bits_width}
use Rattle.dt_sets.proofs.Unlisted.{narrowed_backward, target_width}
use Rattle.dt_sets.proofs.triple_domain.TripleDomain.narrowed_backward.Goals as goal

pub narrowed_to_bits-requires-clause-width : goal.narrowed_to_bits-requires-clause-width
narrowed_to_bits-requires-clause-width c = ap (λ (w : Width). w.0) (c.requires.width ∙ sym (backward_is c.args.op c.args.place c.args.outcome.now c.args.a.now c.args.b.now c.args.c.now c.requires.fitting).1
    ∙ ap (λ (t : Triple). t.known.width) c.in-Some.ensures ∙ bits_width c.in-Some.told)

pub backward-known-requires : goal.backward-known-requires
backward-known-requires c = at_known c.args.op c.args.place (pair_of c.args.outcome.now) (pair_of c.args.a.now) (pair_of c.args.b.now) (pair_of c.args.c.now) (at_pair c.args.op c.args.place c.args.outcome.now c.args.a.now c.args.b.now c.args.c.now c.requires.fitting)

pub backward-range-requires : goal.backward-range-requires
backward-range-requires c = at_range c.args.op c.args.place (pair_of c.args.outcome.now) (pair_of c.args.a.now) (pair_of c.args.b.now) (pair_of c.args.c.now) (at_pair c.args.op c.args.place c.args.outcome.now c.args.a.now c.args.b.now c.args.c.now c.requires.fitting)

pub narrowed_by_parts-requires-clause-parts : goal.narrowed_by_parts-requires-clause-parts
narrowed_by_parts-requires-clause-parts c = parts_same _ _ _ _ c.backward-known.ensures c.backward-range.ensures
    (backward_parts c.args.op c.args.place (pair_of c.args.outcome.now) (pair_of c.args.a.now) (pair_of c.args.b.now) (pair_of c.args.c.now) (at_pair c.args.op c.args.place c.args.outcome.now c.args.a.now c.args.b.now c.args.c.now c.requires.fitting))

pub narrowed_by_parts-requires-clause-widths : goal.narrowed_by_parts-requires-clause-widths
narrowed_by_parts-requires-clause-widths c = backward_width c.args.op c.args.place (pair_of c.args.self.now) (pair_of c.args.outcome.now) (pair_of c.args.a.now) (pair_of c.args.b.now) (pair_of c.args.c.now)
    c.backward-known.result (at_pair c.args.op c.args.place c.args.outcome.now c.args.a.now c.args.b.now c.args.c.now c.requires.fitting)
    (target_width c.args.place c.args.self.now c.args.a.now c.args.b.now c.args.c.now c.requires.fitting.operands c.requires.width) c.backward-known.ensures

pub returns-then-is_unlisted : goal.returns-then-is_unlisted
returns-then-is_unlisted c = narrowed_backward c.args.op c.args.place c.args.self.now c.args.outcome.now c.args.a.now c.args.b.now c.args.c.now c.backward-known.result c.backward-range.result c.narrowed_by_parts.result
    c.requires.fitting (sym c.is_unlisted.ensures ∙ c.if-is_unlisted.true) c.backward-known.ensures c.backward-range.ensures c.narrowed_by_parts.ensures
