use Rattle.std.proofs.Common.{sym, ap, ◌∙◌}
use Rattle.dt_bits.specs.declared.value.Width.{Width}
use Rattle.dt_pair.specs.Laws.Parts.{fitting_known, fitting_range}
use Rattle.dt_pair.specs.Laws.Calls.{forward_parts}
use Rattle.dt_pair.proofs.Normals.{parts_same}
use Rattle.dt_pair.proofs.Narrowed.{forward_width}
use Rattle.dt_sets.specs.Triple.{pair_of}
use Rattle.dt_sets.specs.declared.Triple.{Triple}
use Rattle.dt_sets.specs.TripleLaws.Calls.{fitting_pair, forward_is}
use Rattle.dt_sets.proofs.OneBits.{bits_width}
use Rattle.dt_sets.proofs.Unlisted.{narrowed_forward}
use Rattle.dt_sets.proofs.triple_domain.TripleDomain.narrowed_forward.Goals as goal

pub narrowed_to_bits-requires-clause-width : goal.narrowed_to_bits-requires-clause-width
narrowed_to_bits-requires-clause-width c = ap (λ (w : Width). w.0) (c.requires.width ∙ sym (forward_is c.args.op c.args.a.now c.args.b.now c.args.c.now c.requires.fitting).1
    ∙ ap (λ (t : Triple). t.known.width) c.in-Some.ensures ∙ bits_width c.in-Some.told)

pub forward-known-requires : goal.forward-known-requires
forward-known-requires c = fitting_known c.args.op (pair_of c.args.a.now) (pair_of c.args.b.now) (pair_of c.args.c.now) (fitting_pair c.args.op c.args.a.now c.args.b.now c.args.c.now c.requires.fitting)

pub forward-range-requires : goal.forward-range-requires
forward-range-requires c = fitting_range c.args.op (pair_of c.args.a.now) (pair_of c.args.b.now) (pair_of c.args.c.now) (fitting_pair c.args.op c.args.a.now c.args.b.now c.args.c.now c.requires.fitting)

pub narrowed_by_parts-requires-clause-parts : goal.narrowed_by_parts-requires-clause-parts
narrowed_by_parts-requires-clause-parts c = parts_same _ _ _ _ c.forward-known.ensures c.forward-range.ensures
    (forward_parts c.args.op (pair_of c.args.a.now) (pair_of c.args.b.now) (pair_of c.args.c.now) (fitting_pair c.args.op c.args.a.now c.args.b.now c.args.c.now c.requires.fitting))

pub narrowed_by_parts-requires-clause-widths : goal.narrowed_by_parts-requires-clause-widths
narrowed_by_parts-requires-clause-widths c = forward_width c.args.op (pair_of c.args.self.now) (pair_of c.args.a.now) (pair_of c.args.b.now) (pair_of c.args.c.now)
    c.forward-known.result (fitting_pair c.args.op c.args.a.now c.args.b.now c.args.c.now c.requires.fitting) c.requires.width c.forward-known.ensures

pub returns-then-is_some_used : goal.returns-then-is_some_used
returns-then-is_some_used c = narrowed_forward c.args.op c.args.self.now c.args.a.now c.args.b.now c.args.c.now c.forward-known.result c.forward-range.result c.narrowed_by_parts.result
    c.requires.fitting (sym c.is_some_used.ensures ∙ c.if-is_some_used.true) c.forward-known.ensures c.forward-range.ensures c.narrowed_by_parts.ensures
