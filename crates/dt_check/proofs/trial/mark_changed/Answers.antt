use Rattle.std.proofs.Common.{◌≡◌, ◌<◌, ◌+◌, List, Bool, length, sym, subst, arith}
use Rattle.dt_bits.specs.Bits.{width}
use Rattle.dt_box.specs.Trails.{terms_of}
use Rattle.dt_check.specs.Noting.{AreNoted}
use Rattle.dt_check.proofs.Trying.{noted_none, noted_more, named_below}
use Rattle.dt_check.proofs.trial.mark_changed.Goals as goal

pub loop-place-init : goal.loop-place-init
loop-place-init g c = noted_none c.args.problem.now.terms (terms_of c.args.trail.now) c.args.from c.args.marks.now.marks.items

pub mark_choice-requires-clause-term : goal.mark_choice-requires-clause-term
mark_choice-requires-clause-term g c =
    let l : c.loop-place.place < length c.args.trail.now = omega (arith, c.loop-place-test.true, c.requires.to) in
    let named = named_below c.args.trail.now (length c.args.problem.now.terms) c.loop-place.place (g.D.Domain.ops.full (width 1)) c.requires.within l in
    omega (arith, c.term.ensures, named)

pub loop-place-preserved : goal.loop-place-preserved
loop-place-preserved g c =
    let terms = c.args.problem.now.terms in
    let changed = terms_of c.args.trail.now in
    let l : c.loop-place.place < length c.args.trail.now = omega (arith, c.loop-place-test.true, c.requires.to) in
    let named = named_below c.args.trail.now (length terms) c.loop-place.place (g.D.Domain.ops.full (width 1)) c.requires.within l in
    let within : c.term.result < length c.loop-place.marks.marks.items = omega (arith, c.term.ensures, named, c.loop-place.invariant.count, c.requires.count) in
    subst (λ (marks : List Bool). AreNoted terms changed c.args.from (c.loop-place.place + 1) c.args.marks.now.marks.items marks) (sym c.mark_choice.ensures)
    (noted_more terms changed c.args.from c.loop-place.place c.term.result c.args.marks.now.marks.items c.loop-place.marks.marks.items within (omega arith) c.term.ensures c.loop-place.invariant)

pub returns : goal.returns
returns g c =
    let e : c.loop-place.place ≡ c.args.to = omega (arith, c.loop-place-test.false, c.requires.order) in
    subst (λ n. AreNoted c.args.problem.now.terms (terms_of c.args.trail.now) c.args.from n c.args.marks.now.marks.items c.loop-place.marks.marks.items) e c.loop-place.invariant
