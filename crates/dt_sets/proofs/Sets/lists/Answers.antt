use Rattle.std.proofs.Common.{◌<◌, ◌≤◌, eqb, length, sym, arith}
use Rattle.std.proofs.lemmas.Bool.{eq-eqb, ne_eqb}
use Rattle.dt_sets.specs.Sets.{listed}
use Rattle.dt_sets.specs.Laws.Form.{counted}
use Rattle.dt_sets.proofs.Loops.{any_here, any_next, any_none}
use Rattle.dt_sets.proofs.Sets.lists.Goals as goal

pub returns-then-at-number : goal.returns-then-at-number
returns-then-at-number c =
    let s = c.args.self.now in
    let k = counted s c.requires in
    let l : c.loop-place.place < length (listed s) = omega (arith, k, c.loop-place-test.true) in
    sym (any_here (λ y. eqb y c.args.number) (listed s) c.loop-place.place c.at.result l c.at.ensures (eq-eqb _ _ c.if-at-number.true))

pub loop-place-preserved : goal.loop-place-preserved
loop-place-preserved c =
    let s = c.args.self.now in
    let k = counted s c.requires in
    let l : c.loop-place.place < length (listed s) = omega (arith, k, c.loop-place-test.true) in
    any_next (λ y. eqb y c.args.number) (listed s) c.loop-place.place c.at.result l c.loop-place.invariant c.at.ensures (ne_eqb _ _ c.if-at-number.false)

pub returns : goal.returns
returns c =
    let s = c.args.self.now in
    let k = counted s c.requires in
    let l : length (listed s) ≤ c.loop-place.place = omega (arith, k, c.loop-place-test.false) in
    sym (any_none (λ y. eqb y c.args.number) (listed s) c.loop-place.place l c.loop-place.invariant)

pub at-requires-clause-form : goal.at-requires-clause-form
at-requires-clause-form c = c.requires
