use Rattle.std.proofs.Common.{◌<◌, ◌≤◌, length, arith}
use Rattle.dt_pair.specs.Pair.{pair_holds}
use Rattle.dt_sets.specs.Sets.{listed}
use Rattle.dt_sets.specs.Laws.Form.{few_is}
use Rattle.dt_sets.proofs.Loops.{count_is, keep_form, keep_room, keep_next, keep_all}
use Rattle.dt_sets.proofs.Sets.held_by_pair.Goals as goal

pub at-number-requires-clause-form : goal.at-number-requires-clause-form
at-number-requires-clause-form c = few_is c.args.self.now c.requires.self_is c.requires.few

pub push_if-requires-clause-form : goal.push_if-requires-clause-form
push_if-requires-clause-form c =
    let s = c.args.self.now in
    keep_form (pair_holds c.args.pair.now) s.width (listed s) c.loop-place.place c.loop-place.kept c.requires.self_is.short c.loop-place.invariant

pub push_if-requires-clause-room : goal.push_if-requires-clause-room
push_if-requires-clause-room c =
    let s = c.args.self.now in
    let k = count_is s c.requires.self_is c.requires.few in
    let l : c.loop-place.place < length (listed s) = omega (arith, k, c.loop-place-test.true) in
    keep_room (pair_holds c.args.pair.now) s.width (listed s) c.loop-place.place c.loop-place.kept c.requires.self_is.short l c.loop-place.invariant

pub loop-place-preserved : goal.loop-place-preserved
loop-place-preserved c =
    let s = c.args.self.now in
    let k = count_is s c.requires.self_is c.requires.few in
    let l : c.loop-place.place < length (listed s) = omega (arith, k, c.loop-place-test.true) in
    keep_next (pair_holds c.args.pair.now) s.width (listed s) c.loop-place.place c.at-number.result c.holds-passes.result c.loop-place.kept c.push_if.new.self
    l c.loop-place.invariant c.at-number.ensures c.holds-passes.ensures c.push_if.ensures

pub returns : goal.returns
returns c =
    let s = c.args.self.now in
    let k = count_is s c.requires.self_is c.requires.few in
    let l : length (listed s) ≤ c.loop-place.place = omega (arith, k, c.loop-place-test.false) in
    keep_all (pair_holds c.args.pair.now) s.width (listed s) c.loop-place.place c.loop-place.kept l c.loop-place.invariant
