use Rattle.std.proofs.Common.{◌<◌, ◌≤◌, not, length, arith}
use Rattle.dt_bits.specs.Bits.{bit, differs}
use Rattle.dt_sets.specs.Sets.{listed}
use Rattle.dt_sets.specs.Laws.Form.{few_is}
use Rattle.dt_sets.proofs.Alike.{flag_is}
use Rattle.dt_sets.proofs.Loops.{count_is, keep_form, keep_room, keep_next, keep_all}
use Rattle.dt_sets.proofs.Sets.with_bit_at.Goals as goal

pub at-number-requires-clause-form : goal.at-number-requires-clause-form
at-number-requires-clause-form c = few_is c.args.self.now c.requires.self_is c.requires.few

pub push_if-requires-clause-form : goal.push_if-requires-clause-form
push_if-requires-clause-form c =
    let s = c.args.self.now in
    keep_form (λ x. not (differs (bit x c.args.place) c.args.value)) s.width (listed s) c.loop-index.index c.loop-index.kept c.requires.self_is.short c.loop-index.invariant

pub push_if-requires-clause-room : goal.push_if-requires-clause-room
push_if-requires-clause-room c =
    let s = c.args.self.now in
    let k = count_is s c.requires.self_is c.requires.few in
    let l : c.loop-index.index < length (listed s) = omega (arith, k, c.loop-index-test.true) in
    keep_room (λ x. not (differs (bit x c.args.place) c.args.value)) s.width (listed s) c.loop-index.index c.loop-index.kept c.requires.self_is.short l c.loop-index.invariant

pub loop-index-preserved : goal.loop-index-preserved
loop-index-preserved c =
    let s = c.args.self.now in
    let k = count_is s c.requires.self_is c.requires.few in
    let l : c.loop-index.index < length (listed s) = omega (arith, k, c.loop-index-test.true) in
    keep_next (λ x. not (differs (bit x c.args.place) c.args.value)) s.width (listed s) c.loop-index.index c.at-number.result _ c.loop-index.kept c.push_if.new.self
    l c.loop-index.invariant c.at-number.ensures (flag_is c.bit_of.result (bit c.at-number.result c.args.place) c.args.value c.bit_of.ensures) c.push_if.ensures

pub returns : goal.returns
returns c =
    let s = c.args.self.now in
    let k = count_is s c.requires.self_is c.requires.few in
    let l : length (listed s) ≤ c.loop-index.index = omega (arith, k, c.loop-index-test.false) in
    keep_all (λ x. not (differs (bit x c.args.place) c.args.value)) s.width (listed s) c.loop-index.index c.loop-index.kept l c.loop-index.invariant
