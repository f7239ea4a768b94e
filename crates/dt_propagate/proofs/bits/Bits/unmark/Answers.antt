use Rattle.std.proofs.Common.{◌≡◌, ◌/◌, ◌<◌, length, get_or, sym, ◌∙◌, arith}
use Rattle.std.proofs.lemmas.List.{get_or_default}
use Rattle.dt_propagate.proofs.Marking.{covered_fewer, covered_zero}
use Rattle.dt_propagate.proofs.bits.Bits.unmark.Goals as goal

pub invariant_of-self : goal.invariant_of-self
invariant_of-self c =
    let words = c.args.self.now.words.items in
    let tops = c.args.self.now.tops.items in
    let new = c.take_away.new.words.items in
    let word = c.args.at / 64 in
    let l : word < length new = omega (arith, c.requires, c.take_away.ensures.len) in
    let zero : get_or new word 0 ≡ 0 = sym (get_or_default new word c.index.result.now 0 l) ∙ sym c.index.ensures ∙ c.if-index-eq0.true in
    record {
      covered = covered_zero new tops c.take_away-then-index-eq0.new.words.items word (covered_fewer words tops new c.args.at c.args.self.now.covered c.take_away.ensures.len c.take_away.ensures.marks)
          c.take_away-then-index-eq0.ensures.len zero c.take_away-then-index-eq0.ensures.marks;
    }
