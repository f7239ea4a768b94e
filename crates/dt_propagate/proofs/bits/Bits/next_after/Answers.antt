use Rattle.std.proofs.Common.{◌≡◌, ℕ, ◌*◌, ◌<◌, ◌≤◌, List, Some, length, subst, ⊎_elim, arith}
use Rattle.std.proofs.lemmas.Bool.{cases_lt}
use Rattle.dt_propagate.specs.Marks.{IsNextMark}
use Rattle.dt_propagate.proofs.Marking.{past_words, none_before}
use Rattle.dt_propagate.proofs.bits.Bits.next_after.Goals as goal

pub returns-then-word-len : goal.returns-then-word-len
returns-then-word-len c = λ i l.
    let words = c.args.self.now.words.items in
    let tops = c.args.self.now.tops.items in
    let from = c.words.from in
    let word = c.in-Some.word in
    let n = subst (λ (ws : List ℕ). IsNextMark ws from (Some word)) c.deref.ensures.value c.in-Some.ensures in
    ⊎_elim
    (λ (m : i < word * 64). none_before words tops c.args.first from word i c.args.self.now.covered c.words.invariant.none n.2 l m)
    (λ (m : word * 64 ≤ i). past_words words i (omega (arith, c.len.ensures, c.if-word-len.true)))
    (cases_lt i (word * 64))
