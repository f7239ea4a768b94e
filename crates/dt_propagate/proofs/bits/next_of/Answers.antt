use Rattle.std.proofs.Common.{◌≡◌, ℕ, ◌+◌, ◌*◌, ◌/◌, ◌%◌, ◌<◌, ◌≤◌, length, false, refl, sym, ap, ◌∙◌, subst, arith, ⊎_elim}
use Rattle.std.proofs.lemmas.Bool.{cases_lt}
use Rattle.dt_propagate.specs.Marks.{is_marked}
use Rattle.dt_propagate.proofs.Marking.{past_words, in_word}
use Rattle.dt_propagate.proofs.bits.next_of.Goals as goal

pub returns-then-first-words : goal.returns-then-first-words
returns-then-first-words c = λ i l. past_words c.args.words.now i (omega (arith, c.if-first-words.true))

pub returns : goal.returns
returns c = λ i l.
    ⊎_elim
    (λ (m : i < c.loop-word.word * 64). c.loop-word.invariant i l m)
    (λ (m : c.loop-word.word * 64 ≤ i). past_words c.args.words.now i (omega (arith, c.loop-word-test.false)))
    (cases_lt i (c.loop-word.word * 64))
