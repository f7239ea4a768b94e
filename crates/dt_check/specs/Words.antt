-- The words by which causes are printed.
use Rattle.std.specs.Prelude.{ℕ, List, codes}
use Rattle.dt_check.specs.declared.verdict.Cause.{Cause}
use Rattle.dt_check.specs.declared.verdict.Cause.TheVariants as causes

abbrev pub word_of : Cause → List ℕ
word_of causes.BadStep = codes "bad-step"
word_of causes.TermOutOfRange = codes "term-out-of-range"
word_of causes.NotEmpty = codes "not-empty"
word_of causes.NotChoice = codes "not-choice"
word_of causes.BitOutOfRange = codes "bit-out-of-range"
word_of causes.BitKnown = codes "bit-known"
word_of causes.NotSettled = codes "not-settled"
word_of causes.TriedOutside = codes "tried-outside"
word_of causes.TriedSolves = codes "tried-solves"
word_of causes.Untried = codes "untried"
word_of causes.WrongClaim = codes "wrong-claim"
