use Rattle.std.proofs.Common.{◌∙◌, sym, ap, Some}
use Rattle.dt_known.proofs.TestWords.{eq_one, eq_zero}
use Rattle.dt_known.proofs.undo_tests.eq_back_of.Goals as goal

pub returns-in-Some-true : goal.returns-in-Some-true
returns-in-Some-true c = c.of_words.ensures
    ∙ eq_one _ c.args.operand.now c.args.other.now c.requires.other c.requires.widths (sym c.lowest.ensures ∙ c.in-Some-true.is ∙ ap Some c.in-Some-true.field-0-test)

pub returns-else-is_same : goal.returns-else-is_same
returns-else-is_same c = c.apart_of.ensures
    ∙ eq_zero _ c.args.operand.now c.args.other.now (sym c.lowest.ensures ∙ c.in-Some-false.is ∙ ap Some c.in-Some-false.field-0-test) (sym c.is_same.ensures ∙ c.if-is_same.false)
