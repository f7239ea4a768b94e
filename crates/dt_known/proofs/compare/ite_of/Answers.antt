use Rattle.std.proofs.Common.{sym, ap, ◌∙◌, Some}
use Rattle.dt_known.proofs.Flags.{ite_one, ite_zero}
use Rattle.dt_known.proofs.compare.ite_of.Goals as goal

pub returns-in-Some-true : goal.returns-in-Some-true
returns-in-Some-true c = c.of_words.ensures ∙ ite_one c.args.a.now c.args.b.now c.args.c.now c.requires.b (sym c.lowest.ensures ∙ c.in-Some-true.is ∙ ap Some c.in-Some-true.field-0-test)

pub returns-in-Some-false : goal.returns-in-Some-false
returns-in-Some-false c = c.of_words-in-Some-false.ensures ∙ ite_zero c.args.a.now c.args.b.now c.args.c.now c.requires.c c.requires.widths (sym c.lowest.ensures ∙ c.in-Some-false.is ∙ ap Some c.in-Some-false.field-0-test)
