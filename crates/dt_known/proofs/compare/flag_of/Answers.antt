use Rattle.std.proofs.Common.{ap, ◌∙◌, Some}
use Rattle.dt_known.proofs.Flags.{flag_none, flag_zero, flag_one}
use Rattle.dt_known.proofs.compare.flag_of.Goals as goal

pub returns-in-None : goal.returns-in-None
returns-in-None c = c.of_words.ensures ∙ flag_none c.args.known c.in-None.is

pub returns-in-Some-true : goal.returns-in-Some-true
returns-in-Some-true c = c.of_words-in-Some-true.ensures ∙ flag_one c.args.known (c.in-Some-true.is ∙ ap Some c.in-Some-true.field-0-test)

pub returns-in-Some-false : goal.returns-in-Some-false
returns-in-Some-false c = c.of_words-in-Some-false.ensures ∙ flag_zero c.args.known (c.in-Some-false.is ∙ ap Some c.in-Some-false.field-0-test)
