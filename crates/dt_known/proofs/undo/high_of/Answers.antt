use Rattle.std.proofs.Common.{◌∙◌}
use Rattle.dt_known.proofs.BackWords.{high_words}
use Rattle.dt_known.proofs.undo.high_of.Goals as goal

pub returns : goal.returns
returns c = c.of_words.ensures ∙ high_words c.args.outcome.now c.args.low c.args.width c.requires.outcome c.requires.whole
