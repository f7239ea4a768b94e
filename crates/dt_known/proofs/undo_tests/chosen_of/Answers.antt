use Rattle.std.proofs.Common.{◌∙◌}
use Rattle.dt_known.proofs.TestWords.{chosen_words}
use Rattle.dt_known.proofs.undo_tests.chosen_of.Goals as goal

pub returns-then-chosen : goal.returns-then-chosen
returns-then-chosen c = c.of_words.ensures ∙ chosen_words c.args.chosen c.args.outcome.now c.requires c.if-chosen.true
