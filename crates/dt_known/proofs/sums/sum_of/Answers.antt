use Rattle.std.proofs.Common.{◌∙◌}
use Rattle.dt_known.proofs.SumWords.{sum_words}
use Rattle.dt_known.proofs.sums.sum_of.Goals as goal

pub returns : goal.returns
returns c = c.of_words.ensures
    ∙ sum_words c.args.carry c.word_if-first.result c.word_if-first.ensures c.args.a.now c.args.b.now c.requires.a c.requires.b c.requires.widths
