use Rattle.std.proofs.Common.{◌∙◌}
use Rattle.dt_known.proofs.BackWords.{slice_back_words}
use Rattle.dt_known.proofs.undo.slice_back_of.Goals as goal

pub returns : goal.returns
returns c = c.of_words.ensures
    ∙ slice_back_words c.args.outcome.now c.args.hi c.args.lo c.args.width c.requires.outcome c.requires.lo c.requires.hi c.requires.width c.requires.part
