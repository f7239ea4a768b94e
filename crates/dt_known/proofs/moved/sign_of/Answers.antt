use Rattle.std.proofs.Common.{◌∙◌}
use Rattle.dt_known.proofs.MovedWords.{sign_words}
use Rattle.dt_known.proofs.moved.sign_of.Goals as goal

pub returns : goal.returns
returns c = c.of_words.ensures
    ∙ sign_words c.args.a.now c.args.to c.spread.result c.spread-2.result c.requires.a c.spread.ensures.fits c.spread-2.ensures.fits c.spread.ensures.bits c.spread-2.ensures.bits
