use Rattle.dt_lemmas.proofs.Powers.{wider_fits}
use Rattle.dt_known.proofs.moved.spread.Goals as goal

pub returns-else-bit_of-clause-fits : goal.returns-else-bit_of-clause-fits
returns-else-bit_of-clause-fits c = wider_fits c.args.word c.args.width.0 c.args.to c.requires.word c.requires.order
