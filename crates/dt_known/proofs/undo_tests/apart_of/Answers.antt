use Rattle.std.proofs.Common.{◌∙◌, sym}
use Rattle.dt_known.proofs.TestWords.{apart_words}
use Rattle.dt_known.proofs.undo_tests.apart_of.Goals as goal

pub returns : goal.returns
returns c = c.of_words.ensures
    ∙ apart_words c.args.operand.now c.args.other.now c.only_unknown-only.result c.requires.operand c.requires.other c.requires.widths
    (sym c.is_all_known.ensures ∙ c.if-not-is_all_known.false) (sym c.is_apart.ensures ∙ c.if-is_apart.false) c.only_unknown-only.ensures.fits c.only_unknown-only.ensures.bits
