use Rattle.std.proofs.Common.{sym, ◌∙◌}
use Rattle.dt_lex.specs.Text.{tokens_of}
use Rattle.dt_image.proofs.Numbers.{numbers_stop}
use Rattle.dt_image.proofs.line.numbers.Goals as goal

pub returns-in-None : goal.returns-in-None
returns-in-None c = sym (numbers_stop c.loop-token.found c.in-Some.token.now (tokens_of c.loop-token.rest.now) (tokens_of c.in-Some.after.now) c.in-Some.ensures.cut (sym c.in-None.ensures)) ∙ c.loop-token.invariant
