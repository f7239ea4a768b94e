use Rattle.std.proofs.Common.{◌≡◌, length}
use Rattle.dt_lex.specs.Text.{tokens_of}
use Rattle.dt_image.specs.Line.{numbers_of}
use Rattle.dt_image.proofs.Numbers.{with_front}
use Rattle.dt_image.proofs.line.numbers.Given as goal

abbrev pub invariant-loop-token : goal.invariant-loop-token
invariant-loop-token l = with_front l.found (numbers_of (tokens_of l.rest)) ≡ numbers_of (tokens_of l.tokens)

abbrev pub decreases-loop-token : goal.decreases-loop-token
decreases-loop-token l = length (tokens_of l.rest)
