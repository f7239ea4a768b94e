use Rattle.std.proofs.Common.{◌≡◌, ◌≤◌, length}
use Rattle.dt_lex.specs.Text.{tokens_of}
use Rattle.dt_modeltext.specs.Depth.{opens_above}
use Rattle.dt_modeltext.proofs.depth.opens_too_many.Given as goal

abbrev pub invariant-loop-token : goal.invariant-loop-token
invariant-loop-token l = record {
  few : l.count ≤ 32;
  so_far : opens_above 32 l.count (tokens_of l.rest) ≡ opens_above 32 l.before (tokens_of l.tokens);
}

abbrev pub decreases-loop-token : goal.decreases-loop-token
decreases-loop-token l = length (tokens_of l.rest)
