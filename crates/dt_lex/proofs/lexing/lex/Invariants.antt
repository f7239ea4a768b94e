use Rattle.std.proofs.Common.{◌≡◌, ◌+◌, ◌++◌, ◌-◌, min, length, drop}
use Rattle.dt_lex.specs.Text.{lines_of}
use Rattle.dt_lex.specs.Spans.{tokens_in, lexed_from, tokens_from, all_tokens, AreInOrder}
use Rattle.dt_lex.proofs.Spanned.{with_front}
use Rattle.dt_lex.proofs.lexing.lex.Given as goal

abbrev pub invariant-loop-from : goal.invariant-loop-from
invariant-loop-from l = record {
  in_order : AreInOrder 0 (min l.from (length l.bytes)) l.tokens.items;
  counted : l.lines + length (lines_of (drop l.from l.bytes)) ≡ length (lines_of l.bytes);
  so_far : with_front (tokens_in l.bytes l.tokens.items) (lexed_from (l.lines + 1) (lines_of (drop l.from l.bytes))) ≡ lexed_from 1 (lines_of l.bytes);
  spans : l.tokens.items ++ tokens_from l.from (l.lines + 1) (lines_of (drop l.from l.bytes)) ≡ all_tokens l.bytes;
}

abbrev pub decreases-loop-from : goal.decreases-loop-from
decreases-loop-from l = length l.bytes - l.from
