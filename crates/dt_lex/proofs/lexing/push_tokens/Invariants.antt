use Rattle.std.proofs.Common.{◌≡◌, ◌++◌, ◌≤◌, ◌-◌}
use Rattle.std.specs.Prelude.{slice_range}
use Rattle.dt_lex.specs.Text.{tokens_of}
use Rattle.dt_lex.specs.Spans.{numbered, tokens_in, spans_of, on_line, AreInOrder}
use Rattle.dt_lex.proofs.lexing.push_tokens.Given as goal

abbrev pub invariant-loop-start : goal.invariant-loop-start
invariant-loop-start l = record {
  in_range : l.at ≤ l.to;
  in_order : AreInOrder 0 l.at l.tokens.items;
  so_far : tokens_in l.text l.tokens.items ++ numbered l.number (tokens_of (slice_range l.text l.at l.to)) ≡ tokens_in l.text l.fn.tokens.items ++ numbered l.number (tokens_of (slice_range l.text l.from l.to));
  spans : l.tokens.items ++ on_line l.number (spans_of l.at (slice_range l.text l.at l.to)) ≡ l.fn.tokens.items ++ on_line l.number (spans_of l.from (slice_range l.text l.from l.to));
}

abbrev pub decreases-loop-start : goal.decreases-loop-start
decreases-loop-start l = l.to - l.at
