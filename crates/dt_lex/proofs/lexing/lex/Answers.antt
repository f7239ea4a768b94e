use Rattle.std.proofs.Common.{◌+◌, length, drop, refl, sym, ap, arith}
use Rattle.dt_lex.specs.Text.{lines_of}
use Rattle.dt_lex.specs.Spans.{tokens_in, lexed_from}
use Rattle.dt_lex.proofs.Cuts.{length-lines_of-le, lines_past}
use Rattle.dt_lex.proofs.Spanned.{line_from, lex_start, lex_more, lex_stop, lex_end, in_order_wider}
use Rattle.dt_lemmas.proofs.Lists.{slice_width}
use Rattle.dt_lex.proofs.Located.{lines_more, lines_end}
use Rattle.dt_lex.proofs.lexing.lex.Goals as goal

pub loop-from-init : goal.loop-from-init
loop-from-init c = record { in_order = rw c.new-tokens.ensures.items (omega arith); counted = omega arith; so_far = rw c.new-tokens.ensures.items (lex_start (lexed_from 1 (lines_of c.args.bytes.now))); spans = rw c.new-tokens.ensures.items refl }

pub overflow_add-lines : goal.overflow_add-lines
overflow_add-lines c =
    let cut = line_from c.args.bytes.now c.loop-from.from c.line_len.result (c.loop-from.from + c.line_len.result) c.loop-from-test.true c.line_len.ensures.value refl in
    omega (arith, length-lines_of-le c.args.bytes.now, ap length cut)

pub returns-in-Some-clause-lexed : goal.returns-in-Some-clause-lexed
returns-in-Some-clause-lexed c =
    let cut = line_from c.args.bytes.now c.loop-from.from c.line_len.result (c.loop-from.from + c.line_len.result) c.loop-from-test.true c.line_len.ensures.value refl in
    lex_stop c.args.bytes.now (tokens_in c.args.bytes.now c.loop-from.tokens.items) (c.loop-from.lines + 1) c.in-Some.fault _ _ _ cut (sym c.in-Some.ensures) c.loop-from.invariant.so_far

pub loop-from-preserved : goal.loop-from-preserved
loop-from-preserved c =
    let cut = line_from c.args.bytes.now c.loop-from.from c.line_len.result (c.loop-from.from + c.line_len.result) c.loop-from-test.true c.line_len.ensures.value refl in
    record {
      in_order = in_order_wider c.push_tokens.new.tokens.items 0 (c.loop-from.from + c.line_len.result) _ c.in_ok-push_tokens.ensures.in_order (omega arith);
      counted = omega (arith, ap length cut);
      so_far = lex_more (tokens_in c.args.bytes.now c.loop-from.tokens.items) _ (c.loop-from.lines + 1) _ _ _ _ cut (sym c.in_default.ensures) c.in_ok-push_tokens.ensures.pushed c.loop-from.invariant.so_far;
      spans = lines_more c.loop-from.tokens.items _ (c.loop-from.lines + 1) c.loop-from.from _ _ _ _ _ cut (slice_width c.args.bytes.now c.loop-from.from _ (omega arith) (omega arith)) c.in_ok-push_tokens.ensures.spans c.loop-from.invariant.spans;
    }

pub returns-clause-lexed : goal.returns-clause-lexed
returns-clause-lexed c =
    lex_end c.args.bytes.now (tokens_in c.args.bytes.now c.loop-from.tokens.items) (c.loop-from.lines + 1) c.loop-from.lines (lines_of (drop c.loop-from.from c.args.bytes.now)) (lines_past c.loop-from.from c.args.bytes.now c.loop-from-test.false) c.loop-from.invariant.counted c.loop-from.invariant.so_far

pub returns-clause-spans : goal.returns-clause-spans
returns-clause-spans c =
    lines_end c.loop-from.tokens.items (c.loop-from.lines + 1) c.loop-from.from (lines_of (drop c.loop-from.from c.args.bytes.now)) _ (lines_past c.loop-from.from c.args.bytes.now c.loop-from-test.false) c.loop-from.invariant.spans
