use Rattle.std.proofs.Common.{sym, ◌∙◌, arith}
use Rattle.dt_lex.proofs.Located.{located_comment, located_blank, located_paren, located_word, located_end}
use Rattle.dt_lex.proofs.Places.{blank_at}
use Rattle.dt_lex.proofs.text.first_token.Goals as goal

pub returns-then-b-eq35-clause-span : goal.returns-then-b-eq35-clause-span
returns-then-b-eq35-clause-span c = λ start. sym (c.loop-i.invariant.left start) ∙ located_comment c.args.line.now c.loop-i.i start c.if-b-eq35.true

pub returns-then-is_paren-clause-span : goal.returns-then-is_paren-clause-span
returns-then-is_paren-clause-span c = λ start. sym (c.loop-i.invariant.left start) ∙ located_paren c.args.line.now c.loop-i.i start (sym c.if-is_paren.ensures)

pub returns-then-not-is_blank-clause-span : goal.returns-then-not-is_blank-clause-span
returns-then-not-is_blank-clause-span c = λ start.
    sym (c.loop-i.invariant.left start)
    ∙ located_word c.args.line.now c.loop-i.i c.word_len.result start c.loop-i-test.true c.if-b-eq35.false (sym c.if-is_paren.ensures) (sym c.if-not-is_blank.ensures) c.word_len.ensures.value

pub loop-i-preserved : goal.loop-i-preserved
loop-i-preserved c = record {
  in_range = omega arith;
  skipped = sym (blank_at c.args.line.now c.loop-i.i c.loop-i-test.true (sym c.if-not-is_blank.ensures)) ∙ c.loop-i.invariant.skipped;
  left = λ start. sym (located_blank c.args.line.now c.loop-i.i start c.loop-i-test.true (sym c.if-not-is_blank.ensures)) ∙ c.loop-i.invariant.left start;
}

pub returns-clause-span : goal.returns-clause-span
returns-clause-span c = λ start. sym (c.loop-i.invariant.left start) ∙ located_end c.args.line.now c.loop-i.i start (omega arith)
