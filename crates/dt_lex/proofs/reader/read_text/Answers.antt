use Rattle.std.proofs.Common.{arith}
use Rattle.std.proofs.lemmas.Result.{err_from_is_err_and}
use Rattle.dt_lex.proofs.Loop.{reads_more, reads_count, reads_stop, reads_end, gives_along}
use Rattle.dt_lex.proofs.reader.read_text.Goals as goal

pub overflow_add-number : goal.overflow_add-number
overflow_add-number g c =
    omega (arith, reads_count (g.R.Reader.grammar c.args.reader.now) g.R.Reader.added c.args.text.now c.loop-line.number (g.R.Reader.declared_by c.loop-line.draft) c.in-Some.line.now c.loop-line.rest.now c.in-Some.after.now c.in-Some.ensures.cut c.loop-line.invariant.reads)

pub loop-line-preserved : goal.loop-line-preserved
loop-line-preserved g c = record {
  reads = reads_more (g.R.Reader.grammar c.args.reader.now) g.R.Reader.added c.args.text.now c.loop-line.number (g.R.Reader.declared_by c.loop-line.draft) (g.R.Reader.declared_by c.add_line.new.draft) c.in-Some.line.now c.loop-line.rest.now c.in-Some.after.now c.in-Some.ensures.cut c.in_ok-add_line.ensures.added c.loop-line.invariant.reads;
  valid = c.in_ok-add_line.ensures.valid;
}

pub returns-in_err-add_line-clause-value : goal.returns-in_err-add_line-clause-value
returns-in_err-add_line-clause-value g c =
    let p = err_from_is_err_and c.from_residual.result c.from_residual.ensures.1 in
    rw (p.1, p.2) (reads_stop (g.R.Reader.is_memory c.in_err-add_line.field-0.0) (g.R.Reader.grammar c.args.reader.now) g.R.Reader.added (g.R.Reader.finished c.args.reader.now) c.args.text.now c.loop-line.number (g.R.Reader.declared_by c.loop-line.draft) c.in_err-add_line.field-0.0 c.in-Some.line.now c.loop-line.rest.now c.in-Some.after.now (g.met.R.Reader.adds_up c.args.reader.now) c.in-Some.ensures.cut c.loop-line.invariant.reads c.in_err-add_line.ensures.added)

pub returns-clause-value : goal.returns-clause-value
returns-clause-value g c =
    gives_along g.R.Reader.is_memory g.R.Reader.meaning_of c.finish.result _ _ (reads_end (g.R.Reader.grammar c.args.reader.now) g.R.Reader.added (g.R.Reader.finished c.args.reader.now) c.args.text.now c.loop-line.number (g.R.Reader.declared_by c.loop-line.draft) c.loop-line.rest.now (g.met.R.Reader.adds_up c.args.reader.now) c.in_default.ensures.cut c.loop-line.invariant.reads) c.finish.ensures.value
