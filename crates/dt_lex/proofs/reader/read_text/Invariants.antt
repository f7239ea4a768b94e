use Rattle.std.proofs.Common.{length}
use Rattle.dt_lex.proofs.Loop.{ReadsOn}
use Rattle.dt_lex.proofs.reader.read_text.Given as goal

abbrev pub invariant-loop-line : goal.invariant-loop-line
invariant-loop-line g l = record {
  reads : ReadsOn (g.R.Reader.grammar l.reader) g.R.Reader.added l.text l.number (g.R.Reader.declared_by l.draft) l.rest;
  valid : g.R.Reader.valid l.reader l.number l.draft;
}

abbrev pub decreases-loop-line : goal.decreases-loop-line
decreases-loop-line g l = length l.rest
