use Rattle.std.proofs.Common.{map, rules, inr, refl, ◌∙◌}
use Rattle.std.specs.String.{string_bytes}
use Rattle.dt_top.specs.Replies.{bytes_of}
use Rattle.dt_top.specs.Seen.{seen}
use Rattle.dt_top.specs.commands.Jobs.{job_of}
use Rattle.dt_top.specs.declared.status.Status.TheVariants as status
use Rattle.dt_top.proofs.Exact.{comes_exactly, comes_among, answers_well, decides, checked_well, agrees_well, judge_fixed, walk_fixed, expected_yes, expected_unmet, expected_walks, prints_exactly, makes_exactly, loads_well, row_quiet, row_memory, row_unwritten, row_words_only}
use Rattle.dt_top.proofs.program.run.Goals as goal

pub returns-clause-reads : goal.returns-clause-reads
returns-clause-reads g c = λ a b.
    row_quiet (seen g.S.Shelf.told g.S.Shelf.faults g.S.Shelf.taken g.S.Shelf.asked c.args.shelf.now c.reply-reply.new.shelf) (job_of (map string_bytes c.args.words.now))
    c.reply-reply.result.status (bytes_of c.reply-reply.result.text) a c.reply-reply.ensures.row

pub returns-clause-among : goal.returns-clause-among
returns-clause-among g c = λ files told quiet.
    comes_among (seen g.S.Shelf.told g.S.Shelf.faults g.S.Shelf.taken g.S.Shelf.asked c.args.shelf.now c.reply-reply.new.shelf) files told quiet (map string_bytes c.args.words.now)
    c.reply-reply.result.status (g.K.Sink.written c.args.sink.now) (g.K.Sink.written c.write_pieces.new.sink) (g.K.Sink.pieces c.args.sink.now) (g.K.Sink.pieces c.write_pieces.new.sink)
    (λ n. (bytes_of c.reply-reply.result.text, c.reply-reply.ensures.row, search rules, search rules))

pub returns-clause-exact : goal.returns-clause-exact
returns-clause-exact g c = λ files told quiet due want fixed d.
    comes_exactly (seen g.S.Shelf.told g.S.Shelf.faults g.S.Shelf.taken g.S.Shelf.asked c.args.shelf.now c.reply-reply.new.shelf) files told quiet (map string_bytes c.args.words.now)
    c.reply-reply.result.status (g.K.Sink.written c.args.sink.now) (g.K.Sink.written c.write_pieces.new.sink) (g.K.Sink.pieces c.args.sink.now) (g.K.Sink.pieces c.write_pieces.new.sink)
    (λ n. (bytes_of c.reply-reply.result.text, c.reply-reply.ensures.row, search rules, search rules)) due want fixed d

pub returns-clause-headline : goal.returns-clause-headline
returns-clause-headline g c = λ files d list splits told quiet asked.
    answers_well (map string_bytes c.args.words.now) files d list splits asked c.reply-reply.result.status (g.K.Sink.written c.args.sink.now) (g.K.Sink.written c.write_pieces.new.sink)
    (comes_among (seen g.S.Shelf.told g.S.Shelf.faults g.S.Shelf.taken g.S.Shelf.asked c.args.shelf.now c.reply-reply.new.shelf) files told quiet (map string_bytes c.args.words.now)
    c.reply-reply.result.status (g.K.Sink.written c.args.sink.now) (g.K.Sink.written c.write_pieces.new.sink) (g.K.Sink.pieces c.args.sink.now) (g.K.Sink.pieces c.write_pieces.new.sink)
    (λ n. (bytes_of c.reply-reply.result.text, c.reply-reply.ensures.row, search rules, search rules)))

pub returns-in_default-clause-headline : goal.returns-in_default-clause-headline
returns-in_default-clause-headline g c = λ files d list splits told quiet asked. tt

pub returns-clause-decision : goal.returns-clause-decision
returns-clause-decision g c = λ files d list splits told quiet asked enough.
    decides d list splits c.reply-reply.result.status (g.K.Sink.written c.args.sink.now) (g.K.Sink.written c.write_pieces.new.sink) enough
    (answers_well (map string_bytes c.args.words.now) files d list splits asked c.reply-reply.result.status (g.K.Sink.written c.args.sink.now) (g.K.Sink.written c.write_pieces.new.sink)
    (comes_among (seen g.S.Shelf.told g.S.Shelf.faults g.S.Shelf.taken g.S.Shelf.asked c.args.shelf.now c.reply-reply.new.shelf) files told quiet (map string_bytes c.args.words.now)
    c.reply-reply.result.status (g.K.Sink.written c.args.sink.now) (g.K.Sink.written c.write_pieces.new.sink) (g.K.Sink.pieces c.args.sink.now) (g.K.Sink.pieces c.write_pieces.new.sink)
    (λ n. (bytes_of c.reply-reply.result.text, c.reply-reply.ensures.row, search rules, search rules))))

pub returns-in_default-clause-decision : goal.returns-in_default-clause-decision
returns-in_default-clause-decision g c = λ files d list splits told quiet asked enough. decides d list splits status.WriteFault (g.K.Sink.written c.args.sink.now) (g.K.Sink.written c.write_pieces.new.sink) enough tt

pub returns-clause-checks : goal.returns-clause-checks
returns-clause-checks g c = λ files d list text log told quiet asked reads.
    checked_well (map string_bytes c.args.words.now) files d list text log asked reads c.reply-reply.result.status (g.K.Sink.written c.args.sink.now) (g.K.Sink.written c.write_pieces.new.sink)
    (λ due want fixed e. comes_exactly (seen g.S.Shelf.told g.S.Shelf.faults g.S.Shelf.taken g.S.Shelf.asked c.args.shelf.now c.reply-reply.new.shelf) files told quiet (map string_bytes c.args.words.now)
    c.reply-reply.result.status (g.K.Sink.written c.args.sink.now) (g.K.Sink.written c.write_pieces.new.sink) (g.K.Sink.pieces c.args.sink.now) (g.K.Sink.pieces c.write_pieces.new.sink)
    (λ n. (bytes_of c.reply-reply.result.text, c.reply-reply.ensures.row, search rules, search rules)) due want fixed e)

pub returns-in_default-clause-checks : goal.returns-in_default-clause-checks
returns-in_default-clause-checks g c = λ files d list text log told quiet asked reads.
    checked_well (map string_bytes c.args.words.now) files d list text log asked reads status.WriteFault (g.K.Sink.written c.args.sink.now) (g.K.Sink.written c.write_pieces.new.sink)
    (λ due want fixed e. inr (inr refl))

pub returns-clause-agrees : goal.returns-clause-agrees
returns-clause-agrees g c = λ files d list text told quiet asked.
    agrees_well (map string_bytes c.args.words.now) files d list text asked c.reply-reply.result.status (g.K.Sink.written c.args.sink.now) (g.K.Sink.written c.write_pieces.new.sink)
    (λ due want fixed e. comes_exactly (seen g.S.Shelf.told g.S.Shelf.faults g.S.Shelf.taken g.S.Shelf.asked c.args.shelf.now c.reply-reply.new.shelf) files told quiet (map string_bytes c.args.words.now)
    c.reply-reply.result.status (g.K.Sink.written c.args.sink.now) (g.K.Sink.written c.write_pieces.new.sink) (g.K.Sink.pieces c.args.sink.now) (g.K.Sink.pieces c.write_pieces.new.sink)
    (λ n. (bytes_of c.reply-reply.result.text, c.reply-reply.ensures.row, search rules, search rules)) due want fixed e)

pub returns-in_default-clause-agrees : goal.returns-in_default-clause-agrees
returns-in_default-clause-agrees g c = λ files d list text told quiet asked.
    agrees_well (map string_bytes c.args.words.now) files d list text asked status.WriteFault (g.K.Sink.written c.args.sink.now) (g.K.Sink.written c.write_pieces.new.sink)
    (λ due want fixed e. inr (inr refl))

pub returns-clause-judge : goal.returns-clause-judge
returns-clause-judge g c = λ files d list i told quiet asked.
    let words = map string_bytes c.args.words.now in
    let comes = comes_exactly (seen g.S.Shelf.told g.S.Shelf.faults g.S.Shelf.taken g.S.Shelf.asked c.args.shelf.now c.reply-reply.new.shelf) files told quiet words
    c.reply-reply.result.status (g.K.Sink.written c.args.sink.now) (g.K.Sink.written c.write_pieces.new.sink) (g.K.Sink.pieces c.args.sink.now) (g.K.Sink.pieces c.write_pieces.new.sink)
    (λ n. (bytes_of c.reply-reply.result.text, c.reply-reply.ensures.row, search rules, search rules)) in
    record {
      met = λ z. comes status.Good _ (judge_fixed words files d list i asked status.Good) (expected_yes words files d list i asked z);
      unmet = λ z. let k = expected_unmet words files d list i asked z in (k.0, k.1, comes status.No _ (judge_fixed words files d list i asked status.No) k.2);
    }

pub returns-in_default-clause-judge : goal.returns-in_default-clause-judge
returns-in_default-clause-judge g c = λ files d list i told quiet asked. record {
  met = λ z. inr (inr refl);
  unmet = λ z. let k = expected_unmet (map string_bytes c.args.words.now) files d list i asked z in (k.0, k.1, inr (inr refl));
}

pub returns-clause-walks : goal.returns-clause-walks
returns-clause-walks g c = λ files m i told quiet asked.
    comes_exactly (seen g.S.Shelf.told g.S.Shelf.faults g.S.Shelf.taken g.S.Shelf.asked c.args.shelf.now c.reply-reply.new.shelf) files told quiet (map string_bytes c.args.words.now)
    c.reply-reply.result.status (g.K.Sink.written c.args.sink.now) (g.K.Sink.written c.write_pieces.new.sink) (g.K.Sink.pieces c.args.sink.now) (g.K.Sink.pieces c.write_pieces.new.sink)
    (λ n. (bytes_of c.reply-reply.result.text, c.reply-reply.ensures.row, search rules, search rules)) status.Good _ (walk_fixed (map string_bytes c.args.words.now) files m i asked status.Good) (expected_walks (map string_bytes c.args.words.now) files m i asked)

pub returns-clause-prints : goal.returns-clause-prints
returns-clause-prints g c = λ m asked.
    prints_exactly (seen g.S.Shelf.told g.S.Shelf.faults g.S.Shelf.taken g.S.Shelf.asked c.args.shelf.now c.reply-reply.new.shelf) (map string_bytes c.args.words.now) m asked
    c.reply-reply.result.status (g.K.Sink.written c.args.sink.now) (g.K.Sink.written c.write_pieces.new.sink) (g.K.Sink.pieces c.args.sink.now) (g.K.Sink.pieces c.write_pieces.new.sink)
    (λ n. (bytes_of c.reply-reply.result.text, c.reply-reply.ensures.row, search rules, search rules))

pub returns-clause-makes : goal.returns-clause-makes
returns-clause-makes g c = λ n asked.
    makes_exactly (seen g.S.Shelf.told g.S.Shelf.faults g.S.Shelf.taken g.S.Shelf.asked c.args.shelf.now c.reply-reply.new.shelf) (map string_bytes c.args.words.now) n asked
    c.reply-reply.result.status (g.K.Sink.written c.args.sink.now) (g.K.Sink.written c.write_pieces.new.sink) (g.K.Sink.pieces c.args.sink.now) (g.K.Sink.pieces c.write_pieces.new.sink)
    (λ n. (bytes_of c.reply-reply.result.text, c.reply-reply.ensures.row, search rules, search rules))

pub returns-clause-loads : goal.returns-clause-loads
returns-clause-loads g c = λ n asked.
    loads_well (seen g.S.Shelf.told g.S.Shelf.faults g.S.Shelf.taken g.S.Shelf.asked c.args.shelf.now c.reply-reply.new.shelf) (map string_bytes c.args.words.now) n asked
    c.reply-reply.result.status (g.K.Sink.written c.args.sink.now) (g.K.Sink.written c.write_pieces.new.sink) (g.K.Sink.pieces c.args.sink.now) (g.K.Sink.pieces c.write_pieces.new.sink)
    (λ n. (bytes_of c.reply-reply.result.text, c.reply-reply.ensures.row, search rules, search rules))

pub returns-clause-memory : goal.returns-clause-memory
returns-clause-memory g c = λ e.
    c.write_pieces.ensures.nothing
    (c.as_bytes.ensures ∙ row_memory (seen g.S.Shelf.told g.S.Shelf.faults g.S.Shelf.taken g.S.Shelf.asked c.args.shelf.now c.reply-reply.new.shelf) (job_of (map string_bytes c.args.words.now))
    c.reply-reply.result.status (bytes_of c.reply-reply.result.text) e c.reply-reply.ensures.row)

pub returns-clause-part : goal.returns-clause-part
returns-clause-part g c = λ e. absurd (row_unwritten
    (seen g.S.Shelf.told g.S.Shelf.faults g.S.Shelf.taken g.S.Shelf.asked c.args.shelf.now c.reply-reply.new.shelf) (job_of (map string_bytes c.args.words.now))
    c.reply-reply.result.status (bytes_of c.reply-reply.result.text) e c.reply-reply.ensures.row)

pub returns-clause-write_fault : goal.returns-clause-write_fault
returns-clause-write_fault g c = λ e. absurd (row_unwritten
    (seen g.S.Shelf.told g.S.Shelf.faults g.S.Shelf.taken g.S.Shelf.asked c.args.shelf.now c.reply-reply.new.shelf) (job_of (map string_bytes c.args.words.now))
    c.reply-reply.result.status (bytes_of c.reply-reply.result.text) e c.reply-reply.ensures.row)

pub returns-clause-words_only : goal.returns-clause-words_only
returns-clause-words_only g c = λ e. row_words_only
    (seen g.S.Shelf.told g.S.Shelf.faults g.S.Shelf.taken g.S.Shelf.asked c.args.shelf.now c.reply-reply.new.shelf) (job_of (map string_bytes c.args.words.now))
    c.reply-reply.result.status (bytes_of c.reply-reply.result.text) e c.reply-reply.ensures.row
