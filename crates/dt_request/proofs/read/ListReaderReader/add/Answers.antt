use Rattle.std.proofs.Common.{sym, ap, ◌∙◌}
use Rattle.dt_lex.specs.Text.{tokens_of}
use Rattle.dt_model.specs.Accepted.{accepted_data}
use Rattle.dt_request.specs.Entry.{meaning}
use Rattle.dt_request.specs.Draft.{declared_by}
use Rattle.dt_request.proofs.Entries.{list_kept}
use Rattle.dt_request.proofs.read.ListReaderReader.add.Goals as goal

pub returns-in_ok-add-in-Ok-clause-valid : goal.returns-in_ok-add-in-Ok-clause-valid
returns-in_ok-add-in-Ok-clause-valid c =
    let d = accepted_data c.args.self.now.known.model.now in
    let so = declared_by c.args.draft.now in
    record {
      list = list_kept d so (declared_by c.add.new.self) c.args.word.now (tokens_of c.args.rest.now) c.in-Ok.entry c.requires.list (ap (meaning d so) (sym c.read_line.ensures) ∙ sym c.in-Ok.ensures) c.in_ok-add-in-Ok.ensures.value;
      indexed = c.in_ok-add-in-Ok.ensures.indexed;
    }
