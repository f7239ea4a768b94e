use Rattle.std.proofs.Common.{sym}
use Rattle.dt_model.specs.Accepted.{accepted_data}
use Rattle.dt_image.proofs.Entries.{draft_kept}
use Rattle.dt_image.proofs.read.ImageReaderReader.add.Goals as goal

pub returns-in_ok-add-in-Ok-clause-valid : goal.returns-in_ok-add-in-Ok-clause-valid
returns-in_ok-add-in-Ok-clause-valid c =
    draft_kept (accepted_data c.args.self.now.model.now) c.args.number c.args.draft.now c.add.new.self c.in_ok-line.line c.in-Ok.entry c.requires (sym c.in-Ok.ensures) c.in_ok-add-in-Ok.ensures
