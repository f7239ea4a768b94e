use Rattle.dt_model.specs.Accepted.{accepted_data}
use Rattle.dt_request.specs.Draft.{declared_by}
use Rattle.dt_request.proofs.Entries.{list_starts}
use Rattle.dt_request.proofs.read.ListReaderReader.start.Goals as goal

pub returns-clause-valid : goal.returns-clause-valid
returns-clause-valid c = record { list = list_starts (accepted_data c.args.self.now.known.model.now) (declared_by c.new.result) c.new.ensures.value; indexed = c.new.ensures.indexed }
