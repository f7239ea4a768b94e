use Rattle.std.proofs.Common.{[]}
use Rattle.dt_model.specs.Accepted.{accepted_data}
use Rattle.dt_top.specs.Course.{Never}
use Rattle.dt_top.specs.Models.{shipped, OnModelWord}
use Rattle.dt_top.proofs.Commanded.{took_shipped, ends_want}
use Rattle.dt_top.proofs.reading.shipped_model.Goals as goal

pub returns-in-Ok-clause-model : goal.returns-in-Ok-clause-model
returns-in-Ok-clause-model g c =
    took_shipped g.S.Shelf.told g.S.Shelf.faults g.S.Shelf.taken g.S.Shelf.asked g.S.Shelf.steady c.args._shelf.now c.args.model (accepted_data c.in-Ok.accepted) c.in-Ok.ensures

pub returns-in-Err-clause-refused : goal.returns-in-Err-clause-refused
returns-in-Err-clause-refused g c =
    ends_want g.S.Shelf.told g.S.Shelf.faults g.S.Shelf.taken g.S.Shelf.asked g.S.Shelf.steady c.args._shelf.now [] (OnModelWord (shipped c.args.model) (λ d. Never)) c.no_memory.result c.no_memory.ensures
