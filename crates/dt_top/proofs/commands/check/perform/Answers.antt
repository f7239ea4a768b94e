use Rattle.std.proofs.Common.{◌∷◌, []}
use Rattle.dt_model.specs.Accepted.{accepted_data}
use Rattle.dt_top.specs.Models.{model_asked}
use Rattle.dt_top.specs.commands.Check.{CheckingList}
use Rattle.dt_top.proofs.Commanded.{ends_both, ends_neither}
use Rattle.dt_top.proofs.commands.check.perform.Goals as goal

pub returns-in-Ok-clause-ends : goal.returns-in-Ok-clause-ends
returns-in-Ok-clause-ends g c =
    let q = c.in-Ok.question in
    ends_both g.S.Shelf.told g.S.Shelf.faults g.S.Shelf.taken g.S.Shelf.asked g.S.Shelf.steady c.args.shelf.now c.model_and_list.new.shelf c.check_list.new.shelf c.model_and_list.ensures.shelf
    (model_asked c.args.job.model) c.args.job.requests.now (accepted_data q.model) q.list c.in-Ok.ensures.both (c.args.job.log.now ∷ [])
    (CheckingList c.args.job.log.now) _ _ c.check_list.ensures.ends

pub returns-in-Err-clause-ends : goal.returns-in-Err-clause-ends
returns-in-Err-clause-ends g c =
    ends_neither g.S.Shelf.told g.S.Shelf.faults g.S.Shelf.taken g.S.Shelf.asked g.S.Shelf.steady c.args.shelf.now c.model_and_list.new.shelf (model_asked c.args.job.model) c.args.job.requests.now (c.args.job.log.now ∷ [])
    (CheckingList c.args.job.log.now) _ _ c.in-Err.ensures.refused
