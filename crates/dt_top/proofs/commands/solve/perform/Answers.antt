use Rattle.std.proofs.Common.{[]}
use Rattle.dt_model.specs.Accepted.{accepted_data}
use Rattle.dt_top.specs.Models.{model_asked}
use Rattle.dt_top.specs.commands.Solve.{SolvingList}
use Rattle.dt_top.proofs.Ended.{ends_still}
use Rattle.dt_top.proofs.Commanded.{ends_both, ends_neither}
use Rattle.dt_top.proofs.commands.solve.perform.Goals as goal

pub returns-in-Ok-clause-ends : goal.returns-in-Ok-clause-ends
returns-in-Ok-clause-ends g c =
    let q = c.in-Ok.question in
    ends_both g.S.Shelf.told g.S.Shelf.faults g.S.Shelf.taken g.S.Shelf.asked g.S.Shelf.steady c.args.shelf.now c.model_and_list.new.shelf c.model_and_list.new.shelf c.model_and_list.ensures.shelf
    (model_asked c.args.job.model) c.args.job.requests.now (accepted_data q.model) q.list c.in-Ok.ensures.both [] (SolvingList c.args.job.splits) _ _
    (ends_still g.S.Shelf.told g.S.Shelf.faults g.S.Shelf.taken g.S.Shelf.asked g.S.Shelf.steady c.model_and_list.new.shelf [] (SolvingList c.args.job.splits (accepted_data q.model) q.list) _ _ c.solve_reply.ensures)

pub returns-in-Err-clause-ends : goal.returns-in-Err-clause-ends
returns-in-Err-clause-ends g c =
    ends_neither g.S.Shelf.told g.S.Shelf.faults g.S.Shelf.taken g.S.Shelf.asked g.S.Shelf.steady c.args.shelf.now c.model_and_list.new.shelf (model_asked c.args.job.model) c.args.job.requests.now [] (SolvingList c.args.job.splits) _ _ c.in-Err.ensures.refused
