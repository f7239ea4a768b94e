use Rattle.std.proofs.Common.{◌∷◌, []}
use Rattle.dt_model.specs.Accepted.{accepted_data}
use Rattle.dt_top.specs.Seen.{seen}
use Rattle.dt_top.specs.Table.{in_call}
use Rattle.dt_top.specs.commands.Check.{CheckingList}
use Rattle.dt_top.proofs.Ended.{ends_still}
use Rattle.dt_top.proofs.Commanded.{ends_within, replies_no_problem}
use Rattle.dt_top.proofs.commands.check.check_list.Goals as goal

pub returns-in-Ok-clause-ends : goal.returns-in-Ok-clause-ends
returns-in-Ok-clause-ends g c =
    ends_within (in_call (seen g.S.Shelf.told g.S.Shelf.faults g.S.Shelf.taken g.S.Shelf.asked c.args.shelf.now c.check_file.new.shelf) (c.args.name.now ∷ [])) c.args.name.now
    (accepted_data c.args.model.now) c.args.list.now c.in-Ok.problem c.in-Ok.ensures.within c.in-Ok.ensures.problem _ _ c.check_file.ensures.ends

pub returns-in-Err-clause-ends : goal.returns-in-Err-clause-ends
returns-in-Err-clause-ends g c =
    ends_still g.S.Shelf.told g.S.Shelf.faults g.S.Shelf.taken g.S.Shelf.asked g.S.Shelf.steady c.args.shelf.now (c.args.name.now ∷ []) (CheckingList c.args.name.now (accepted_data c.args.model.now) c.args.list.now) _ _
    (replies_no_problem c.args.name.now (accepted_data c.args.model.now) c.args.list.now _ _ c.in-Err.ensures.refused)
