use Rattle.std.proofs.lemmas.Result.{err_from_is_err_and}
use Rattle.dt_model.specs.Accepted.{accepted_data}
use Rattle.dt_top.specs.Models.{model_asked}
use Rattle.dt_top.proofs.Commanded.{ends_model, ends_list, took_both}
use Rattle.dt_top.proofs.reading.model_and_list.Goals as goal

pub returns-in_err-model-clause-refused : goal.returns-in_err-model-clause-refused
returns-in_err-model-clause-refused g c =
    let p = err_from_is_err_and c.from_residual.result c.from_residual.ensures.1 in
    rw (p.1, p.2)
    (ends_model g.S.Shelf.told g.S.Shelf.faults g.S.Shelf.taken g.S.Shelf.asked g.S.Shelf.steady c.args.shelf.now c.model_of.new.shelf (model_asked c.args.model) c.args.requests.now _ _ c.in_err-model.ensures.refused)

pub returns-in_err-list-clause-refused : goal.returns-in_err-list-clause-refused
returns-in_err-list-clause-refused g c =
    let p = err_from_is_err_and c.from_residual-in_err-list.result c.from_residual-in_err-list.ensures.1 in
    rw (p.1, p.2)
    (ends_list g.S.Shelf.told g.S.Shelf.faults g.S.Shelf.taken g.S.Shelf.asked g.S.Shelf.steady c.args.shelf.now c.model_of.new.shelf c.list_file.new.shelf c.model_of.ensures.shelf (model_asked c.args.model) c.args.requests.now (accepted_data c.in_ok-model.model) c.in_ok-model.ensures.model _ _ c.in_err-list.ensures.refused)

pub returns-clause-both : goal.returns-clause-both
returns-clause-both g c =
    let l = c.in_ok-list.ensures.text in
    took_both g.S.Shelf.told g.S.Shelf.faults g.S.Shelf.taken g.S.Shelf.asked g.S.Shelf.steady c.args.shelf.now c.model_of.new.shelf c.list_file.new.shelf c.model_of.ensures.shelf (model_asked c.args.model) c.args.requests.now l.0 (accepted_data c.in_ok-model.model) c.in_ok-list.list c.in_ok-model.ensures.model l.1 l.2
