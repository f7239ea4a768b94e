use Rattle.std.proofs.Common.{subst}
use Rattle.std.specs.Prelude.{List, ℕ}
use Rattle.dt_model.specs.Accepted.{accepted_data}
use Rattle.dt_modeltext.specs.Read.{IsModelText}
use Rattle.dt_top.specs.Course.{Never}
use Rattle.dt_top.specs.Replies.{bytes_of}
use Rattle.dt_top.specs.Stages.{OnModel}
use Rattle.dt_top.specs.declared.file.File.TheVariants as file
use Rattle.dt_top.proofs.Ended.{if_ok, if_err}
use Rattle.dt_top.proofs.Commanded.{ends_reply, took_file}
use Rattle.dt_top.proofs.reading.model_file.Goals as goal

pub returns-clause-refused : goal.returns-clause-refused
returns-clause-refused g c =
    if_err c.accepted_model.result
    (λ reply r. ends_reply g.S.Shelf.told g.S.Shelf.faults g.S.Shelf.taken g.S.Shelf.asked g.S.Shelf.steady c.args.shelf.now c.read.new.shelf c.read.ensures.shelf file.Model c.args.name.now c.in_ok-bytes.bytes.items c.in_ok-bytes.ensures.took
    (λ bytes. OnModel bytes (λ d. Never)) reply.status (bytes_of reply.text) (rw c.as_slice.ensures.value at r)) c.accepted_model.ensures.refused

pub returns-clause-model : goal.returns-clause-model
returns-clause-model g c =
    if_ok c.accepted_model.result
    (λ model t. took_file g.S.Shelf.told g.S.Shelf.faults g.S.Shelf.taken g.S.Shelf.asked g.S.Shelf.steady c.args.shelf.now c.read.new.shelf c.args.name.now (accepted_data model)
    (c.in_ok-bytes.bytes.items, c.in_ok-bytes.ensures.took, subst (λ (b : List ℕ). IsModelText b (accepted_data model)) c.as_slice.ensures.value t)) c.accepted_model.ensures.model
