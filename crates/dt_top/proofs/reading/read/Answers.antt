use Rattle.std.proofs.Common.{◌∷◌, [], refl, ◌∙◌}
use Rattle.dt_top.specs.Course.{OnFile, Never}
use Rattle.dt_top.specs.Lines.{read_fault_line, too_long_line}
use Rattle.dt_top.specs.Replies.{bytes_of}
use Rattle.dt_top.specs.Seen.{seen}
use Rattle.dt_top.specs.Table.{in_call}
use Rattle.dt_top.specs.declared.status.Status.TheVariants as status
use Rattle.dt_top.proofs.Ended.{ends_as, not_failed}
use Rattle.dt_top.proofs.reading.read.Goals as goal

pub returns-in-Err-Failed-clause-unread : goal.returns-in-Err-Failed-clause-unread
returns-in-Err-Failed-clause-unread g c =
    ends_as (in_call (seen g.S.Shelf.told g.S.Shelf.faults g.S.Shelf.taken g.S.Shelf.asked c.args.shelf.now c.read_all.new.self) (c.args.name.now ∷ [])) (OnFile c.args.file c.args.name.now (λ bytes. Never))
    status.ReadFault c.line.result.status (read_fault_line c.args.file) (bytes_of c.line.result.text) c.line.ensures.status (c.line.ensures.text ∙ c.read_fault_line.ensures)
    ([], c.args.file, c.args.name.now, refl, (tt, c.in-Err-Failed.ensures.asked, c.in-Err-Failed.ensures.failed (cc c.in-Err-Failed.is)), refl)

pub returns-in-Err-TooLong-clause-unread : goal.returns-in-Err-TooLong-clause-unread
returns-in-Err-TooLong-clause-unread g c =
    ends_as (in_call (seen g.S.Shelf.told g.S.Shelf.faults g.S.Shelf.taken g.S.Shelf.asked c.args.shelf.now c.read_all.new.self) (c.args.name.now ∷ [])) (OnFile c.args.file c.args.name.now (λ bytes. Never))
    status.TooLong c.line-in-Err-TooLong.result.status (too_long_line c.args.file) (bytes_of c.line-in-Err-TooLong.result.text)
    c.line-in-Err-TooLong.ensures.status (c.line-in-Err-TooLong.ensures.text ∙ c.too_long_line.ensures) (
      [],
      c.args.file,
      c.args.name.now,
      refl,
      (
        tt,
        c.in-Err-TooLong.ensures.asked,
        (rw c.limit.ensures.value at (c.in-Err-TooLong.ensures.long (cc c.in-Err-TooLong.is)), rw c.limit.ensures.value at (c.in-Err-TooLong.ensures.long_taken (cc c.in-Err-TooLong.is))),
        c.in-Err-TooLong.ensures.quiet (λ e. not_failed _ (cc c.in-Err-TooLong.is) e),
      ),
      refl,
    )
