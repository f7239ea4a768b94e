use Rattle.dt_top.specs.commands.Check.{CheckingBytes}
use Rattle.dt_top.specs.declared.file.File.TheVariants as file
use Rattle.dt_top.proofs.Commanded.{ends_reply}
use Rattle.dt_top.proofs.commands.check.check_file.Goals as goal

pub returns-in-Ok-clause-ends : goal.returns-in-Ok-clause-ends
returns-in-Ok-clause-ends g c =
    ends_reply g.S.Shelf.told g.S.Shelf.faults g.S.Shelf.taken g.S.Shelf.asked g.S.Shelf.steady c.args.shelf.now c.read.new.shelf c.read.ensures.shelf file.Log c.args.name.now c.in-Ok.bytes.items c.in-Ok.ensures.took
    (CheckingBytes c.args.problem.now) _ _ (rw c.as_slice.ensures.value at c.log_reply.ensures)
