use Rattle.std.proofs.Common.{◌∷◌, [], subst}
use Rattle.dt_model.specs.ModelData.{ModelData}
use Rattle.dt_top.specs.Course.{OnFile}
use Rattle.dt_top.specs.Replies.{bytes_of}
use Rattle.dt_top.specs.Seen.{seen}
use Rattle.dt_top.specs.Table.{Ends, in_call}
use Rattle.dt_top.specs.commands.Walk.{walk_asked, Walking, WalkingBytes}
use Rattle.dt_top.specs.declared.file.File.TheVariants as file
use Rattle.dt_top.proofs.Commanded.{ends_want}
use Rattle.dt_top.proofs.commands.walk.perform.Goals as goal

pub returns-in-Ok-clause-ends : goal.returns-in-Ok-clause-ends
returns-in-Ok-clause-ends g c =
    subst (λ (d : ModelData). Ends (in_call (seen g.S.Shelf.told g.S.Shelf.faults g.S.Shelf.taken g.S.Shelf.asked c.args.shelf.now c.walk_image.new.shelf) (c.args.job.image.now ∷ [])) (OnFile file.Image c.args.job.image.now (WalkingBytes d)) c.walk_image.result.status (bytes_of c.walk_image.result.text))
    c.in-Ok.ensures c.walk_image.ensures.ends

pub returns-in-Err-clause-ends : goal.returns-in-Err-clause-ends
returns-in-Err-clause-ends g c =
    ends_want g.S.Shelf.told g.S.Shelf.faults g.S.Shelf.taken g.S.Shelf.asked g.S.Shelf.steady c.args.shelf.now (c.args.job.image.now ∷ []) (Walking (walk_asked c.args.job)) c.no_memory.result c.no_memory.ensures
