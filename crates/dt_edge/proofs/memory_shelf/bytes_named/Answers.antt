use Rattle.std.proofs.Common.{arith}
use Rattle.std.proofs.lemmas.Grind.{common_steps}
use Rattle.std.proofs.lemmas.List.{at_drop_more}
use Rattle.dt_edge.specs.Files.{file_of}
use Rattle.dt_edge.proofs.memory_shelf.bytes_named.Goals as goal

pub returns-then-eq : goal.returns-then-eq
returns-then-eq c = grind (arith, common_steps, at_drop_more (λ files. file_of files c.args.name.now) c.args.files.now c.loop-file.file-index c.file-item.result)
