use Rattle.std.proofs.Common.{◌≡◌, drop}
use Rattle.dt_edge.specs.Files.{file_of}
use Rattle.dt_edge.proofs.memory_shelf.bytes_named.Given as goal

abbrev pub invariant-loop-file : goal.invariant-loop-file
invariant-loop-file l = file_of l.files l.name ≡ file_of (drop l.file-index l.files) l.name
