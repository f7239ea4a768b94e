use Rattle.std.proofs.Common.{◌≡◌, ◌++◌}
use Rattle.dt_encode.specs.Telling.{valued}
use Rattle.dt_encode.proofs.MadeReads.{left_told}
use Rattle.dt_encode.proofs.reads.push_reads.Given as goal

abbrev pub invariant-loop-i : goal.invariant-loop-i
invariant-loop-i l = l.initial.reads.items ++ left_told (valued l.values) l.nodes l.outs 0 ≡ l.reads.items ++ left_told (valued l.values) l.nodes l.outs l.i
