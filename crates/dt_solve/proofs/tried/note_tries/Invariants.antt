use Rattle.std.proofs.Common.{◌≡◌, ◌++◌, drop}
use Rattle.dt_check.specs.Trials.{picks}
use Rattle.dt_solve.specs.Tries.{tries_from}
use Rattle.dt_solve.proofs.tried.note_tries.Given as goal

abbrev pub invariant-loop-choice : goal.invariant-loop-choice
invariant-loop-choice g l =
    let all = picks g.D.Domain.ops l.problem.terms l.cells in
    l.pairs.items ++ tries_from l.choice (drop l.choice all) (drop l.choice l.numbers) ≡ tries_from 0 all l.numbers
