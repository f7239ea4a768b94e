use Rattle.std.proofs.Common.{◌≡◌, take}
use Rattle.dt_build.specs.Building.{of_choices}
use Rattle.dt_build.proofs.builder.problem_of.Given as goal

abbrev pub invariant-loop-width : goal.invariant-loop-width
invariant-loop-width l = l.problem ≡ of_choices (take l.width-index l.choices)
