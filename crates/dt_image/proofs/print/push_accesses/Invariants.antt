use Rattle.std.proofs.Common.{◌≡◌, ◌++◌, take}
use Rattle.std.specs.Prelude.{map}
use Rattle.dt_image.specs.declared.line.Line.TheVariants.{Access}
use Rattle.dt_image.specs.Print.{text_of_lines}
use Rattle.dt_image.proofs.print.push_accesses.Given as goal

abbrev pub invariant-loop-access : goal.invariant-loop-access
invariant-loop-access l = l.out.items ≡ l.fn.out.items ++ text_of_lines (map (λ a. Access a.context a.inputs) (take l.access-index l.accesses))
