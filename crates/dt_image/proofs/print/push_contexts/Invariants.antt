use Rattle.std.proofs.Common.{◌≡◌, ◌++◌, take}
use Rattle.std.specs.Prelude.{map}
use Rattle.dt_image.specs.declared.line.Line.TheVariants.{Context}
use Rattle.dt_image.specs.Print.{text_of_lines}
use Rattle.dt_image.proofs.print.push_contexts.Given as goal

abbrev pub invariant-loop-values : goal.invariant-loop-values
invariant-loop-values l = l.out.items ≡ l.fn.out.items ++ text_of_lines (map (λ vs. Context vs) (take l.values-index l.contexts))
