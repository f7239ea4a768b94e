use Rattle.std.proofs.Common.{◌≡◌, ◌++◌, take}
use Rattle.std.specs.Prelude.{map}
use Rattle.dt_image.specs.declared.line.Line.TheVariants.{Word}
use Rattle.dt_image.specs.Print.{text_of_lines}
use Rattle.dt_image.proofs.print.push_words.Given as goal

abbrev pub invariant-loop-word : goal.invariant-loop-word
invariant-loop-word l = l.out.items ≡ l.fn.out.items ++ text_of_lines (map (λ w. Word w) (take l.word-index l.words))
