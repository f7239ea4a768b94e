use Rattle.std.proofs.Common.{◌≡◌, ◌++◌, replicate}
use Rattle.dt_bits.specs.Bits.{width}
use Rattle.dt_encode.proofs.choices.push_words.Given as goal

abbrev pub invariant-loop-i : goal.invariant-loop-i
invariant-loop-i l = l.widths.items ≡ l.initial.widths.items ++ replicate l._i (width l.word)
