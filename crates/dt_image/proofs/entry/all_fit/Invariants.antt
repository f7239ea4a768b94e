use Rattle.std.proofs.Common.{◌≡◌, drop}
use Rattle.dt_image.specs.Entry.{all_fit}
use Rattle.dt_image.proofs.entry.all_fit.Given as goal

abbrev pub invariant-loop-i : goal.invariant-loop-i
invariant-loop-i l = all_fit (drop l.i l.names) (drop l.i l.values) ≡ all_fit l.names l.values
