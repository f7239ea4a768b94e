use Rattle.std.proofs.Common.{◌≡◌, drop, map}
use Rattle.dt_build.specs.Building.{claimed}
use Rattle.dt_table.specs.Pairs.{pair_forms}
use Rattle.dt_claims.specs.Views.{spot}
use Rattle.dt_claims.proofs.pairs.require_pairs.Given as goal

abbrev pub invariant-loop-n : goal.invariant-loop-n
invariant-loop-n l = claimed l.builder (pair_forms (map spot (drop l.n l.reads))) ≡ claimed l.initial.builder (pair_forms (map spot l.reads))
