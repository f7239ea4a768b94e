use Rattle.std.proofs.Common.{◌≡◌, drop}
use Rattle.dt_model.specs.ModelData.{data_of}
use Rattle.dt_build.specs.Building.{claimed}
use Rattle.dt_table.specs.Extras.{all_extras}
use Rattle.dt_claims.specs.Views.{rows_of}
use Rattle.dt_claims.proofs.claims.require_all_extras.Given as goal

abbrev pub invariant-loop-k : goal.invariant-loop-k
invariant-loop-k l = claimed l.builder (all_extras (data_of l.model) l.requests l.k (rows_of (drop l.k l.rows))) ≡ claimed l.initial.builder (all_extras (data_of l.model) l.requests 0 (rows_of l.rows))
