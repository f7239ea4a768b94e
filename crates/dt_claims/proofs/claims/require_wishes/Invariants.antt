use Rattle.std.proofs.Common.{◌≡◌, drop}
use Rattle.dt_model.specs.ModelData.{data_of}
use Rattle.dt_build.specs.Building.{claimed}
use Rattle.dt_table.specs.Table.{wish_forms}
use Rattle.dt_claims.specs.Views.{rows_of}
use Rattle.dt_claims.proofs.claims.require_wishes.Given as goal

abbrev pub invariant-loop-k : goal.invariant-loop-k
invariant-loop-k l = claimed l.builder (wish_forms (data_of l.model) l.requests l.k (drop l.k l.accesses) (rows_of (drop l.k l.rows))) ≡ claimed l.initial.builder (wish_forms (data_of l.model) l.requests 0 l.accesses (rows_of l.rows))
