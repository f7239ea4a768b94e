use Rattle.std.proofs.Common.{◌≡◌, ◌++◌, map, drop}
use Rattle.dt_model.specs.ModelData.{data_of}
use Rattle.dt_table.specs.Spots.{all_pages}
use Rattle.dt_claims.specs.Views.{spot, rows_of}
use Rattle.dt_claims.proofs.spots.all_pages.Given as goal

abbrev pub invariant-loop-k : goal.invariant-loop-k
invariant-loop-k l = map spot l.spots.items ++ all_pages (data_of l.model) l.requests l.k (rows_of (drop l.k l.rows)) ≡ all_pages (data_of l.model) l.requests 0 (rows_of l.rows)
