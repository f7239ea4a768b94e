use Rattle.std.proofs.Common.{◌≡◌, ◌++◌, drop}
use Rattle.std.specs.List.{flat_map}
use Rattle.dt_model.specs.ModelData.{data_of}
use Rattle.dt_table.specs.Unlike.{link_unlikes}
use Rattle.dt_claims.specs.Views.{rows_of}
use Rattle.dt_claims.proofs.unlike.all_unlikes.Given as goal

abbrev pub invariant-loop-link : goal.invariant-loop-link
invariant-loop-link l = l.found.items ++ flat_map (link_unlikes (data_of l.model) l.requests l.terms (rows_of l.rows)) (drop l.link-index l.links) ≡ flat_map (link_unlikes (data_of l.model) l.requests l.terms (rows_of l.rows)) l.links
