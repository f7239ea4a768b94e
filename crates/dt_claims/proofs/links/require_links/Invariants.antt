use Rattle.std.proofs.Common.{◌≡◌, drop}
use Rattle.std.specs.List.{flat_map}
use Rattle.dt_model.specs.ModelData.{data_of}
use Rattle.dt_build.specs.Building.{claimed}
use Rattle.dt_table.specs.Links.{link_forms}
use Rattle.dt_claims.specs.Views.{access_of, rows_of}
use Rattle.dt_claims.proofs.links.require_links.Given as goal

abbrev pub invariant-loop-link : goal.invariant-loop-link
invariant-loop-link l = claimed l.builder (flat_map (link_forms (data_of l.model) l.requests (access_of l.places) (rows_of l.rows)) (drop l.link-index l.links)) ≡ claimed l.initial.builder (flat_map (link_forms (data_of l.model) l.requests (access_of l.places) (rows_of l.rows)) l.links)
