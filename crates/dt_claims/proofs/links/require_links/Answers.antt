use Rattle.std.proofs.Common.{List, refl}
use Rattle.std.specs.List.{flat_map}
use Rattle.dt_model.specs.ModelData.{data_of}
use Rattle.dt_request.specs.declared.list.Link.{Link}
use Rattle.dt_table.specs.Links.{link_forms}
use Rattle.dt_claims.specs.Views.{access_of, rows_of}
use Rattle.dt_claims.proofs.Turns.{turn}
use Rattle.dt_claims.proofs.links.require_links.Goals as goal

pub loop-link-preserved : goal.loop-link-preserved
loop-link-preserved c =
    turn (flat_map (link_forms (data_of c.args.model.now) c.args.requests.now (access_of c.args.places) (rows_of c.args.rows.now))) (λ (x : Link) (xs : List Link). link_forms (data_of c.args.model.now) c.args.requests.now (access_of c.args.places) (rows_of c.args.rows.now) x) (λ x xs. refl)
    c.loop-link.builder c.require_link.new.builder _ c.args.links.now c.loop-link.link-index _ c.loop-link-test.true c.in_ok-require_link.ensures c.loop-link.invariant
