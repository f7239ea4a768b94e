use Rattle.std.proofs.Common.{◌≡◌, List, ◌++◌, map, ap, ◌∙◌}
use Rattle.std.specs.List.{flat_map}
use Rattle.std.proofs.lemmas.Result.{on_ok_weaker}
use Rattle.dt_model.specs.ModelData.{data_of}
use Rattle.dt_model.specs.Faults.{steps}
use Rattle.dt_forms.specs.Forms.{Form}
use Rattle.dt_build.specs.Building.{claimed}
use Rattle.dt_ways.specs.Ends.{ends_done}
use Rattle.dt_table.specs.declared.out.Out.{Out}
use Rattle.dt_table.specs.Claims.{ends_only}
use Rattle.dt_table.specs.Spots.{Spot}
use Rattle.dt_table.specs.Links.{page_if, outs_of, access_pages}
use Rattle.dt_claims.specs.Relations.{page_relation_form}
use Rattle.dt_claims.specs.Views.{spot, access_of, rows_of}
use Rattle.dt_claims.proofs.Turns.{both_required}
use Rattle.dt_claims.proofs.links.require_pages.Goals as goal

pub returns : goal.returns
returns c =
    let d = data_of c.args.model.now in
    let oss = rows_of c.args.rows.now in
    let form = page_relation_form (access_of c.args.places) c.args.relation in
    let pairs : List Spot → List Spot → List Form = λ xs ys. flat_map (λ x. flat_map (page_if form x) ys) xs in
    let pages : map spot c.as_slice.result.now ≡ access_pages d c.args.requests.now oss c.args.a = ap (map spot) c.as_slice.ensures.value ∙ c.in_ok-pages.ensures in
    let others : map spot c.as_slice-2.result.now ≡ access_pages d c.args.requests.now oss c.args.b = ap (map spot) c.as_slice-2.ensures.value ∙ c.in_ok-others.ensures in
    let whole = pairs (access_pages d c.args.requests.now oss c.args.a) (access_pages d c.args.requests.now oss c.args.b) in
    let ends = ends_only ends_done (steps d) (outs_of oss c.args.a) in
    let other_ends = ends_only ends_done (steps d) (outs_of oss c.args.b) in
    let first : c.require_ends.new.builder ≡ claimed c.args.builder.now ends = c.in_ok-require_ends.ensures ∙ ap (λ (os : List Out). claimed c.args.builder.now (ends_only ends_done (steps d) os)) c.outs_of.ensures in
    let second : c.require_ends-2.new.builder ≡ claimed c.require_ends.new.builder other_ends = c.in_ok-require_ends-2.ensures ∙ ap (λ (os : List Out). claimed c.require_ends.new.builder (ends_only ends_done (steps d) os)) c.outs_of-2.ensures in
    on_ok_weaker c.require_page_pairs.result
    (λ h. both_required c.args.builder.now c.require_ends.new.builder c.require_page_pairs.new.builder ends (other_ends ++ whole) first
    (both_required c.require_ends.new.builder c.require_ends-2.new.builder c.require_page_pairs.new.builder other_ends whole second
    (h ∙ (λ i. claimed c.require_ends-2.new.builder (pairs (pages i) (others i))))))
    c.require_page_pairs.ensures
