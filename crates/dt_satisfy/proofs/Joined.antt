-- The claims, one group after another.
use Rattle.std.proofs.Common.{◌≡◌, Bool, List, [], ◌∷◌, ◌++◌, map, ap, ◌∙◌}
use Rattle.dt_model.specs.ModelData.{ModelData, ActData}
use Rattle.dt_model.specs.Faults.{steps}
use Rattle.dt_walk.specs.Walks.{RunData}
use Rattle.dt_request.specs.declared.list.Link.{Link}
use Rattle.dt_request.specs.declared.list.KeptRange.{KeptRange}
use Rattle.dt_request.specs.declared.list.Requests.{Requests}
use Rattle.dt_image.specs.declared.image.Image.{Image}
use Rattle.dt_satisfy.specs.Blocks.{are_apart, is_kept}
use Rattle.dt_satisfy.specs.Links.{pages_of, tables_of, link_holds}
use Rattle.dt_satisfy.specs.Claims.{runs_of, context_claims, access_claims, demand_claims, claims}

pub joined : (d : ModelData) (r : Requests) (i : Image) (ps : List ActData) (runs : List RunData) (links : List Link) (kept : List KeptRange) (empty contexts accesses demands linked all : List Bool) → empty ≡ [] → contexts ≡ empty ++ context_claims d i → accesses ≡ contexts ++ access_claims d i → demands ≡ accesses ++ demand_claims d r i → linked ≡ demands ++ map (link_holds ps runs) links → all ≡ linked ++ are_apart (pages_of runs) (tables_of ps runs) ∷ map (is_kept (pages_of runs) (tables_of ps runs)) kept → ps ≡ steps d → runs ≡ runs_of d i → links ≡ r.links → kept ≡ r.kept → all ≡ claims d r i
joined d r i ps runs links kept empty contexts accesses demands linked all h0 h1 h2 h3 h4 h5 p q l k =
    let e1 : contexts ≡ context_claims d i = h1 ∙ ap (λ (m : List Bool). m ++ context_claims d i) h0 in
    let e2 : accesses ≡ context_claims d i ++ access_claims d i = h2 ∙ ap (λ (m : List Bool). m ++ access_claims d i) e1 in
    let e3 : demands ≡ context_claims d i ++ access_claims d i ++ demand_claims d r i = h3 ∙ ap (λ (m : List Bool). m ++ demand_claims d r i) e2 in
    let e4 : linked ≡ context_claims d i ++ access_claims d i ++ demand_claims d r i ++ map (link_holds (steps d) (runs_of d i)) r.links = h4 ∙ (λ j. e3 j ++ map (link_holds (p j) (q j)) (l j)) in
    h5 ∙ (λ j. e4 j ++ are_apart (pages_of (q j)) (tables_of (p j) (q j)) ∷ map (is_kept (pages_of (q j)) (tables_of (p j) (q j))) (k j))
