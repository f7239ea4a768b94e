-- How many claims there are.
use Rattle.std.proofs.Common.{◌≡◌, ℕ, suc, ◌*◌, ◌≤◌, List, [], ◌∷◌, ◌++◌, length, map, arith, length-append}
use Rattle.std.specs.List.{flat_map, zip, All}
use Rattle.std.proofs.lemmas.List.{length-map}
use Rattle.dt_model.specs.ModelData.{ModelData}
use Rattle.dt_model.specs.Faults.{IsAccepted, steps}
use Rattle.dt_model.proofs.Accepting.{few_context_rules, few_access_rules}
use Rattle.dt_walk.specs.Meaning.{rule_holds}
use Rattle.dt_request.specs.declared.list.AccessWish.{AccessWish}
use Rattle.dt_request.specs.declared.list.Requests.{Requests}
use Rattle.dt_request.specs.Lists.{IsList, IsWish}
use Rattle.dt_image.specs.declared.image.Image.{Image}
use Rattle.dt_image.specs.declared.image.ImageAccess.{ImageAccess}
use Rattle.dt_satisfy.specs.Demands.{Made, meets}
use Rattle.dt_satisfy.specs.Blocks.{is_kept}
use Rattle.dt_satisfy.specs.Links.{pages_of, tables_of, link_holds}
use Rattle.dt_satisfy.specs.Claims.{registers, runs_of, all_made, context_claims, access_claims, demand_claims, link_claims, apart_claim, kept_claims, claims}
use Rattle.dt_satisfy.specs.Satisfies.{Matches}
use Rattle.dt_lemmas.proofs.Lists.{same_length, length_flat}

length_demands : (d : ModelData) (contexts : ℕ) (runs : List Made) (wishes : List AccessWish) → All (IsWish d contexts) wishes → length (flat_map (λ p. map (meets p.0) p.1.demands) (zip runs wishes)) ≤ length wishes * 64
length_demands d contexts [] ws h = omega arith
length_demands d contexts (r ∷ rs) [] h = omega arith
length_demands d contexts (r ∷ rs) (w ∷ ws) h =
    let here = h 0 w (omega arith) in
    let more = length_demands d contexts rs ws (λ k x l. h (suc k) x (omega arith)) in
    omega (arith, here.few_demands, more, length-map w.demands (meets r), length-append (map (meets r) w.demands) (flat_map (λ p. map (meets p.0) p.1.demands) (zip rs ws)))

-- at most 16 contexts and 64 accesses with 32 rules each, 64 demands an access, 256 links, the claim on pages and tables, and 16 kept ranges
pub few_claims : (d : ModelData) (r : Requests) (i : Image) → IsAccepted d → IsList d r → Matches r i → length (claims d r i) ≤ 6929
few_claims d r i a l m =
    let contexts : length (context_claims d i) ≤ length i.contexts * 32 = length_flat (λ regs. map (rule_holds d regs []) d.legal_context) 32 (λ regs. omega (arith, few_context_rules d a, length-map d.legal_context (rule_holds d regs []))) i.contexts in
    let accesses : length (access_claims d i) ≤ length i.accesses * 32 = length_flat (λ (x : ImageAccess). map (rule_holds d (registers i x) x.inputs) d.legal_access) 32 (λ x. omega (arith, few_access_rules d a, length-map d.legal_access (rule_holds d (registers i x) x.inputs))) i.accesses in
    let demands : length (demand_claims d r i) ≤ length r.accesses * 64 = length_demands d (length r.contexts) (all_made d i) r.accesses l.accesses in
    let same : length i.accesses ≡ length r.accesses = same_length (λ x. x.context) (λ x. x.context) i.accesses r.accesses m.accesses in
    let links : length (link_claims d r i) ≡ length r.links = length-map r.links (link_holds (steps d) (runs_of d i)) in
    let kept : length (kept_claims d r i) ≡ length r.kept = length-map r.kept (is_kept (pages_of (runs_of d i)) (tables_of (steps d) (runs_of d i))) in
    let c = length-append (context_claims d i ++ access_claims d i ++ demand_claims d r i ++ link_claims d r i) (apart_claim d i ∷ kept_claims d r i) in
    let f = length-append (context_claims d i ++ access_claims d i ++ demand_claims d r i) (link_claims d r i) in
    let b = length-append (context_claims d i ++ access_claims d i) (demand_claims d r i) in
    let e = length-append (context_claims d i) (access_claims d i) in
    omega (arith, contexts, accesses, demands, links, kept, same, c, f, b, e, l.few_links, l.few_kept, l.few_contexts, l.few_accesses, m.contexts)
