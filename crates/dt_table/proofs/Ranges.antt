-- The claims of kept ranges hold exactly where their forms do.
use Rattle.std.proofs.Common.{◌≡◌, ◌≤◌, ◌^◌, List, [], ◌∷◌, map, sym, ap, ◌∙◌}
use Rattle.std.specs.List.{AllByRecursion}
use Rattle.std.proofs.lemmas.List.Elements.{recursion_from_All}
use Rattle.dt_bits.specs.Memory.{Memory}
use Rattle.dt_model.specs.ModelData.{ModelData}
use Rattle.dt_model.specs.Faults.{steps}
use Rattle.dt_walk.specs.Walks.{RunData}
use Rattle.dt_request.specs.declared.list.KeptRange.{KeptRange}
use Rattle.dt_request.specs.declared.list.Requests.{Requests}
use Rattle.dt_request.specs.Lists.{IsKept, IsList}
use Rattle.dt_satisfy.specs.declared.block.Block.{Block}
use Rattle.dt_satisfy.specs.Blocks.{is_kept}
use Rattle.dt_satisfy.specs.Links.{tables_of, pages_of}
use Rattle.dt_satisfy.specs.Claims.{runs_of, kept_claims}
use Rattle.dt_forms.specs.Meaning.{Valuation}
use Rattle.dt_forms.proofs.Tells.{TellAll, tell_as}
use Rattle.dt_table.specs.declared.out.Out.{Out}
use Rattle.dt_table.specs.Table.{list_access}
use Rattle.dt_table.proofs.Every.{every_keep, pages_in, tables_in}
use Rattle.dt_table.specs.Told.{told}
use Rattle.dt_table.proofs.Ready.{AreSet}
use Rattle.dt_table.proofs.Told.{AllNodes}
use Rattle.dt_table.proofs.Claimed.{seen, HaveContexts, AllTold, runs_told}
use Rattle.dt_table.proofs.Results.{come_of}
use Rattle.dt_table.proofs.Pages.{AreBlocks, all_blocks, blocks_made, then_of}
use Rattle.dt_table.proofs.Kept.{AreTold, all_kept, kept_all}

kept_is : (v : Valuation) (d : ModelData) (r : Requests) (m : Memory) (oss : List (List Out)) → HaveContexts r r.accesses → AllTold v d r m 0 r.accesses oss → AreBlocks v d oss
    → kept_claims d r (seen v d r m) ≡ map (is_kept (blocks_made v come_of (pages_in d oss)) (blocks_made v then_of (tables_in d oss))) r.kept
kept_is v d r m oss c all b =
    let e : runs_of d (seen v d r m) ≡ map (λ os. told v (steps d) os 0) oss = runs_told v d r m r.accesses oss 0 c all in
    ap (λ (runs : List RunData). map (is_kept (pages_of runs) (tables_of (steps d) runs)) r.kept) e
    ∙ ap (λ (l : List Block). map (is_kept l (tables_of (steps d) (map (λ os. told v (steps d) os 0) oss))) r.kept) b.pages
    ∙ ap (λ (l : List Block). map (is_kept (blocks_made v come_of (pages_in d oss)) l) r.kept) b.tables

pub within_all : (d : ModelData) (ks : List KeptRange) → AllByRecursion (IsKept d) ks → AllByRecursion (λ (k : KeptRange). k.hi ≤ 2 ^ d.address) ks
within_all d [] h = tt
within_all d (k ∷ ks) h = (h.0.within, within_all d ks h.1)

are_told : (v : Valuation) (d : ModelData) (r : Requests) (oss : List (List Out)) → AreSet v d r → AreBlocks v d oss → AreTold v (list_access d r) (pages_in d oss) (tables_in d oss)
are_told v d r oss set b = record { one = set.one_is; range = set.range; page_is = b.page_is; table_is = b.table_is }

-- the forms of the kept ranges tell their claims
pub ranges_tell : (v : Valuation) (d : ModelData) (r : Requests) (m : Memory) (oss : List (List Out)) → IsList d r → AreSet v d r → HaveContexts r r.accesses → AllNodes v d oss → AllTold v d r m 0 r.accesses oss
    → TellAll v (every_keep d r oss) (kept_claims d r (seen v d r m))
ranges_tell v d r m oss list set c nodes all =
    let b = all_blocks v d oss nodes in
    let within = within_all d r.kept (recursion_from_All (IsKept d) r.kept list.kept) in
    let told = are_told v d r oss set b in
    tell_as v (every_keep d r oss) (map (is_kept (blocks_made v come_of (pages_in d oss)) (blocks_made v then_of (tables_in d oss))) r.kept) (kept_claims d r (seen v d r m)) (sym (kept_is v d r m oss c all b))
    (record { holds = λ h. all_kept v (list_access d r) (pages_in d oss) (tables_in d oss) r.kept told within h; held = λ h. kept_all v (list_access d r) (pages_in d oss) (tables_in d oss) r.kept told within h })
