use Rattle.std.proofs.Common.{map, sym, ap, ◌∙◌}
use Rattle.std.proofs.lemmas.Bool.{cond-true, lt-ltb}
use Rattle.std.proofs.lemmas.Result.{on_ok_weaker}
use Rattle.dt_build.specs.Building.{claimed}
use Rattle.std.specs.List.{flat_map}
use Rattle.dt_table.specs.Kept.{kept_form}
use Rattle.dt_table.specs.Spots.{only_if}
use Rattle.dt_claims.specs.Views.{spot, access_of}
use Rattle.dt_claims.proofs.Turns.{both_required}
use Rattle.dt_claims.proofs.kept.require_range_kept.Goals as goal

pub returns : goal.returns
returns c =
    let k = c.args.kept in
    let pages = flat_map (λ x. only_if x.live (kept_form (access_of c.args.places) k (λ o. o.come) x.of)) (map spot c.args.pages.now) in
    let tables = flat_map (λ x. only_if x.live (kept_form (access_of c.args.places) k (λ o. o.by_then) x.of)) (map spot c.args.tables.now) in
    on_ok_weaker c.require_tables_kept.result
    (λ h. both_required c.args.builder.now c.require_pages_kept.new.builder c.require_tables_kept.new.builder pages tables c.in_ok-require_pages_kept.ensures h ∙ ap (claimed c.args.builder.now) (sym (cond-true _ _ _ (lt-ltb k.lo k.hi c.if-kept.false))))
    c.require_tables_kept.ensures
