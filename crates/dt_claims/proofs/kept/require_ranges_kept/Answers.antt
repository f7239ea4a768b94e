use Rattle.std.proofs.Common.{List, refl, map}
use Rattle.std.specs.List.{flat_map}
use Rattle.dt_request.specs.declared.list.KeptRange.{KeptRange}
use Rattle.dt_table.specs.Kept.{kept_forms}
use Rattle.dt_claims.specs.Views.{spot, access_of}
use Rattle.dt_claims.proofs.Turns.{turn}
use Rattle.dt_claims.proofs.kept.require_ranges_kept.Goals as goal

pub loop-kept-preserved : goal.loop-kept-preserved
loop-kept-preserved c =
    turn (flat_map (kept_forms (access_of c.args.places) (map spot c.args.pages.now) (map spot c.args.tables.now))) (λ (x : KeptRange) (xs : List KeptRange). kept_forms (access_of c.args.places) (map spot c.args.pages.now) (map spot c.args.tables.now) x) (λ x xs. refl)
    c.loop-kept.builder c.require_range_kept.new.builder _ c.args.ranges.now c.loop-kept.kept-index _ c.loop-kept-test.true c.in_ok-require_range_kept.ensures c.loop-kept.invariant
