use Rattle.std.proofs.Common.{map, List, refl, ◌∙◌, ◌+◌}
use Rattle.std.specs.List.{flat_map}
use Rattle.std.proofs.lemmas.List.{take_rest}
use Rattle.dt_build.specs.Building.{claimed}
use Rattle.dt_table.specs.Pairs.{pair_if, pair_forms}
use Rattle.dt_claims.specs.Views.{spot}
use Rattle.dt_claims.specs.declared.spots.SpotOut.{SpotOut}
use Rattle.dt_claims.proofs.Turns.{turn}
use Rattle.dt_claims.proofs.pairs.require_pairs.Goals as goal

pub loop-n-preserved : goal.loop-n-preserved
loop-n-preserved c =
    let rest = take_rest c.args.reads.now (c.loop-n.n + 1) in
    turn (λ (xs : List SpotOut). pair_forms (map spot xs)) (λ (x : SpotOut) (xs : List SpotOut). flat_map (pair_if (spot x)) (map spot xs)) (λ x xs. refl) c.loop-n.builder c.require_pairs_of.new.builder _ c.args.reads.now c.loop-n.n c.index-reads-n.result c.loop-n-test.true
    (c.in_ok-require_pairs_of.ensures ∙ (λ i. claimed c.loop-n.builder (flat_map (pair_if (spot (c.index-reads-n.is i))) (map spot (rest i))))) c.loop-n.invariant
