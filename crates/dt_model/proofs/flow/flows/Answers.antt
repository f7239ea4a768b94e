use Rattle.std.proofs.Common.{◌≡◌, ℕ, ◌+◌, ◌<◌, Bool, length, get_or, List, ◌∙◌, sym, ap, subst, arith, ◌↔◌, true}
use Rattle.dt_model.specs.declared.flow.NodeSets.{NodeSets}
use Rattle.dt_model.specs.Flow.{found, some_after, steps_of}
use Rattle.dt_model.specs.Paths.{SomePath}
use Rattle.dt_model.specs.ModelData.{act_of}
use Rattle.std.proofs.Common.{rules}
use Rattle.dt_lemmas.proofs.Lists.{written}
use Rattle.dt_model.proofs.Nodes.{step_at}
use Rattle.dt_model.proofs.PathSets.{after_more, after_none, some_path_at}
use Rattle.dt_model.proofs.flow.flows.Goals as goal

pub loop-k-init : goal.loop-k-init
loop-k-init c = (c.in_ok-sets.ensures.len, λ n v b d l h. c.in_ok-sets.ensures.each n v b d l h ∙ after_none _ v n b)

pub loop-k-preserved : goal.loop-k-preserved
loop-k-preserved c =
    let new = c.follow.new.sets in
    let old = c.loop-k.sets.items in
    let nodes = c.args.nodes.now in
    let count = c.min-count.result in
    let k = c.loop-k.k in
    let inside : k < length nodes = omega arith in
    let same : length new ≡ length old = c.follow.auto.sets ∙ ap length c.as_mut_slice.ensures.value in
    let whole = written c.loop-k.sets.len new old (search rules) same in
    subst (λ (s : List NodeSets). (length s ≡ count) × ((n v : ℕ) (b : Bool) (d : NodeSets) → n < count → v < 512 → found (get_or s n d) v b ≡ some_after (steps_of nodes) v (k + 1) n b)) (sym whole) (
      same ∙ c.loop-k.invariant.0,
      λ n v b d l h.
          let value = c.as_mut_slice.ensures.value in
          let within : n < length c.as_mut_slice.result.now = omega (arith, ap length value, c.loop-k.invariant.0) in
          c.follow.ensures n v b d within h
          ∙ after_more (steps_of nodes) (act_of c.index-nodes-k.result.act) (found (get_or c.as_mut_slice.result.now k d) v) (found (get_or c.as_mut_slice.result.now n d) v b) v k n b
          (step_at nodes k c.index-nodes-k.result c.index-nodes-k.result inside c.index-nodes-k.is)
          (λ q. ap (λ (s : List NodeSets). found (get_or s k d) v q) value ∙ c.loop-k.invariant.1 k v q d c.loop-k-test.true h)
          (ap (λ (s : List NodeSets). found (get_or s n d) v b) value ∙ c.loop-k.invariant.1 n v b d l h),
    )

pub returns-clause-sets : goal.returns-clause-sets
returns-clause-sets c = λ n v b d l h.
    let k = c.loop-k.k in
    let nodes = steps_of c.args.nodes.now in
    let inside : n < c.min-count.result = omega (arith, c.loop-k.invariant.0) in
    let e : found (get_or c.loop-k.sets.items n d) v b ≡ some_after nodes v k n b = c.loop-k.invariant.1 n v b d inside h in
    subst (λ q. (q ≡ true) ↔ SomePath nodes n v b) (sym e) (some_path_at nodes v k n b (omega arith))
