use Rattle.std.proofs.Common.{◌≡◌, ◌+◌, ◌-◌, ◌<◌, ℕ, drop, length, ap, ◌∙◌, arith}
use Rattle.std.proofs.lemmas.List.{length-set}
use Rattle.dt_reach.specs.Reach.{lives}
use Rattle.dt_reach.proofs.Lives.{live_turn}
use Rattle.dt_reach.proofs.live.live_among.Goals as goal

pub loop-n-preserved : goal.loop-n-preserved
loop-n-preserved c =
    let n = c.loop-n.n - 1 in
    let next : c.loop-n.n ≡ n + 1 = omega arith in
    let within : n < length c.args.ways.now = omega arith in
    record {
      count = length-set c.loop-n.live.items n c.lives_here-lives.result ∙ c.loop-n.invariant.count;
      told = live_turn c.args.ahead.now c.args.ways.now n c.loop-n.live.items c.as_slice.result.now _ c.lives_here-lives.result within c.loop-n.invariant.count c.as_slice.ensures.value c.lives_here-lives.ensures
          (λ j. c.loop-n.invariant.told j ∙ ap (λ (k : ℕ). lives c.args.ahead.now (drop k c.args.ways.now) k j) next);
    }
