use Rattle.std.proofs.Common.{◌≡◌, ℕ, length, drop}
use Rattle.dt_reach.specs.Reach.{is_marked, lives}
use Rattle.dt_reach.proofs.live.live_among.Given as goal

abbrev pub invariant-loop-n : goal.invariant-loop-n
invariant-loop-n l = record {
  count : length l.live.items ≡ length l.ways;
  told : (k : ℕ) → is_marked l.live.items k ≡ lives l.ahead (drop l.n l.ways) l.n k;
}
