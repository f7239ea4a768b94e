use Rattle.std.proofs.Common.{◌≡◌, ℕ, ◌^◌, ◌<◌, take}
use Rattle.std.specs.List.{list_any}
use Rattle.dt_bits.specs.Bits.{bit, differs}
use Rattle.dt_sets.specs.Sets.{listed}
use Rattle.dt_sets.proofs.Sets.agreed_bits.Given as goal

-- a bit is set where some number so far differs from the first
abbrev pub invariant-loop-place : goal.invariant-loop-place
invariant-loop-place l = record {
  fits : l.differing < 2 ^ l.self.width.0;
  bits : (i : ℕ) → bit l.differing i ≡ list_any (λ y. differs (bit y i) (bit l.first i)) (take l.place (listed l.self));
}
