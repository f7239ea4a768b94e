use Rattle.std.proofs.Common.{◌≡◌, ℕ, ◌-◌, ◌*◌, ◌<◌, ◌≤◌, false, length}
use Rattle.dt_propagate.specs.Marks.{is_marked}
use Rattle.dt_propagate.proofs.bits.Bits.next_after.Given as goal

-- none was found so far
abbrev pub invariant-words : goal.invariant-words
invariant-words l = record {
  after : l.first ≤ l.from;
  within : l.from ≤ length l.self.words.items;
  none : (i : ℕ) → l.first * 64 ≤ i → i < l.from * 64 → is_marked l.self.words.items i ≡ false;
}

abbrev pub decreases-words : goal.decreases-words
decreases-words l = length l.self.words.items - l.from
