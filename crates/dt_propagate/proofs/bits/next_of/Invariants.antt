use Rattle.std.proofs.Common.{◌≡◌, ℕ, ◌*◌, ◌<◌, ◌≤◌, false}
use Rattle.dt_propagate.specs.Marks.{is_marked}
use Rattle.dt_propagate.proofs.bits.next_of.Given as goal

-- none was found so far
abbrev pub invariant-loop-word : goal.invariant-loop-word
invariant-loop-word l = (i : ℕ) → l.from ≤ i → i < l.word * 64 → is_marked l.words i ≡ false
