use Rattle.std.proofs.Common.{◌≡◌, ℕ, ◌*◌, ◌<◌, length, get_or}
use Rattle.dt_propagate.specs.Marks.{HasRoom, AreMarkedNear}
use Rattle.dt_propagate.proofs.settling.settle_from.Given as goal

-- the steps near the terms so far are marked
abbrev pub invariant-loop-term : goal.invariant-loop-term
invariant-loop-term g l = record {
  room : HasRoom (2 * length l.problem.terms) l.marks.bits.words.items;
  near : (k : ℕ) → k < l.term-index → AreMarkedNear l.problem.terms l.marks.bits.words.items (get_or l.changed k 0);
}
