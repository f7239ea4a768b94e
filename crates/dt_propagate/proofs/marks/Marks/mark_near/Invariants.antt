use Rattle.std.proofs.Common.{◌≡◌, ℕ, ◌*◌, ◌<◌, [], length, get_or}
use Rattle.dt_propagate.specs.Marks.{Grows, AreMarkedAt, HasRoom}
use Rattle.dt_propagate.proofs.marks.Marks.mark_near.Given as goal

-- the term and its users so far are marked
abbrev pub invariant-loop-user : goal.invariant-loop-user
invariant-loop-user l =
    let n = length l.problem.terms in
    record {
      room : HasRoom (2 * n) l.self.bits.words.items;
      grows : Grows l.fn.self.bits.words.items l.self.bits.words.items;
      narrowings : l.self.narrowings ≡ l.fn.self.narrowings;
      term : AreMarkedAt n l.self.bits.words.items l.term;
      users : (k : ℕ) → k < l.user-index → AreMarkedAt n l.self.bits.words.items (get_or (get_or l.watches l.term []) k 0);
    }
