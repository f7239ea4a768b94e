use Rattle.std.proofs.Common.{◌≡◌, ◌≢◌, ◌<◌, length, true, false, get_or, ℕ}
use Rattle.dt_check.proofs.marks.Marks.mark_all.Given as goal

-- the numbers up to here are marked, and no others were
abbrev pub invariant-loop-number : goal.invariant-loop-number
invariant-loop-number l = record {
  count : length l.self.marks.items ≡ length l.fn.self.marks.items;
  kept : (n : ℕ) → get_or l.fn.self.marks.items n false ≡ true → get_or l.self.marks.items n false ≡ true;
  marked : (k : ℕ) → k < l.number-index → get_or l.self.marks.items (get_or l.numbers k 0) false ≡ true;
  others : (n : ℕ) → ((k : ℕ) → k < length l.numbers → get_or l.numbers k 0 ≢ n) → get_or l.self.marks.items n false ≡ get_or l.fn.self.marks.items n false;
}
