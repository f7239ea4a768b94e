use Rattle.std.proofs.Common.{◌≡◌, ◌*◌, ◌+◌, ◌-◌, ◌<◌, ◌≤◌, ℕ, length, true, false}
use Rattle.dt_box.specs.Stillness.{HasNoEmpty}
use Rattle.dt_propagate.specs.Marks.{is_marked, HasRoom}
use Rattle.dt_propagate.specs.Keeping.{IsCourse}
use Rattle.dt_propagate.specs.Passing.{AreMarked, cost}
use Rattle.dt_propagate.proofs.passing.pass.Given as goal

abbrev pub invariant-loop-at : goal.invariant-loop-at
invariant-loop-at g l =
    let ops = g.D.Domain.ops in
    let terms = l.problem.terms in
    record {
      progress : IsCourse l.keep ops terms l.fn.cells l.fn.trail l.fn.draft.lines l.cells l.trail l.draft.lines;
      held : HasNoEmpty ops l.cells;
      room : HasRoom (2 * length terms) l.marks.bits.words.items;
      marked : AreMarked ops terms l.cells l.marks.bits.words.items;
      most : cost ops terms l.cells l.marks.narrowings ≤ cost ops terms l.fn.cells l.fn.marks.narrowings;
      none : l.changed ≡ false → (i : ℕ) → i < l.from → is_marked l.marks.bits.words.items i ≡ false;
      cost : l.changed ≡ true → cost ops terms l.cells l.marks.narrowings < cost ops terms l.fn.cells l.fn.marks.narrowings;
    }

abbrev pub decreases-loop-at : goal.decreases-loop-at
decreases-loop-at g l = 2 * length l.problem.terms - l.from
