use Rattle.std.proofs.Common.{◌≡◌, ◌*◌, length}
use Rattle.dt_box.specs.Stillness.{HasNoEmpty}
use Rattle.dt_propagate.specs.Marks.{HasRoom}
use Rattle.dt_propagate.specs.Keeping.{IsCourse}
use Rattle.dt_propagate.specs.Passing.{AreMarked, cost}
use Rattle.dt_propagate.proofs.settling.settle_marked.Given as goal

abbrev pub invariant-loop-term : goal.invariant-loop-term
invariant-loop-term g l =
    let ops = g.D.Domain.ops in
    let terms = l.problem.terms in
    record {
      progress : IsCourse l.keep ops terms l.fn.cells l.fn.trail l.fn.draft.lines l.cells l.trail l.draft.lines;
      held : HasNoEmpty ops l.cells;
      room : HasRoom (2 * length terms) l.marks.bits.words.items;
      marked : AreMarked ops terms l.cells l.marks.bits.words.items;
    }

abbrev pub decreases-loop-term : goal.decreases-loop-term
decreases-loop-term g l = cost g.D.Domain.ops l.problem.terms l.cells l.marks.narrowings
