use Rattle.std.proofs.Common.{◌≡◌, ◌*◌, ◌+◌, ◌<◌, ℕ, length}
use Rattle.dt_propagate.specs.Marks.{HasRoom}
use Rattle.dt_propagate.specs.Keeping.{IsCourse}
use Rattle.dt_propagate.specs.Passing.{AreMarkedBut, IsLeft}
use Rattle.dt_propagate.proofs.passing.visit_backward.Given as goal

-- nothing has changed so far
abbrev pub invariant-loop-place : goal.invariant-loop-place
invariant-loop-place g l =
    let ops = g.D.Domain.ops in
    let terms = l.problem.terms in
    record {
      progress : IsCourse l.keep ops terms l.fn.cells l.fn.trail l.fn.draft.lines l.cells l.trail l.draft.lines;
      marked : AreMarkedBut ops terms l.fn.cells l.fn.marks.bits.words.items (IsLeft l.node l.place);
      same : l.cells ≡ l.fn.cells;
      marks : l.marks ≡ l.fn.marks;
    }
