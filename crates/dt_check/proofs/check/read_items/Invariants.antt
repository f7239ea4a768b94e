use Rattle.std.proofs.Common.{◌≡◌, ◌≤◌, drop, length}
use Rattle.dt_check.specs.Reading.{verdict_from, verdict_of}
use Rattle.dt_check.specs.Checking.{state_of, reading_at, IsState}
use Rattle.dt_check.specs.Trying.{IsTrial}
use Rattle.dt_check.proofs.Loop.{Owed}
use Rattle.dt_check.proofs.check.read_items.Given as goal

abbrev pub invariant-loop-at : goal.invariant-loop-at
invariant-loop-at g l = record {
  verdict : verdict_from g.D.Domain.ops l.problem l.log.claim l.at (drop l.at l.log.lines) (reading_at g.D.Domain.ops (state_of l.checker) l.tries.items)
      ≡ verdict_of g.D.Domain.ops l.problem l.log.claim l.log.lines;
  owed : Owed (length (reading_at g.D.Domain.ops (state_of l.checker) l.tries.items).stack) (drop l.at l.log.lines);
  state : IsState g.D.Domain.ops l.problem.terms l.log.claim (state_of l.checker);
  trial : IsTrial g.D.Domain.ops l.problem.terms l.checker.cells l.checker.trail l.trial;
  splits : l.checker.splits ≤ l.at;
}
