use Rattle.std.proofs.Common.{◌≡◌, ◌≤◌, ◌-◌, length}
use Rattle.dt_check.specs.Marks.{HasNone}
use Rattle.dt_check.specs.Trying.{IsTrying}
use Rattle.dt_check.proofs.trial.Trial.take_picks.Given as goal

-- no choice before this term is noted any more
abbrev pub invariant-choices : goal.invariant-choices
invariant-choices g l = record {
  from : l.from ≤ length l.problem.terms;
  trying : IsTrying g.D.Domain.ops l.problem.terms l.cells l.self;
  before : HasNone l.self.changed.marks.items 0 l.from;
  seen : l.self.seen ≡ l.fn.self.seen;
}

abbrev pub decreases-choices : goal.decreases-choices
decreases-choices g l = length l.problem.terms - l.from
