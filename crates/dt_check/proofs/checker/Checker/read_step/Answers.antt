use Rattle.std.proofs.Common.{sym}
use Rattle.dt_check.specs.Checking.{state_of, is_first}
use Rattle.dt_check.proofs.Checking.{step_found, kept_same}
use Rattle.dt_check.proofs.Trying.{trial_kept}
use Rattle.dt_check.proofs.checker.Checker.read_step.Goals as goal

pub returns-in-Some-clause-kept : goal.returns-in-Some-clause-kept
returns-in-Some-clause-kept g c = kept_same c.args.self.now.cells c.args.self.now.trail (is_first (state_of {D = g.row.D.Denot} c.args.self.now))

pub returns-clause-found : goal.returns-clause-found
returns-clause-found g c =
    step_found g.row.D.Denot g.D.Domain.ops c.args.problem.now c.args.claim c.args.step (state_of {D = g.row.D.Denot} c.args.self.now) c.apply_kept.new.self c.apply_kept.new.trail
    c.requires.state (sym c.in_default.ensures) c.in_ok-apply_kept.ensures.cells c.apply_kept.ensures.are c.apply_kept.ensures.kept

pub returns-clause-trial : goal.returns-clause-trial
returns-clause-trial g c =
    trial_kept g.row.D.Denot g.D.Domain.ops c.args.problem.now.terms c.args.self.now.cells c.apply_kept.new.self c.args.self.now.trail c.apply_kept.new.trail c.args.trial.now
    c.apply_kept.ensures.kept c.requires.trial
