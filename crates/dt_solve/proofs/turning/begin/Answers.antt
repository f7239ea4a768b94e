use Rattle.std.proofs.Common.{subst}
use Rattle.dt_terms.specs.Problem.{IsProblem}
use Rattle.dt_check.proofs.Trying.{trial_begun}
use Rattle.dt_solve.proofs.Ends.{first}
use Rattle.dt_solve.proofs.turning.begin.Goals as goal

pub returns : goal.returns
returns g c = λ limit aim.
    let p = c.args.problem.now in
    let problem : IsProblem p = subst IsProblem c.problem.view_is c.problem.invariant.0 in
    let root = c.requires.root in
    record {
      searching = first g.row.D.Denot g.D.Domain.ops p limit aim g.met.D.Domain.laws problem g.met.D.Deciding.decides c.args.root.cells c.in_ok-trail.trail c.new-pending.result.items c.args.root.draft.lines
          root.are root.logged c.in_ok-trail.ensures c.new-pending.ensures.items;
      start = root.ended;
      trial = trial_begun g.row.D.Denot g.D.Domain.ops p.terms c.args.root.cells c.in_ok-trail.trail c.in_ok-trial.trial c.in_ok-trial.ensures;
    }
