use Rattle.std.proofs.Common.{sym, ap, ◌∙◌, subst}
use Rattle.dt_terms.specs.Problem.{IsProblem}
use Rattle.dt_terms.specs.Values.{solves}
use Rattle.dt_solve.proofs.EarlyTries.{root_are, early}
use Rattle.dt_solve.proofs.early.found_early.Goals as goal

pub ask-requires-clause-cells : goal.ask-requires-clause-cells
ask-requires-clause-cells g c =
    let p = c.args.problem.now in
    let problem : IsProblem p = subst IsProblem c.problem.view_is c.problem.invariant.0 in
    root_are g.row.D.Denot g.D.Domain.ops g.met.D.Domain.laws p problem c.args.cells.now c.requires

pub returns-then-eval-clause-found : goal.returns-then-eval-clause-found
returns-then-eval-clause-found g c =
    let p = c.args.problem.now in
    let problem : IsProblem p = subst IsProblem c.problem.view_is c.problem.invariant.0 in
    early g.row.D.Denot g.D.Domain.ops g.met.D.Domain.laws p problem c.args.cells.now c.requires (g.P.Proposer.aim c.args.proposer.now) c.ask.new.self.numbers.items
    c.ask.ensures.assignment (ap (solves p) (sym c.deref.ensures.value) ∙ sym c.eval.ensures.solves ∙ c.if-eval.true) c.ask.ensures.told
