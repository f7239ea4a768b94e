use Rattle.std.proofs.Common.{List, [], subst}
use Rattle.dt_terms.specs.Problem.{IsProblem}
use Rattle.dt_log.specs.declared.line.Line.{Line}
use Rattle.dt_propagate.specs.Settling.{IsLogged}
use Rattle.dt_solve.proofs.EarlyTries.{root_are}
use Rattle.dt_solve.proofs.root.settled_root.Goals as goal

pub settle_root-requires-clause-cells : goal.settle_root-requires-clause-cells
settle_root-requires-clause-cells g c =
    let p = c.args.problem.now in
    let problem : IsProblem p = subst IsProblem c.problem.view_is c.problem.invariant.0 in
    root_are g.row.D.Denot g.D.Domain.ops g.met.D.Domain.laws p problem c.args.cells c.requires

pub returns : goal.returns
returns g c =
    let D = g.row.D.Denot in
    let ops = g.D.Domain.ops in
    let terms = c.args.problem.now.terms in
    let cells = c.settle_root.new.cells in
    let lines = c.settle_root.new.draft.lines in
    record {
      are = c.settle_root.ensures.cells;
      logged = subst (λ (ds : List D). IsLogged ops terms ds [] cells lines) c.requires
          (subst (λ (ls : List Line). IsLogged ops terms c.args.cells ls cells lines) c.new-draft.ensures c.settle_root.ensures.logged);
      ended = c.in_ok-end.ensures.end;
    }
