use Rattle.std.proofs.Common.{reverse, Option, subst}
use Rattle.std.specs.Prelude.{IfSome}
use Rattle.dt_terms.specs.Problem.{IsProblem}
use Rattle.dt_check.specs.declared.pending.Pending.{Pending}
use Rattle.dt_check.specs.Waiting.{IsNext, IsBegun}
use Rattle.dt_solve.proofs.Moves.{closed, begun, refuted}
use Rattle.dt_solve.proofs.turning.turn_back.Goals as goal

pub returns-in-None : goal.returns-in-None
returns-in-None g c = λ limit aim numbers h.
    let D = g.row.D.Denot in
    let ops = g.D.Domain.ops in
    let p = c.args.problem.now in
    let s = c.args.search.now in
    let cells = s.cells in
    let trail = s.trail in
    let lines = s.draft.lines in
    let pending = s.pending.items in
    let problem : IsProblem p = subst IsProblem c.problem.view_is c.problem.invariant.0 in
    let empty = c.requires.empty in
    let k = closed D ops p g.met.D.Domain.laws problem g.met.D.Deciding.decides limit aim cells trail pending lines c.close_tree.new.draft.lines s.splits c.args.term h empty c.in_ok-close_tree.ensures.lines in (
      refuted D ops p g.met.D.Domain.laws problem g.met.D.Deciding.decides limit aim cells trail pending c.close_tree.new.draft.lines s.splits k.0
          (subst (IsNext ops cells trail (reverse pending) c.close_tree.new.cells c.close_tree.new.trail (reverse c.close_tree.new.pending.items)) c.in-None.is c.in_ok-close_tree.ensures.next),
      k.1,
    )

pub returns-in-Some : goal.returns-in-Some
returns-in-Some g c = λ limit aim numbers h.
    let D = g.row.D.Denot in
    let ops = g.D.Domain.ops in
    let p = c.args.problem.now in
    let s = c.args.search.now in
    let cells = s.cells in
    let trail = s.trail in
    let lines = s.draft.lines in
    let pending = s.pending.items in
    let problem : IsProblem p = subst IsProblem c.problem.view_is c.problem.invariant.0 in
    let empty = c.requires.empty in
    let k = closed D ops p g.met.D.Domain.laws problem g.met.D.Deciding.decides limit aim cells trail pending lines c.close_tree.new.draft.lines s.splits c.args.term h empty c.in_ok-close_tree.ensures.lines in
    let new = c.close_tree.new.cells in
    let longer = c.close_tree.new.trail in
    let rest = reverse c.close_tree.new.pending.items in
    let next = subst (IsNext ops cells trail (reverse pending) new longer rest) c.in-Some.is c.in_ok-close_tree.ensures.next in
    let first = subst (λ (o : Option Pending). IfSome o (IsBegun ops cells trail (reverse pending) new longer rest)) c.in-Some.is c.in_ok-close_tree.ensures.begun in
    let b = begun D ops p g.met.D.Domain.laws problem g.met.D.Deciding.decides limit aim cells trail pending lines c.close_tree.new.draft.lines s.splits new longer c.close_tree.new.pending.items c.in-Some.split h k.0 k.1 first next in
    (record { searching = b.0; start = b.1; trial = c.in_ok-close_tree.ensures.trial }, b.2)
