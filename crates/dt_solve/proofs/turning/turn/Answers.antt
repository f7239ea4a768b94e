use Rattle.std.proofs.Common.{reverse, subst, refl}
use Rattle.dt_terms.specs.Problem.{IsProblem}
use Rattle.dt_box.specs.Stillness.{IsSettled}
use Rattle.dt_check.proofs.Trying.{trial_kept}
use Rattle.dt_propagate.specs.declared.settling.Settled.{Settled}
use Rattle.dt_propagate.specs.Settling.{IsEnd}
use Rattle.std.proofs.lemmas.Result.{IfOk-weaker}
use Rattle.dt_solve.proofs.Ends.{turned_from}
use Rattle.dt_solve.specs.declared.turning.Search.{Search}
use Rattle.dt_solve.proofs.Moves.{moved, begins}
use Rattle.dt_solve.proofs.turning.turn.Goals as goal

pub turn_back-requires-clause-stacked : goal.turn_back-requires-clause-stacked
turn_back-requires-clause-stacked g c =
    let D = g.row.D.Denot in
    let ops = g.D.Domain.ops in
    let p = c.args.problem.now in
    let aim = g.P.Proposer.aim c.args.proposer.now in
    let s = c.args.search.now in
    let cells = c.settle_start.new.cells in
    let trail = c.settle_start.new.trail in
    let lines = c.settle_start.new.draft.lines in
    let pending = s.pending.items in
    let problem : IsProblem p = subst IsProblem c.problem.view_is c.problem.invariant.0 in
    let h = moved D ops p g.met.D.Domain.laws problem g.met.D.Deciding.decides c.args.limit aim s.cells s.trail pending s.draft.lines s.splits cells trail lines c.requires.at.searching c.settle_start.ensures.progress in
    h.stacked

pub turn_back-requires-clause-begin : goal.turn_back-requires-clause-begin
turn_back-requires-clause-begin g c =
    let D = g.row.D.Denot in
    let ops = g.D.Domain.ops in
    let p = c.args.problem.now in
    let aim = g.P.Proposer.aim c.args.proposer.now in
    let s = c.args.search.now in
    let cells = c.settle_start.new.cells in
    let trail = c.settle_start.new.trail in
    let lines = c.settle_start.new.draft.lines in
    let pending = s.pending.items in
    let problem : IsProblem p = subst IsProblem c.problem.view_is c.problem.invariant.0 in
    let h = moved D ops p g.met.D.Domain.laws problem g.met.D.Deciding.decides c.args.limit aim s.cells s.trail pending s.draft.lines s.splits cells trail lines c.requires.at.searching c.settle_start.ensures.progress in
    begins D ops p cells trail (reverse pending) h.turns

-- the trial follows the cells that were settled
pub turn_back-requires-clause-trial : goal.turn_back-requires-clause-trial
turn_back-requires-clause-trial g c =
    let s = c.args.search.now in
    trial_kept g.row.D.Denot g.D.Domain.ops c.args.problem.now.terms s.cells c.settle_start.new.cells s.trail c.settle_start.new.trail s.trial c.settle_start.ensures.progress.kept c.requires.at.trial

pub turn_back-requires-clause-empty : goal.turn_back-requires-clause-empty
turn_back-requires-clause-empty g c =
    let ops = g.D.Domain.ops in
    let p = c.args.problem.now in
    let cells = c.settle_start.new.cells in
    subst (λ (e : Settled). IsEnd ops p.terms e cells (IsSettled ops p.terms cells)) c.in-Empty.is c.in_ok-term.ensures.end

pub returns-in-Empty-clause-turned : goal.returns-in-Empty-clause-turned
returns-in-Empty-clause-turned g c =
    let D = g.row.D.Denot in
    let ops = g.D.Domain.ops in
    let p = c.args.problem.now in
    let aim = g.P.Proposer.aim c.args.proposer.now in
    let s = c.args.search.now in
    let cells = c.settle_start.new.cells in
    let trail = c.settle_start.new.trail in
    let lines = c.settle_start.new.draft.lines in
    let pending = s.pending.items in
    let problem : IsProblem p = subst IsProblem c.problem.view_is c.problem.invariant.0 in
    let h = moved D ops p g.met.D.Domain.laws problem g.met.D.Deciding.decides c.args.limit aim s.cells s.trail pending s.draft.lines s.splits cells trail lines c.requires.at.searching c.settle_start.ensures.progress in
    let numbers = c.args.tried.now.numbers.items in
    let mid : Search D = record { cells = cells; trail = trail; pending = s.pending; draft = c.settle_start.new.draft; splits = s.splits; start = s.start; trial = s.trial; guide = s.guide } in
    IfOk-weaker c.turn_back.result _ _ (λ turned f. turned_from D ops p c.args.limit aim turned mid s c.turn_back.new.search numbers refl (f c.args.limit aim numbers h)) c.turn_back.ensures

pub try_or_split-requires-clause-searching : goal.try_or_split-requires-clause-searching
try_or_split-requires-clause-searching g c =
    let D = g.row.D.Denot in
    let ops = g.D.Domain.ops in
    let p = c.args.problem.now in
    let aim = g.P.Proposer.aim c.args.proposer.now in
    let s = c.args.search.now in
    let problem : IsProblem p = subst IsProblem c.problem.view_is c.problem.invariant.0 in
    moved D ops p g.met.D.Domain.laws problem g.met.D.Deciding.decides c.args.limit aim s.cells s.trail s.pending.items s.draft.lines s.splits c.settle_start.new.cells c.settle_start.new.trail c.settle_start.new.draft.lines c.requires.at.searching c.settle_start.ensures.progress

pub try_or_split-requires-clause-settled : goal.try_or_split-requires-clause-settled
try_or_split-requires-clause-settled g c =
    let ops = g.D.Domain.ops in
    let p = c.args.problem.now in
    let cells = c.settle_start.new.cells in
    (subst (λ (e : Settled). IsEnd ops p.terms e cells (IsSettled ops p.terms cells)) c.in-Quiet.is c.in_ok-term.ensures.end).1

pub try_or_split-requires-clause-trial : goal.try_or_split-requires-clause-trial
try_or_split-requires-clause-trial g c =
    let s = c.args.search.now in
    trial_kept g.row.D.Denot g.D.Domain.ops c.args.problem.now.terms s.cells c.settle_start.new.cells s.trail c.settle_start.new.trail s.trial c.settle_start.ensures.progress.kept c.requires.at.trial
