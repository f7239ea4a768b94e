use Rattle.std.proofs.Common.{◌∙◌, subst, true, false}
use Rattle.dt_terms.specs.Problem.{IsProblem}
use Rattle.dt_solve.specs.Searching.{IsTurned}
use Rattle.dt_solve.specs.declared.turning.Turned.{Turned}
use Rattle.dt_solve.proofs.Ends.{refuted_log, spent_log, follows_log, bared_is_tree}
use Rattle.dt_solve.proofs.searching.attempt.Goals as goal

pub returns-in-Found-clause-answer : goal.returns-in-Found-clause-answer
returns-in-Found-clause-answer g c =
    let p = c.args.problem.now in
    let ops = g.D.Domain.ops in
    let f = subst (λ (t : Turned). IsTurned ops p c.args.limit (g.P.Proposer.aim c.loop-search.proposer) c.loop-search.search t c.turn.new.search c.turn.new.tried.numbers.items) c.in-Found.is c.in_ok-turn.ensures.turned in
    (f.0, f.1)

pub returns-in-Found-clause-finds : goal.returns-in-Found-clause-finds
returns-in-Found-clause-finds g c = λ a k i s.
    let p = c.args.problem.now in
    let ops = g.D.Domain.ops in
    let f = subst (λ (t : Turned). IsTurned ops p c.args.limit (g.P.Proposer.aim c.loop-search.proposer) c.loop-search.search t c.turn.new.search c.turn.new.tried.numbers.items) c.in-Found.is c.in_ok-turn.ensures.turned in
    f.2 a (c.loop-search.invariant.aim ∙ k) i s

pub log_of-requires : goal.log_of-requires
log_of-requires g c =
    let p = c.args.problem.now in
    let ops = g.D.Domain.ops in
    let aim = g.P.Proposer.aim c.loop-search.proposer in
    let f = subst (λ (t : Turned). IsTurned ops p c.args.limit aim c.loop-search.search t c.turn.new.search c.turn.new.tried.numbers.items) c.in-Refuted.is c.in_ok-turn.ensures.turned in
    bared_is_tree g.row.D.Denot ops p c.args.limit aim c.turn.new.search.draft.lines c.in_ok-bare-in-Refuted.bare.lines c.turn.new.search.splits false c.in_ok-bare-in-Refuted.ensures f.0

pub returns-in-Refuted-clause-answer : goal.returns-in-Refuted-clause-answer
returns-in-Refuted-clause-answer g c =
    let p = c.args.problem.now in
    let ops = g.D.Domain.ops in
    let f = subst (λ (t : Turned). IsTurned ops p c.args.limit (g.P.Proposer.aim c.loop-search.proposer) c.loop-search.search t c.turn.new.search c.turn.new.tried.numbers.items) c.in-Refuted.is c.in_ok-turn.ensures.turned in
    refuted_log g.row.D.Denot ops p c.args.limit (g.P.Proposer.aim c.loop-search.proposer) c.turn.new.search.draft.lines c.in_ok-bare-in-Refuted.bare.lines c.log_of.result.lines c.log_of.result.claim c.turn.new.search.splits c.in_ok-bare-in-Refuted.ensures c.log_of.ensures.lines c.log_of.ensures.claim f.0

pub returns-in-Refuted-clause-finds : goal.returns-in-Refuted-clause-finds
returns-in-Refuted-clause-finds g c = λ a k i s.
    let p = c.args.problem.now in
    let ops = g.D.Domain.ops in
    let f = subst (λ (t : Turned). IsTurned ops p c.args.limit (g.P.Proposer.aim c.loop-search.proposer) c.loop-search.search t c.turn.new.search c.turn.new.tried.numbers.items) c.in-Refuted.is c.in_ok-turn.ensures.turned in
    f.1 a (c.loop-search.invariant.aim ∙ k) i s

pub returns-in-Spent-clause-answer : goal.returns-in-Spent-clause-answer
returns-in-Spent-clause-answer g c =
    let p = c.args.problem.now in
    let ops = g.D.Domain.ops in
    let problem : IsProblem p = subst IsProblem c.problem.view_is c.problem.invariant.0 in
    let f = subst (λ (t : Turned). IsTurned ops p c.args.limit (g.P.Proposer.aim c.loop-search.proposer) c.loop-search.search t c.turn.new.search c.turn.new.tried.numbers.items) c.in-Spent.is c.in_ok-turn.ensures.turned in
    spent_log g.row.D.Denot ops p c.args.limit (g.P.Proposer.aim c.loop-search.proposer) g.met.D.Domain.laws problem g.met.D.Deciding.decides c.turn.new.search.draft.lines c.log_of-in-Spent.result.lines c.log_of-in-Spent.result.claim c.log_of-in-Spent.ensures.lines c.log_of-in-Spent.ensures.claim f.0

pub returns-in-Spent-clause-finds : goal.returns-in-Spent-clause-finds
returns-in-Spent-clause-finds g c = λ a k i s.
    let p = c.args.problem.now in
    let ops = g.D.Domain.ops in
    let f = subst (λ (t : Turned). IsTurned ops p c.args.limit (g.P.Proposer.aim c.loop-search.proposer) c.loop-search.search t c.turn.new.search c.turn.new.tried.numbers.items) c.in-Spent.is c.in_ok-turn.ensures.turned in
    f.1 a (c.loop-search.invariant.aim ∙ k) i s

pub returns-in-Spent-clause-follows : goal.returns-in-Spent-clause-follows
returns-in-Spent-clause-follows g c = λ a k l tree s.
    let p = c.args.problem.now in
    let ops = g.D.Domain.ops in
    let f = subst (λ (t : Turned). IsTurned ops p c.args.limit (g.P.Proposer.aim c.loop-search.proposer) c.loop-search.search t c.turn.new.search c.turn.new.tried.numbers.items) c.in-Spent.is c.in_ok-turn.ensures.turned in
    follows_log g.row.D.Denot ops p c.args.limit (g.P.Proposer.aim c.loop-search.proposer) c.turn.new.search.draft.lines c.log_of-in-Spent.result.lines c.args.limit true c.log_of-in-Spent.ensures.lines f.0 a (c.loop-search.invariant.aim ∙ k) l tree s
