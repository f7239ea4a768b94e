use Rattle.std.proofs.Common.{◌≡◌, ℕ, length, List, refl, sym, subst}
use Rattle.dt_propagate.specs.Passing.{IsPassed}
use Rattle.dt_terms.specs.Terms.{AreTerms}
use Rattle.dt_propagate.proofs.Progress.{course_none, course_more, keeps_held, holds_none}
use Rattle.dt_propagate.proofs.settling.settle_marked.Goals as goal

pub loop-term-init : goal.loop-term-init
loop-term-init g c = record {
  progress = course_none g.row.D.Denot g.D.Domain.ops c.args.problem.now.terms c.args.keep c.args.cells.now c.args.trail.now c.args.draft.now.lines c.requires.cells;
  held = c.requires.held;
  room = c.requires.room;
  marked = c.requires.marked;
}

pub returns-in_err-pass-clause-progress : goal.returns-in_err-pass-clause-progress
returns-in_err-pass-clause-progress g c =
    course_more g.row.D.Denot g.D.Domain.ops c.args.problem.now.terms c.args.keep c.args.cells.now c.args.trail.now c.args.draft.now.lines c.loop-term.cells c.loop-term.trail c.loop-term.draft.lines c.pass.new.cells c.pass.new.trail c.pass.new.draft.lines
    c.requires.cells c.loop-term.invariant.progress c.pass.ensures.progress

pub returns-in-Nothing-clause-progress : goal.returns-in-Nothing-clause-progress
returns-in-Nothing-clause-progress g c =
    course_more g.row.D.Denot g.D.Domain.ops c.args.problem.now.terms c.args.keep c.args.cells.now c.args.trail.now c.args.draft.now.lines c.loop-term.cells c.loop-term.trail c.loop-term.draft.lines c.pass.new.cells c.pass.new.trail c.pass.new.draft.lines
    c.requires.cells c.loop-term.invariant.progress c.pass.ensures.progress

pub returns-in-Empty-clause-progress : goal.returns-in-Empty-clause-progress
returns-in-Empty-clause-progress g c =
    course_more g.row.D.Denot g.D.Domain.ops c.args.problem.now.terms c.args.keep c.args.cells.now c.args.trail.now c.args.draft.now.lines c.loop-term.cells c.loop-term.trail c.loop-term.draft.lines c.pass.new.cells c.pass.new.trail c.pass.new.draft.lines
    c.requires.cells c.loop-term.invariant.progress c.pass.ensures.progress

pub loop-term-preserved : goal.loop-term-preserved
loop-term-preserved g c =
    let k = subst (λ t. IsPassed g.D.Domain.ops c.args.problem.now.terms c.loop-term.cells c.loop-term.marks t c.pass.new.cells c.pass.new.marks) c.in-Change.is c.in_ok-pass.ensures.took in
    record {
      progress = course_more g.row.D.Denot g.D.Domain.ops c.args.problem.now.terms c.args.keep c.args.cells.now c.args.trail.now c.args.draft.now.lines c.loop-term.cells c.loop-term.trail c.loop-term.draft.lines c.pass.new.cells c.pass.new.trail c.pass.new.draft.lines
          c.requires.cells c.loop-term.invariant.progress c.pass.ensures.progress;
      held = k.held;
      room = c.in_ok-pass.ensures.room;
      marked = k.marked;
    }

pub returns-in_err-pass-clause-keeps : goal.returns-in_err-pass-clause-keeps
returns-in_err-pass-clause-keeps g c =
    let terms = c.args.problem.now.terms in
    let right : AreTerms terms = subst (λ p. AreTerms p.terms) c.problem.view_is c.problem.invariant.0.terms in
    keeps_held g.row.D.Denot g.D.Domain.ops terms g.met.D.Domain.laws right c.args.cells.now c.args.draft.now.lines c.pass.new.cells c.pass.new.draft.lines c.requires.cells
    (course_more g.row.D.Denot g.D.Domain.ops c.args.problem.now.terms c.args.keep c.args.cells.now c.args.trail.now c.args.draft.now.lines c.loop-term.cells c.loop-term.trail c.loop-term.draft.lines c.pass.new.cells c.pass.new.trail c.pass.new.draft.lines
    c.requires.cells c.loop-term.invariant.progress c.pass.ensures.progress).logged

pub returns-in-Nothing-clause-keeps : goal.returns-in-Nothing-clause-keeps
returns-in-Nothing-clause-keeps g c =
    let terms = c.args.problem.now.terms in
    let right : AreTerms terms = subst (λ p. AreTerms p.terms) c.problem.view_is c.problem.invariant.0.terms in
    keeps_held g.row.D.Denot g.D.Domain.ops terms g.met.D.Domain.laws right c.args.cells.now c.args.draft.now.lines c.pass.new.cells c.pass.new.draft.lines c.requires.cells
    (course_more g.row.D.Denot g.D.Domain.ops c.args.problem.now.terms c.args.keep c.args.cells.now c.args.trail.now c.args.draft.now.lines c.loop-term.cells c.loop-term.trail c.loop-term.draft.lines c.pass.new.cells c.pass.new.trail c.pass.new.draft.lines
    c.requires.cells c.loop-term.invariant.progress c.pass.ensures.progress).logged

pub returns-in-Empty-clause-keeps : goal.returns-in-Empty-clause-keeps
returns-in-Empty-clause-keeps g c =
    let terms = c.args.problem.now.terms in
    let right : AreTerms terms = subst (λ p. AreTerms p.terms) c.problem.view_is c.problem.invariant.0.terms in
    keeps_held g.row.D.Denot g.D.Domain.ops terms g.met.D.Domain.laws right c.args.cells.now c.args.draft.now.lines c.pass.new.cells c.pass.new.draft.lines c.requires.cells
    (course_more g.row.D.Denot g.D.Domain.ops c.args.problem.now.terms c.args.keep c.args.cells.now c.args.trail.now c.args.draft.now.lines c.loop-term.cells c.loop-term.trail c.loop-term.draft.lines c.pass.new.cells c.pass.new.trail c.pass.new.draft.lines
    c.requires.cells c.loop-term.invariant.progress c.pass.ensures.progress).logged

pub returns-in-Empty-clause-none : goal.returns-in-Empty-clause-none
returns-in-Empty-clause-none g c =
    let terms = c.args.problem.now.terms in
    let right : AreTerms terms = subst (λ p. AreTerms p.terms) c.problem.view_is c.problem.invariant.0.terms in
    let k = subst (λ t. IsPassed g.D.Domain.ops terms c.loop-term.cells c.loop-term.marks t c.pass.new.cells c.pass.new.marks) c.in-Empty.is c.in_ok-pass.ensures.took in
    holds_none g.row.D.Denot g.D.Domain.ops terms g.met.D.Domain.laws right c.args.cells.now c.args.draft.now.lines c.pass.new.cells c.pass.new.draft.lines c.in-Empty.term c.requires.cells c.pass.ensures.progress.cells
    (course_more g.row.D.Denot g.D.Domain.ops c.args.problem.now.terms c.args.keep c.args.cells.now c.args.trail.now c.args.draft.now.lines c.loop-term.cells c.loop-term.trail c.loop-term.draft.lines c.pass.new.cells c.pass.new.trail c.pass.new.draft.lines
    c.requires.cells c.loop-term.invariant.progress c.pass.ensures.progress).logged
    k.within k.empty
