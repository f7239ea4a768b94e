use Rattle.std.proofs.Common.{◌≡◌, ℕ, List, ◌++◌, ◌∷◌, [], sym, ap, ◌∙◌, subst}
use Rattle.dt_log.specs.declared.line.Line.{Line}
use Rattle.dt_box.specs.Steps.{after_step, target, narrowed}
use Rattle.dt_box.specs.Cells.{cell_at}
use Rattle.dt_box.specs.Changes.{IsChange}
use Rattle.dt_propagate.specs.Settling.{step_line}
use Rattle.dt_propagate.specs.Keeping.{IsCourse}
use Rattle.dt_propagate.proofs.Progress.{course_none, course_same, course_one}
use Rattle.dt_propagate.proofs.Marked.{same_cells}
use Rattle.dt_propagate.proofs.taking.log_step.Goals as goal

pub returns-in_err-push-clause-progress : goal.returns-in_err-push-clause-progress
returns-in_err-push-clause-progress g c =
    subst (λ (lines : List Line). IsCourse c.args.keep g.D.Domain.ops c.args.problem.now.terms c.args.cells.now c.args.trail.now c.args.draft.now.lines c.args.cells.now c.args.trail.now lines) (sym c.in_err-push.ensures.err)
    (course_none g.row.D.Denot g.D.Domain.ops c.args.problem.now.terms c.args.keep c.args.cells.now c.args.trail.now c.args.draft.now.lines c.requires.cells)

pub returns-in-Err-clause-progress : goal.returns-in-Err-clause-progress
returns-in-Err-clause-progress g c =
    let lines = c.pop.ensures.some c.args.draft.now.lines (step_line c.args.step) (c.in_ok-push.ensures.ok ∙ ap (λ (l : Line). c.args.draft.now.lines ++ l ∷ []) c.line_of.ensures) in
    course_same g.row.D.Denot g.D.Domain.ops c.args.problem.now.terms c.args.keep c.args.cells.now c.args.trail.now c.args.draft.now.lines c.apply.new.cells c.apply.new.trail c.pop.new.self.lines
    c.apply.ensures.are c.in-Err.ensures.err.0 c.apply.ensures.kept lines

pub returns-in-Ok-No-clause-progress : goal.returns-in-Ok-No-clause-progress
returns-in-Ok-No-clause-progress g c =
    let lines = c.pop-in-Ok-No.ensures.some c.args.draft.now.lines (step_line c.args.step) (c.in_ok-push.ensures.ok ∙ ap (λ (l : Line). c.args.draft.now.lines ++ l ∷ []) c.line_of.ensures) in
    let same = same_cells g.row.D.Denot g.D.Domain.ops c.args.problem.now.terms c.args.step c.args.cells.now c.apply.new.cells c.in-Ok-No.ensures.cells
    (subst (IsChange g.D.Domain.ops (cell_at g.D.Domain.ops c.args.cells.now (target c.args.problem.now.terms c.args.step)) (narrowed g.D.Domain.ops c.args.problem.now.terms c.args.step c.args.cells.now)) c.in-Ok-No.field-0-is c.in-Ok-No.ensures.change).1 in
    course_same g.row.D.Denot g.D.Domain.ops c.args.problem.now.terms c.args.keep c.args.cells.now c.args.trail.now c.args.draft.now.lines c.apply.new.cells c.apply.new.trail c.pop-in-Ok-No.new.self.lines
    c.apply.ensures.are same c.apply.ensures.kept lines

pub returns-in-Ok-Empty-clause-progress : goal.returns-in-Ok-Empty-clause-progress
returns-in-Ok-Empty-clause-progress g c =
    course_one g.row.D.Denot g.D.Domain.ops c.args.problem.now.terms c.args.keep c.args.cells.now c.args.trail.now c.args.draft.now.lines c.args.step c.apply.new.cells c.apply.new.trail c.push.new.self.lines
    c.requires.step c.apply.ensures.are c.apply.ensures.kept c.in-Ok-Empty.ensures.cells (c.in_ok-push.ensures.ok ∙ ap (λ (l : Line). c.args.draft.now.lines ++ l ∷ []) c.line_of.ensures)

pub returns-in-Ok-Narrowed-clause-progress : goal.returns-in-Ok-Narrowed-clause-progress
returns-in-Ok-Narrowed-clause-progress g c =
    course_one g.row.D.Denot g.D.Domain.ops c.args.problem.now.terms c.args.keep c.args.cells.now c.args.trail.now c.args.draft.now.lines c.args.step c.apply.new.cells c.apply.new.trail c.push.new.self.lines
    c.requires.step c.apply.ensures.are c.apply.ensures.kept c.in-Ok-Narrowed.ensures.cells (c.in_ok-push.ensures.ok ∙ ap (λ (l : Line). c.args.draft.now.lines ++ l ∷ []) c.line_of.ensures)

pub returns-in-Ok-BitKnown-clause-progress : goal.returns-in-Ok-BitKnown-clause-progress
returns-in-Ok-BitKnown-clause-progress g c =
    course_one g.row.D.Denot g.D.Domain.ops c.args.problem.now.terms c.args.keep c.args.cells.now c.args.trail.now c.args.draft.now.lines c.args.step c.apply.new.cells c.apply.new.trail c.push.new.self.lines
    c.requires.step c.apply.ensures.are c.apply.ensures.kept c.in-Ok-BitKnown.ensures.cells (c.in_ok-push.ensures.ok ∙ ap (λ (l : Line). c.args.draft.now.lines ++ l ∷ []) c.line_of.ensures)
