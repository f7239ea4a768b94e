use Rattle.std.proofs.Common.{◌≡◌, ℕ, ◌+◌, ◌*◌, ◌<◌, ◌≤◌, true, false, List, length, get_or, refl, sym, ap, ◌∙◌, subst, arith, inl, inr}
use Rattle.std.proofs.lemmas.List.{get_or_default}
use Rattle.dt_terms.specs.declared.term.Term.{Term}
use Rattle.dt_terms.specs.Terms.{term_at}
use Rattle.dt_box.specs.declared.step.Step.TheVariants.{Backward}
use Rattle.dt_box.specs.Cells.{AreCells}
use Rattle.dt_box.specs.Stillness.{HasNoEmpty, tells}
use Rattle.dt_box.specs.Steps.{target}
use Rattle.dt_propagate.specs.declared.marks.Marks.{Marks}
use Rattle.dt_propagate.specs.Marks.{HasRoom}
use Rattle.dt_propagate.specs.Passing.{AreMarkedBut, IsTaken, IsStepTaken, IsVisited, IsLeft, place_count}
use Rattle.dt_propagate.proofs.Progress.{course_none, course_more}
use Rattle.dt_propagate.proofs.Marked.{but_taken, backward_next, backward_changed, backward_last, place_of_node}
use Rattle.dt_propagate.proofs.passing.visit_backward.Goals as goal

pub loop-place-init : goal.loop-place-init
loop-place-init g c = record {
  progress = course_none g.row.D.Denot g.D.Domain.ops c.args.problem.now.terms c.args.keep c.args.cells.now c.args.trail.now c.args.draft.now.lines c.requires.cells;
  marked = c.requires.marked;
  same = refl;
  marks = refl;
}

pub returns-in_err-take_step-clause-progress : goal.returns-in_err-take_step-clause-progress
returns-in_err-take_step-clause-progress g c =
    course_more g.row.D.Denot g.D.Domain.ops c.args.problem.now.terms c.args.keep c.args.cells.now c.args.trail.now c.args.draft.now.lines c.loop-place.cells c.loop-place.trail c.loop-place.draft.lines c.take_step.new.cells c.take_step.new.trail c.take_step.new.draft.lines
    c.requires.cells c.loop-place.invariant.progress c.take_step.ensures.progress

pub returns-in-Empty-clause-progress : goal.returns-in-Empty-clause-progress
returns-in-Empty-clause-progress g c =
    course_more g.row.D.Denot g.D.Domain.ops c.args.problem.now.terms c.args.keep c.args.cells.now c.args.trail.now c.args.draft.now.lines c.loop-place.cells c.loop-place.trail c.loop-place.draft.lines c.take_step.new.cells c.take_step.new.trail c.take_step.new.draft.lines
    c.requires.cells c.loop-place.invariant.progress c.take_step.ensures.progress

pub returns-in-Change-clause-progress : goal.returns-in-Change-clause-progress
returns-in-Change-clause-progress g c =
    course_more g.row.D.Denot g.D.Domain.ops c.args.problem.now.terms c.args.keep c.args.cells.now c.args.trail.now c.args.draft.now.lines c.loop-place.cells c.loop-place.trail c.loop-place.draft.lines c.take_step.new.cells c.take_step.new.trail c.take_step.new.draft.lines
    c.requires.cells c.loop-place.invariant.progress c.take_step.ensures.progress

pub loop-place-preserved : goal.loop-place-preserved
loop-place-preserved g c =
    let ops = g.D.Domain.ops in
    let terms = c.args.problem.now.terms in
    let step = Backward c.args.node c.loop-place.place in
    let k = subst (λ t. IsTaken ops terms step c.loop-place.cells c.loop-place.marks t c.take_step.new.cells c.take_step.new.marks) c.in-Nothing.is c.in_ok-take_step.ensures.took in
    let i = c.loop-place.invariant in
    record {
      progress = course_more g.row.D.Denot ops terms c.args.keep c.args.cells.now c.args.trail.now c.args.draft.now.lines c.loop-place.cells c.loop-place.trail c.loop-place.draft.lines c.take_step.new.cells c.take_step.new.trail c.take_step.new.draft.lines
          c.requires.cells i.progress c.take_step.ensures.progress;
      marked = backward_next g.row.D.Denot ops terms c.args.node c.loop-place.place c.args.cells.now c.args.marks.now.bits.words.items (inl (subst (λ ds. tells ops terms step ds ≡ false) i.same k.2)) i.marked;
      same = k.0 ∙ i.same;
      marks = k.1 ∙ i.marks;
    }

pub returns-in-Change-clause-took : goal.returns-in-Change-clause-took
returns-in-Change-clause-took g c =
    let D = g.row.D.Denot in
    let ops = g.D.Domain.ops in
    let terms = c.args.problem.now.terms in
    let step = Backward c.args.node c.loop-place.place in
    let i = c.loop-place.invariant in
    let k0 = subst (λ t. IsTaken ops terms step c.loop-place.cells c.loop-place.marks t c.take_step.new.cells c.take_step.new.marks) c.in-Change.is c.in_ok-take_step.ensures.took in
    let k1 = subst (λ ds. IsStepTaken ops terms step ds c.loop-place.marks c.take_step.new.cells c.take_step.new.marks) i.same k0 in
    let k = subst (λ ms. IsStepTaken ops terms step c.args.cells.now ms c.take_step.new.cells c.take_step.new.marks) i.marks k1 in
    let n : c.places-place-end.result ≡ place_count (term_at terms c.args.node) = c.places-place-end.ensures
    ∙ ap place_count (ap (λ (ts : List Term). get_or ts c.args.node _) (c.as_slice.ensures ∙ ap (λ p. p.terms) c.problem.view_is) ∙ get_or_default terms c.args.node _ _ c.requires.node) in
    let l : c.loop-place.place < place_count (term_at terms c.args.node) = omega (arith, c.loop-place-test.true) in
    record {
      held = k.held;
      marked = backward_changed D ops terms c.args.node c.loop-place.place c.take_step.new.cells c.take_step.new.marks.bits.words.items (c.requires.node, place_of_node (term_at terms c.args.node) c.loop-place.place l) k.near
          (but_taken D ops terms (IsLeft c.args.node c.loop-place.place) step c.args.cells.now c.take_step.new.cells c.args.marks.now c.take_step.new.marks k i.marked);
      cost = k.cost;
    }

pub returns-clause-took : goal.returns-clause-took
returns-clause-took g c =
    let ops = g.D.Domain.ops in
    let terms = c.args.problem.now.terms in
    let i = c.loop-place.invariant in
    let n : c.places-place-end.result ≡ place_count (term_at terms c.args.node) = c.places-place-end.ensures
    ∙ ap place_count (ap (λ (ts : List Term). get_or ts c.args.node _) (c.as_slice.ensures ∙ ap (λ p. p.terms) c.problem.view_is) ∙ get_or_default terms c.args.node _ _ c.requires.node) in
    let l : place_count (term_at terms c.args.node) ≤ c.loop-place.place = omega (arith, c.loop-place-test.false) in
    (i.same, i.marks, backward_last g.row.D.Denot ops terms c.args.node c.loop-place.place c.args.cells.now c.args.marks.now.bits.words.items l i.marked)
