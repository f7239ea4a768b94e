use Rattle.std.proofs.Common.{◌≡◌, ℕ, ◌+◌, ◌*◌, ◌<◌, ◌≤◌, true, false, not, ◌&&◌, eqb, List, length, refl, sym, ap, ◌∙◌, subst, arith, inl, inr, ⊎_elim}
use Rattle.std.proofs.lemmas.Bool.{false≢true, true≢false}
use Rattle.dt_box.specs.Stillness.{HasNoEmpty}
use Rattle.dt_propagate.specs.declared.marks.Marks.{Marks}
use Rattle.dt_propagate.proofs.Marking.{unmarked_none}
use Rattle.dt_propagate.specs.Marks.{is_marked}
use Rattle.dt_propagate.specs.Passing.{IsVisited, AreMarked, cost}
use Rattle.dt_propagate.proofs.Progress.{course_none, course_more}
use Rattle.dt_propagate.proofs.passing.pass.Goals as goal

pub loop-at-init : goal.loop-at-init
loop-at-init g c = record {
  progress = course_none g.row.D.Denot g.D.Domain.ops c.args.problem.now.terms c.args.keep c.args.cells.now c.args.trail.now c.args.draft.now.lines c.requires.cells;
  held = c.requires.held;
  room = c.requires.room;
  marked = c.requires.marked;
  most = omega arith;
  none = λ _ i l. absurd (omega arith);
  cost = λ e. absurd (false≢true e);
}

pub returns-in_err-visit-clause-progress : goal.returns-in_err-visit-clause-progress
returns-in_err-visit-clause-progress g c =
    course_more g.row.D.Denot g.D.Domain.ops c.args.problem.now.terms c.args.keep c.args.cells.now c.args.trail.now c.args.draft.now.lines c.loop-at.cells c.loop-at.trail c.loop-at.draft.lines c.visit.new.cells c.visit.new.trail c.visit.new.draft.lines
    c.requires.cells c.loop-at.invariant.progress c.visit.ensures.progress

pub returns-in-Empty-clause-progress : goal.returns-in-Empty-clause-progress
returns-in-Empty-clause-progress g c =
    course_more g.row.D.Denot g.D.Domain.ops c.args.problem.now.terms c.args.keep c.args.cells.now c.args.trail.now c.args.draft.now.lines c.loop-at.cells c.loop-at.trail c.loop-at.draft.lines c.visit.new.cells c.visit.new.trail c.visit.new.draft.lines
    c.requires.cells c.loop-at.invariant.progress c.visit.ensures.progress

pub loop-at-preserved-in-Nothing : goal.loop-at-preserved-in-Nothing
loop-at-preserved-in-Nothing g c =
    let ops = g.D.Domain.ops in
    let terms = c.args.problem.now.terms in
    let cells = c.loop-at.cells in
    let after : Marks = record { bits = c.unmark.new.self; narrowings = c.loop-at.marks.narrowings } in
    let k = subst (λ t. IsVisited ops terms cells after t c.visit.new.cells c.visit.new.marks) c.in-Nothing.is c.in_ok-visit.ensures.took in
    let e : cost ops terms c.visit.new.cells c.visit.new.marks.narrowings ≡ cost ops terms cells c.loop-at.marks.narrowings =
    ap (λ ds. cost ops terms ds c.visit.new.marks.narrowings) k.0 ∙ ap (λ (m : Marks). cost ops terms cells m.narrowings) k.1 in
    let w : c.visit.new.marks.bits.words.items ≡ c.unmark.new.self.words.items = ap (λ (m : Marks). m.bits.words.items) k.1 in
    let next = c.in-Some.ensures in
    record {
      progress = course_more g.row.D.Denot ops terms c.args.keep c.args.cells.now c.args.trail.now c.args.draft.now.lines cells c.loop-at.trail c.loop-at.draft.lines c.visit.new.cells c.visit.new.trail c.visit.new.draft.lines
          c.requires.cells c.loop-at.invariant.progress c.visit.ensures.progress;
      held = subst (HasNoEmpty ops) (sym k.0) c.loop-at.invariant.held;
      room = c.in_ok-visit.ensures.room;
      marked = subst (λ ds. AreMarked ops terms ds c.visit.new.marks.bits.words.items) (sym k.0) (subst (AreMarked ops terms cells) (sym w) k.2);
      most = let m = c.loop-at.invariant.most in omega arith;
      none = λ q i l. ap (λ ws. is_marked ws i) w
          ∙ unmarked_none c.loop-at.marks.bits.words.items c.unmark.new.self.words.items c.loop-at.from c.in-Some.at i c.unmark.ensures.marks (λ m. c.loop-at.invariant.none q i m) (λ a b. next.2 i a b) (omega arith);
      cost = λ q. let m = c.loop-at.invariant.cost q in omega arith;
    }

pub loop-at-preserved : goal.loop-at-preserved
loop-at-preserved g c =
    let ops = g.D.Domain.ops in
    let terms = c.args.problem.now.terms in
    let cells = c.loop-at.cells in
    let after : Marks = record { bits = c.unmark.new.self; narrowings = c.loop-at.marks.narrowings } in
    let k = subst (λ t. IsVisited ops terms cells after t c.visit.new.cells c.visit.new.marks) c.in-Change.is c.in_ok-visit.ensures.took in
    let less = k.cost in
    let m = c.loop-at.invariant.most in
    record {
      progress = course_more g.row.D.Denot ops terms c.args.keep c.args.cells.now c.args.trail.now c.args.draft.now.lines cells c.loop-at.trail c.loop-at.draft.lines c.visit.new.cells c.visit.new.trail c.visit.new.draft.lines
          c.requires.cells c.loop-at.invariant.progress c.visit.ensures.progress;
      held = k.held;
      room = c.in_ok-visit.ensures.room;
      marked = k.marked;
      most = omega arith;
      none = λ e. absurd (true≢false e);
      cost = λ _. omega arith;
    }
