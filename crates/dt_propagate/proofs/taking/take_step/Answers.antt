use Rattle.std.proofs.Common.{◌≡◌, ℕ, zero, suc, ◌+◌, ◌-◌, ◌<◌, ◌≤◌, true, false, List, length, refl, sym, ap, ◌∙◌, subst, arith, ⊎_elim}
use Rattle.dt_terms.specs.Terms.{AreTerms}
use Rattle.dt_box.specs.Steps.{target, narrowed}
use Rattle.dt_box.specs.Changes.{IsChange}
use Rattle.dt_box.specs.Stillness.{tells}
use Rattle.dt_box.specs.Cells.{cell_at}
use Rattle.dt_propagate.specs.Marks.{AreMarkedNear}
use Rattle.dt_propagate.specs.Passing.{IsEmptied}
use Rattle.dt_propagate.proofs.Progress.{course_none, target_in}
use Rattle.dt_propagate.proofs.Marked.{same_tells, same_cells, bit_taken, narrowing_taken, only_narrows, emptied, none_left, some_left}
use Rattle.dt_propagate.proofs.taking.take_step.Goals as goal

pub returns-then-not-may_take-clause-progress : goal.returns-then-not-may_take-clause-progress
returns-then-not-may_take-clause-progress g c = course_none g.row.D.Denot g.D.Domain.ops c.args.problem.now.terms c.args.keep c.args.cells.now c.args.trail.now c.args.draft.now.lines c.requires.cells

pub returns-then-not-may_take-clause-took : goal.returns-then-not-may_take-clause-took
returns-then-not-may_take-clause-took g c = (refl, refl, none_left c.args.marks.now.narrowings (tells g.D.Domain.ops c.args.problem.now.terms c.args.step c.args.cells.now) (sym c.if-not-may_take.ensures))

pub mark_near-requires-clause-term : goal.mark_near-requires-clause-term
mark_near-requires-clause-term g c =
    let terms = c.args.problem.now.terms in
    let right : AreTerms terms = subst (λ p. AreTerms p.terms) c.problem.view_is c.problem.invariant.0.terms in
    let l = target_in g.row.D.Denot g.D.Domain.ops terms g.met.D.Domain.laws right c.args.step c.args.cells.now c.requires.cells c.requires.step in
    omega (arith, c.target-target.ensures)

pub mark_near-requires-in-BitKnown-clause-term : goal.mark_near-requires-in-BitKnown-clause-term
mark_near-requires-in-BitKnown-clause-term g c =
    let terms = c.args.problem.now.terms in
    let right : AreTerms terms = subst (λ p. AreTerms p.terms) c.problem.view_is c.problem.invariant.0.terms in
    let l = target_in g.row.D.Denot g.D.Domain.ops terms g.met.D.Domain.laws right c.args.step c.args.cells.now c.requires.cells c.requires.step in
    omega (arith, c.target-target.ensures)

pub returns-in-No-clause-took : goal.returns-in-No-clause-took
returns-in-No-clause-took g c =
    let D = g.row.D.Denot in
    let ops = g.D.Domain.ops in
    let terms = c.args.problem.now.terms in
    let k = subst (IsChange ops (cell_at ops c.args.cells.now (target terms c.args.step)) (narrowed ops terms c.args.step c.args.cells.now)) c.in-No.is c.in_ok-log_step.ensures.change in
    (same_cells D ops terms c.args.step c.args.cells.now c.log_step.new.cells c.in_ok-log_step.ensures.cells k.1, refl, same_tells D ops terms c.args.step c.args.cells.now k.0 k.1)

pub returns-in-Empty-clause-took : goal.returns-in-Empty-clause-took
returns-in-Empty-clause-took g c =
    let ops = g.D.Domain.ops in
    let terms = c.args.problem.now.terms in
    let right : AreTerms terms = subst (λ p. AreTerms p.terms) c.problem.view_is c.problem.invariant.0.terms in
    let k = subst (IsChange ops (cell_at ops c.args.cells.now (target terms c.args.step)) (narrowed ops terms c.args.step c.args.cells.now)) c.in-Empty.is c.in_ok-log_step.ensures.change in
    emptied g.row.D.Denot ops g.met.D.Domain.laws terms right c.args.step c.args.cells.now c.log_step.new.cells c.target-target.result c.requires.cells c.requires.step k c.in_ok-log_step.ensures.cells c.target-target.ensures

pub returns-in-Narrowed-clause-took : goal.returns-in-Narrowed-clause-took
returns-in-Narrowed-clause-took g c =
    let ops = g.D.Domain.ops in
    let terms = c.args.problem.now.terms in
    let right : AreTerms terms = subst (λ p. AreTerms p.terms) c.problem.view_is c.problem.invariant.0.terms in
    let k = subst (IsChange ops (cell_at ops c.args.cells.now (target terms c.args.step)) (narrowed ops terms c.args.step c.args.cells.now)) c.in-Narrowed.is c.in_ok-log_step.ensures.change in
    let n = some_left c.args.marks.now.narrowings (tells ops terms c.args.step c.args.cells.now) (sym c.if-not-may_take.ensures) (only_narrows g.row.D.Denot ops g.met.D.Domain.laws terms right c.args.step c.args.cells.now k.0 k.2) in
    narrowing_taken g.row.D.Denot ops g.met.D.Domain.laws terms right c.args.step c.args.cells.now c.log_step.new.cells c.args.marks.now c.mark_near.new.self c.requires.cells c.requires.step c.requires.held c.in_ok-log_step.ensures.cells k.0
    c.mark_near.ensures.grows (subst (AreMarkedNear terms c.mark_near.new.self.bits.words.items) c.target-target.ensures c.mark_near.ensures.near) (omega (arith, c.mark_near.ensures.narrowings))

pub returns-in-BitKnown-clause-took : goal.returns-in-BitKnown-clause-took
returns-in-BitKnown-clause-took g c =
    let ops = g.D.Domain.ops in
    let terms = c.args.problem.now.terms in
    let right : AreTerms terms = subst (λ p. AreTerms p.terms) c.problem.view_is c.problem.invariant.0.terms in
    let k = subst (IsChange ops (cell_at ops c.args.cells.now (target terms c.args.step)) (narrowed ops terms c.args.step c.args.cells.now)) c.in-BitKnown.is c.in_ok-log_step.ensures.change in
    bit_taken g.row.D.Denot ops g.met.D.Domain.laws terms right c.args.step c.args.cells.now c.log_step.new.cells c.args.marks.now c.mark_near-in-BitKnown.new.self c.requires.cells c.requires.step c.requires.held c.in_ok-log_step.ensures.cells k.0 k.2
    c.mark_near-in-BitKnown.ensures.grows (subst (AreMarkedNear terms c.mark_near-in-BitKnown.new.self.bits.words.items) c.target-target.ensures c.mark_near-in-BitKnown.ensures.near) c.mark_near-in-BitKnown.ensures.narrowings
