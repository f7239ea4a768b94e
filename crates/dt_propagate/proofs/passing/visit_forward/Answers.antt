use Rattle.std.proofs.Common.{◌≡◌, ℕ, ◌+◌, ◌*◌, ◌<◌, ◌≤◌, true, false, List, length, refl, sym, ap, ◌∙◌, subst, arith, inl, inr}
use Rattle.dt_box.specs.declared.step.Step.TheVariants.{Forward}
use Rattle.dt_propagate.specs.Passing.{IsTaken, StandsAt}
use Rattle.dt_propagate.proofs.Marked.{but_taken, forward_taken}
use Rattle.dt_propagate.proofs.passing.visit_forward.Goals as goal

pub returns-in-Nothing-clause-took : goal.returns-in-Nothing-clause-took
returns-in-Nothing-clause-took g c =
    let ops = g.D.Domain.ops in
    let terms = c.args.problem.now.terms in
    let k = subst (λ t. IsTaken ops terms (Forward c.args.node) c.args.cells.now c.args.marks.now t c.take_step.new.cells c.take_step.new.marks) c.in-Nothing.is c.in_ok-take_step.ensures.took in
    (k.0, k.1, forward_taken g.row.D.Denot ops terms c.args.node c.args.cells.now c.args.marks.now.bits.words.items c.requires.node (inl k.2) c.requires.marked)

pub returns-in-Change-clause-took : goal.returns-in-Change-clause-took
returns-in-Change-clause-took g c =
    let D = g.row.D.Denot in
    let ops = g.D.Domain.ops in
    let terms = c.args.problem.now.terms in
    let k = subst (λ t. IsTaken ops terms (Forward c.args.node) c.args.cells.now c.args.marks.now t c.take_step.new.cells c.take_step.new.marks) c.in-Change.is c.in_ok-take_step.ensures.took in
    record {
      held = k.held;
      marked = forward_taken D ops terms c.args.node c.take_step.new.cells c.take_step.new.marks.bits.words.items c.requires.node (inr k.near)
          (but_taken D ops terms (StandsAt terms c.args.node) (Forward c.args.node) c.args.cells.now c.take_step.new.cells c.args.marks.now c.take_step.new.marks k c.requires.marked);
      cost = k.cost;
    }
