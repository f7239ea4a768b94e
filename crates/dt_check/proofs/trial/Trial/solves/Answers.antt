use Rattle.std.proofs.Common.{◌≡◌, List, length, sym, ap, ◌∙◌, subst, arith}
use Rattle.dt_terms.specs.Values.{solves}
use Rattle.dt_box.specs.Trails.{back}
use Rattle.dt_box.proofs.Trails.{back_whole}
use Rattle.dt_check.specs.Trying.{ArePicked}
use Rattle.dt_check.proofs.Trying.{picked_values}
use Rattle.dt_check.proofs.trial.Trial.solves.Goals as goal

pub returns-clause-solves : goal.returns-clause-solves
returns-clause-solves g c = c.eval.ensures.solves ∙ ap (solves c.args.problem.now) c.take_tries.ensures.numbers

pub returns-clause-trial : goal.returns-clause-trial
returns-clause-trial g c =
    let D = g.row.D.Denot in
    let ops = g.D.Domain.ops in
    let terms = c.args.problem.now.terms in
    let cells = c.args.cells.now in
    let trail = c.args.trail.now in
    let trial = c.take_tries.new.self in
    let marks = trial.changed.marks.items in
    let values = c.eval.new.self.values.items in
    let seen : trial.seen ≡ length trail = c.take_tries.ensures.seen ∙ c.take_picks.ensures.seen ∙ c.note_changes.ensures.seen in
    record {
      watches = c.take_tries.ensures.trying.watches;
      evaluated = c.eval.ensures.evaluated;
      seen = omega (arith, seen);
      picked = subst (λ (ds : List D). ArePicked ops terms ds marks values) (sym (ap (back cells trail) seen ∙ back_whole cells trail))
          (picked_values D ops terms cells marks trial.evaluation.values.items values c.eval.ensures.choices c.take_tries.ensures.trying.picked);
    }
