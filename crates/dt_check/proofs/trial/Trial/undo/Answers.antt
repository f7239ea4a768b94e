use Rattle.std.proofs.Common.{◌≤◌, ◌<◌, ℕ, length, ap, subst, arith}
use Rattle.std.specs.Prelude.{All}
use Rattle.std.proofs.lemmas.List.{length-take-le}
use Rattle.dt_check.proofs.Trying.{picked_then, picked_back}
use Rattle.dt_check.proofs.trial.Trial.undo.Goals as goal

pub mark_changed-requires-clause-within : goal.mark_changed-requires-clause-within
mark_changed-requires-clause-within g c = subst (λ n. All (λ (change : ℕ × g.row.D.Denot). change.0 < n) c.args.trail.now) c.requires.cells.count c.requires.within

pub returns-clause-trial : goal.returns-clause-trial
returns-clause-trial g c =
    let D = g.row.D.Denot in
    let ops = g.D.Domain.ops in
    let terms = c.args.problem.now.terms in
    let cells = c.args.cells.now in
    let trail = c.args.trail.now in
    let trial = c.args.self.now in
    let n = c.min-seen.result in
    let marks = c.mark_changed.new.marks.marks.items in
    let l : n ≤ trial.seen = omega (arith, c.min-seen.ensures) in
    let m : n ≤ c.args.to = omega (arith, c.min-seen.ensures) in
    let picked = picked_then D ops terms cells trail trial n marks l c.requires.trial c.mark_changed.ensures in
    record {
      watches = c.requires.trial.watches;
      evaluated = c.requires.trial.evaluated;
      seen = omega (arith, m, ap length c.undo.ensures.trail, length-take-le c.args.to trail c.requires.to);
      picked = picked_back D ops terms cells c.undo.new.self trail c.undo.new.trail c.args.to n marks trial.evaluation.values.items m c.requires.to c.undo.ensures.cells c.undo.ensures.trail picked;
    }
