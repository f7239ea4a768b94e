use Rattle.std.proofs.Common.{◌<◌, ℕ, inr, subst}
use Rattle.std.specs.Prelude.{All}
use Rattle.dt_box.specs.Trails.{terms_of}
use Rattle.dt_check.specs.Noting.{AreNoted}
use Rattle.dt_check.proofs.Trying.{picked_now}
use Rattle.dt_check.proofs.trial.Trial.note_changes.Goals as goal

pub mark_changed-requires-clause-within : goal.mark_changed-requires-clause-within
mark_changed-requires-clause-within g c = subst (λ n. All (λ (change : ℕ × g.row.D.Denot). change.0 < n) c.args.trail.now) c.requires.cells.count c.requires.within

pub returns-clause-trying : goal.returns-clause-trying
returns-clause-trying g c =
    let terms = c.args.problem.now.terms in
    let trail = c.args.trail.now in
    let trial = c.args.self.now in
    let marks = c.mark_changed.new.marks.marks.items in
    record {
      watches = c.requires.trial.watches;
      seen_to = record { are = c.requires.trial.evaluated.are; each = λ t l. inr (c.requires.trial.evaluated.in_line t l) };
      picked = picked_now g.row.D.Denot g.D.Domain.ops terms c.args.cells.now trail trial marks c.requires.trial
          (subst (λ n. AreNoted terms (terms_of trail) trial.seen n trial.changed.marks.items marks) c.len-length.ensures c.mark_changed.ensures);
    }
