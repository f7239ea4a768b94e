use Rattle.std.proofs.Common.{◌≡◌, ℕ, ◌*◌, ◌+◌, ◌<◌, ◌≤◌, length, List, get_or, refl, sym, ap, ◌∙◌, subst, arith, below_more}
use Rattle.dt_propagate.specs.Marks.{AreMarkedNear}
use Rattle.dt_propagate.proofs.Progress.{progress_none, kept_course}
use Rattle.dt_propagate.proofs.Marked.{covered_marked, near_grows}
use Rattle.dt_propagate.proofs.settling.settle_from.Goals as goal

pub returns-in_err-marks-clause-progress : goal.returns-in_err-marks-clause-progress
returns-in_err-marks-clause-progress g c = progress_none g.row.D.Denot g.D.Domain.ops c.args.problem.now.terms c.args.cells.now c.args.trail.now c.args.draft.now.lines c.requires.cells

pub returns-clause-progress : goal.returns-clause-progress
returns-clause-progress g c =
    kept_course g.row.D.Denot g.D.Domain.ops c.args.problem.now.terms c.args.cells.now c.args.trail.now c.args.draft.now.lines c.settle_marked.new.cells c.settle_marked.new.trail c.settle_marked.new.draft.lines c.settle_marked.ensures.progress

pub loop-term-preserved : goal.loop-term-preserved
loop-term-preserved g c =
    let terms = c.args.problem.now.terms in
    let words = c.mark_near.new.self.bits.words.items in
    record {
      room = c.mark_near.ensures.room;
      near = below_more (λ k. AreMarkedNear terms words (get_or c.args.changed.now k 0)) c.loop-term.term-index
          (λ k l. near_grows terms c.loop-term.marks.bits.words.items words (get_or c.args.changed.now k 0) c.mark_near.ensures.grows (c.loop-term.invariant.near k l)) c.mark_near.ensures.near;
    }

pub settle_marked-requires-clause-marked : goal.settle_marked-requires-clause-marked
settle_marked-requires-clause-marked g c =
    covered_marked g.row.D.Denot g.D.Domain.ops c.args.problem.now.terms c.args.cells.now c.loop-term.marks.bits.words.items c.args.changed.now c.requires.covers (λ k l. c.loop-term.invariant.near k (omega (arith, c.loop-term-test.false)))
