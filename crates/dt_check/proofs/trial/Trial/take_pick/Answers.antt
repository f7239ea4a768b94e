use Rattle.std.proofs.Common.{◌<◌, ◌^◌, ℕ, Bool, List, length, sym, set, subst, arith}
use Rattle.dt_terms.specs.Terms.{bits_at}
use Rattle.dt_check.specs.Trying.{ArePicked}
use Rattle.dt_check.proofs.Trying.{pick_fits, picked_one}
use Rattle.dt_check.proofs.trial.Trial.take_pick.Goals as goal

pub set_choice-requires-clause-number : goal.set_choice-requires-clause-number
set_choice-requires-clause-number g c =
    subst (λ n. n < 2 ^ bits_at c.args.problem.now.terms c.args.term) (sym c.pick_at-number.ensures)
    (pick_fits g.row.D.Denot g.D.Domain.ops g.met.D.Domain.laws c.args.problem.now.terms c.args.cells.now c.args.term c.requires.cells c.requires.held c.requires.term)

pub returns-clause-trying : goal.returns-clause-trying
returns-clause-trying g c =
    let D = g.row.D.Denot in
    let ops = g.D.Domain.ops in
    let terms = c.args.problem.now.terms in
    let cells = c.args.cells.now in
    let marks = c.args.self.now.changed.marks.items in
    let values = c.args.self.now.evaluation.values.items in
    let t = c.args.term in
    let v = c.pick_at-number.result in
    let l : t < length values = omega (arith, c.requires.term, c.requires.trying.seen_to.are.count) in
    record {
      watches = c.requires.trying.watches;
      seen_to = c.set_choice.ensures.seen_to;
      picked = subst (λ (vs : List ℕ). ArePicked ops terms cells c.unmark.new.self.marks.items vs) (sym c.set_choice.ensures.values)
          (subst (λ (ms : List Bool). ArePicked ops terms cells ms (set values t v)) (sym c.unmark.ensures) (picked_one D ops terms cells marks values t v l c.pick_at-number.ensures c.requires.trying.picked));
    }
