use Rattle.std.proofs.Common.{◌≡◌, ◌<◌, [], length, set, refl, ap, sym, subst, ◌∙◌}
use Rattle.dt_terms.specs.Terms.{AreTerms}
use Rattle.dt_box.specs.Steps.{narrowed}
use Rattle.dt_box.specs.Trails.{back}
use Rattle.dt_box.proofs.Steps.{step_narrows}
use Rattle.dt_check.specs.Trying.{ArePicked}
use Rattle.dt_check.proofs.Trying.{picked_noted}
use Rattle.dt_check.proofs.trial.Trial.apply.Goals as goal

pub mark_choice-requires-clause-term : goal.mark_choice-requires-clause-term
mark_choice-requires-clause-term g c =
    let terms = c.args.problem.now.terms in
    let right : AreTerms terms = subst (λ p. AreTerms p.terms) c.problem.view_is c.problem.invariant.0.terms in
    subst (λ t. t < length terms) (sym c.target.ensures)
    (step_narrows g.row.D.Denot g.D.Domain.ops g.met.D.Domain.laws terms right c.args.step c.args.cells.now c.requires.cells c.requires.step).within

pub returns-clause-trial : goal.returns-clause-trial
returns-clause-trial g c =
    let D = g.row.D.Denot in
    let ops = g.D.Domain.ops in
    let terms = c.args.problem.now.terms in
    let cells = c.args.cells.now in
    let trial = c.args.self.now in
    let t = c.target.result in
    let d = narrowed ops terms c.args.step cells in
    let marks = c.mark_choice.new.marks.marks.items in
    let right : AreTerms terms = subst (λ p. AreTerms p.terms) c.problem.view_is c.problem.invariant.0.terms in
    let l : t < length terms = subst (λ u. u < length terms) (sym c.target.ensures) (step_narrows D ops g.met.D.Domain.laws terms right c.args.step cells c.requires.cells c.requires.step).within in
    let e : c.apply.new.self ≡ set cells t d = c.apply.ensures.cells ∙ ap (λ u. set cells u d) (sym c.target.ensures) in
    record {
      watches = c.requires.trial.watches;
      evaluated = c.requires.trial.evaluated;
      seen = c.requires.trial.seen;
      picked = subst (λ ds. ArePicked ops terms (back ds [] trial.seen) marks trial.evaluation.values.items) (sym e)
          (picked_noted D ops terms cells [] trial t d marks refl l c.mark_choice.ensures c.requires.trial);
    }
