use Rattle.std.proofs.Common.{◌<◌, ◌≤◌, Bool, false, List, length, get_or, ap, sym, ◌∙◌, subst, ⊎_elim, arith, rules}
use Rattle.std.proofs.lemmas.Bool.{cases_lt}
use Rattle.dt_terms.specs.Problem.{ProblemData, most_terms}
use Rattle.dt_check.specs.Marks.{HasNone}
use Rattle.dt_check.specs.Trying.{ArePicked}
use Rattle.dt_check.proofs.Evaluating.{none_before}
use Rattle.dt_check.proofs.Trying.{all_picked}
use Rattle.dt_check.proofs.trial.Trial.take_picks.Goals as goal

pub overflow_cast-term : goal.overflow_cast-term
overflow_cast-term g c =
    let n : length c.args.problem.now.terms ≤ most_terms = subst (λ (p : ProblemData). length p.terms ≤ most_terms) c.problem.view_is c.problem.invariant.0.count in
    let l : c.in-Some.term < 4294967296 = omega (arith, c.in-Some.ensures.within, c.choices.invariant.trying.picked.count) in
    search rules

pub take_pick-requires-clause-choice : goal.take_pick-requires-clause-choice
take_pick-requires-clause-choice g c = c.choices.invariant.trying.picked.choices c.in-Some.term c.in-Some.ensures.marked

pub choices-preserved : goal.choices-preserved
choices-preserved g c =
    let marks = c.choices.self.changed.marks.items in
    let from = c.choices.from in
    let t = c.in-Some.term in
    record {
      from = omega (arith, c.in-Some.ensures.within, c.choices.invariant.trying.picked.count);
      trying = c.take_pick.ensures.trying;
      before = λ n k l.
          ap (λ (ms : List Bool). get_or ms n false) c.take_pick.ensures.changed
          ∙ none_before marks t n c.in-Some.ensures.within
          (λ i a b. ⊎_elim (λ (m : i < from). c.choices.invariant.before i a m) (λ (m : from ≤ i). c.in-Some.ensures.first i m b) (cases_lt i from)) l;
      seen = c.take_pick.ensures.seen ∙ c.choices.invariant.seen;
    }

pub returns-clause-trying : goal.returns-clause-trying
returns-clause-trying g c = record {
  watches = c.choices.invariant.trying.watches;
  seen_to = c.choices.invariant.trying.seen_to;
  picked = subst (λ (ms : List Bool). ArePicked g.D.Domain.ops c.args.problem.now.terms c.args.cells.now ms c.choices.self.evaluation.values.items) (sym c.clear.ensures.marks) c.choices.invariant.trying.picked;
}

pub returns-clause-numbers : goal.returns-clause-numbers
returns-clause-numbers g c =
    let marks = c.choices.self.changed.marks.items in
    let none : HasNone marks 0 (length marks) = search rules in
    all_picked g.row.D.Denot g.D.Domain.ops c.args.problem.now.terms c.args.cells.now marks c.choices.self.evaluation.values.items c.choices.invariant.trying.picked
    (λ n a b. none n a (omega (arith, b, c.choices.invariant.trying.picked.count)))
