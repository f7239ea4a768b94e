use Rattle.std.proofs.Common.{◌≡◌, ℕ, eqb, List, get_or, ap, subst, ◌∙◌}
use Rattle.std.specs.List.{list_all}
use Rattle.dt_terms.specs.Problem.{ProblemData}
use Rattle.dt_terms.specs.Terms.{AreTerms}
use Rattle.dt_terms.specs.Values.{values_of}
use Rattle.dt_check.specs.Evaluating.{IsFailing, numbers_of}
use Rattle.dt_check.proofs.Evaluating.{values_in_line, numbers_same}
use Rattle.dt_check.proofs.evaluation.Evaluation.eval.Goals as goal

pub returns : goal.returns
returns c =
    let terms = c.args.problem.now.terms in
    let right : AreTerms terms = subst (λ p. AreTerms p.terms) c.problem.view_is c.problem.invariant.0.terms in
    let done = c.evaluate_marked.ensures.evaluated in
    let old = c.args.self.now.values.items in
    let values = c.evaluate_marked.new.self.values.items in
    let numbers = numbers_of terms old in
    let e : values ≡ values_of terms numbers =
    values_in_line terms right values done.are.count done.in_line ∙ ap (values_of terms) (numbers_same terms values old c.evaluate_marked.ensures.choices) in
    record {
      evaluated = record { are = done.are; in_line = done.in_line; unmarked = done.unmarked };
      choices = c.evaluate_marked.ensures.choices;
      values = e;
      solves = c.are_ones.ensures.ones
          ∙ ap (λ (xs : List ℕ). list_all (λ t. eqb (get_or xs t 0) 1) c.as_slice.result.now) (c.deref.ensures.value ∙ e)
          ∙ ap (λ (rs : List ℕ). list_all (λ t. eqb (get_or (values_of terms numbers) t 0) 1) rs) (c.as_slice.ensures ∙ ap (λ (p : ProblemData). p.required) c.problem.view_is);
      failed = λ f.
          subst (λ (rs : List ℕ). IsFailing rs values c.are_ones.new.failed) (c.as_slice.ensures ∙ ap (λ (p : ProblemData). p.required) c.problem.view_is)
          (subst (λ (xs : List ℕ). IsFailing c.as_slice.result.now xs c.are_ones.new.failed) c.deref.ensures.value (c.are_ones.ensures.failed f));
    }
