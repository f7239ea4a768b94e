use Rattle.std.proofs.Common.{◌≡◌, ℕ, length, replicate, ap, sym, subst, ◌∙◌, rules}
use Rattle.dt_terms.specs.Terms.{choices_of}
use Rattle.dt_terms.specs.Values.{IsAssignment}
use Rattle.dt_check.proofs.Evaluating.{zeros_are}
use Rattle.dt_check.proofs.evaluation.first_values.Goals as goal

pub eval-solves-requires-clause-values : goal.eval-solves-requires-clause-values
eval-solves-requires-clause-values c =
    let terms = c.args.problem.now.terms in
    let e : c.in_ok-numbers.numbers.items ≡ replicate c.choice_count.result 0 = c.in_ok-numbers.ensures.items_if_clones_equal (λ y h. search rules) in
    let n : c.deref.result.now ≡ replicate (length (choices_of terms)) 0 = c.deref.ensures.value ∙ e ∙ ap (λ (n : ℕ). replicate n 0) c.choice_count.ensures in
    subst (IsAssignment terms) (sym n) (zeros_are terms)
