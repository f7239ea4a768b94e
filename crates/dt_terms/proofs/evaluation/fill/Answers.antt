use Rattle.std.proofs.Common.{◌≡◌, ◌≤◌, ◌<◌, ◌+◌, ◌^◌, true, false, cond, length, take, length-set, subst, sym, ap, ◌∙◌, arith, rules}
use Rattle.std.proofs.lemmas.List.{length-take-le, get_or_default}
use Rattle.dt_terms.specs.Terms.{is_choice, choice_at, bits_at, term_at}
use Rattle.dt_terms.specs.Values.{value_of_term}
use Rattle.dt_terms.proofs.Choices.{choice_at-next, choices_of-none, choice_at_bound}
use Rattle.dt_terms.proofs.Valued.{first_values-none, values_more, fit_next}
use Rattle.dt_terms.proofs.evaluation.fill.Goals as goal
use Rattle.dt_terms.proofs.evaluation.fill.Goals.{then-is_choice, else-is_choice}

pub loop-n-init : goal.loop-n-init
loop-n-init c = record {
  values = sym (first_values-none c.args.terms.now c.args.numbers.now);
  fit = λ t l. absurd (omega arith);
  len = c.requires.out;
  choice = ap length (sym choices_of-none);
}

pub overflow_add-choice : goal.overflow_add-choice
overflow_add-choice c =
    let b : choice_at c.args.terms.now c.loop-n.n ≤ c.loop-n.n = choice_at_bound c.args.terms.now c.loop-n.n (omega arith) in
    let e : c.loop-n.choice ≤ c.loop-n.n = omega (arith, c.loop-n.invariant.choice) in
    search rules

pub loop-n-preserved : goal.loop-n-preserved
loop-n-preserved c =
    let i = c.loop-n.invariant in
    let n = c.loop-n.n in
    let l : n < length c.loop-n.out = omega (arith, i.len) in
    let t : length (take n c.loop-n.out) ≡ n = length-take-le n c.loop-n.out (omega arith) in
    let v : c.next_value.result ≡ value_of_term c.args.terms.now c.args.numbers.now (take n c.loop-n.out) n (term_at c.args.terms.now n) =
    subst (λ m. c.next_value.result ≡ value_of_term c.args.terms.now c.args.numbers.now (take n c.loop-n.out) m (term_at c.args.terms.now m)) t c.next_value.ensures.value in
    let f : c.next_value.result < 2 ^ bits_at c.args.terms.now n = subst (λ m. c.next_value.result < 2 ^ bits_at c.args.terms.now m) t c.next_value.ensures.fit in
    let k = choice_at-next c.args.terms.now n (omega arith) in
    record {
      values = values_more c.args.terms.now c.args.numbers.now c.loop-n.out n c.next_value.result l i.values v;
      fit = fit_next c.args.terms.now c.loop-n.out n c.next_value.result l i.fit f;
      len = length-set c.loop-n.out n c.next_value.result ∙ i.len;
      choice =
          elim c.if-is_choice.branch [
            | then-is_choice w ↦
                let s : is_choice (term_at c.args.terms.now n) ≡ true =
                ap is_choice (get_or_default c.args.terms.now n _ _ (omega arith)) ∙ sym c.is_choice.ensures ∙ w.if-is_choice.true in
                rw (w.choice-is, i.choice) (sym (k ∙ ap (λ b. choice_at c.args.terms.now n + cond b 1 0) s))
            | else-is_choice w ↦
                let s : is_choice (term_at c.args.terms.now n) ≡ false =
                ap is_choice (get_or_default c.args.terms.now n _ _ (omega arith)) ∙ sym c.is_choice.ensures ∙ w.if-is_choice.false in
                rw (w.choice-is, i.choice) (let z : choice_at c.args.terms.now n ≡ choice_at c.args.terms.now n + 0 = omega arith in z ∙ sym (k ∙ ap (λ b. choice_at c.args.terms.now n + cond b 1 0) s))
          ];
    }
