use Rattle.std.proofs.Common.{◌≡◌, ℕ, ◌<◌, ◌^◌, Bool, false, List, get_or, ap, sym, subst, ◌∙◌, arith}
use Rattle.dt_terms.specs.declared.term.Term.{Term}
use Rattle.dt_terms.specs.Problem.{ProblemData}
use Rattle.dt_terms.specs.Terms.{AreTerms, term_at, bits_at}
use Rattle.dt_check.specs.Evaluating.{value_among, IsInLine, AreSeenToBut}
use Rattle.dt_check.proofs.Evaluating.{unmarked_one, all_seen, own_value, choices_kept, none_before}
use Rattle.dt_check.proofs.evaluation.Evaluation.evaluate.Goals as goal

pub set_value-requires-clause-value : goal.set_value-requires-clause-value
set_value-requires-clause-value c =
    let t : c.as_slice.result.now ≡ c.args.problem.now.terms = c.as_slice.ensures ∙ ap (λ (p : ProblemData). p.terms) c.problem.view_is in
    subst (λ (ts : List Term). c.value_among-value.result < 2 ^ bits_at ts c.args.term) t c.value_among-value.ensures.fit

pub set_value-requires-clause-seen_to : goal.set_value-requires-clause-seen_to
set_value-requires-clause-seen_to c =
    let terms = c.args.problem.now.terms in
    subst (λ (ms : List Bool). AreSeenToBut terms c.args.self.now.values.items ms c.args.term) (sym c.unmark.ensures)
    (unmarked_one terms c.args.self.now.values.items c.args.self.now.marks.marks.items c.args.term c.requires.seen_to)

pub returns : goal.returns
returns c =
    let terms = c.args.problem.now.terms in
    let u = c.args.term in
    let values = c.args.self.now.values.items in
    let old = c.args.self.now.marks.marks.items in
    let are = c.requires.seen_to.are in
    let v = c.value_among-value.result in
    let right : AreTerms terms = subst (λ p. AreTerms p.terms) c.problem.view_is c.problem.invariant.0.terms in
    let t : c.as_slice.result.now ≡ terms = c.as_slice.ensures ∙ ap (λ (p : ProblemData). p.terms) c.problem.view_is in
    let e : v ≡ value_among terms values u (term_at terms u) =
    subst (λ (ts : List Term). v ≡ value_among ts values u (term_at ts u)) t
    (subst (λ (vs : List ℕ). v ≡ value_among c.as_slice.result.now vs u (term_at c.as_slice.result.now u)) c.deref.ensures.value c.value_among-value.ensures.value) in
    record {
      seen_to = all_seen terms c.set_value.new.self.values.items c.set_value.new.self.marks.marks.items u c.set_value.ensures.seen_to
          (subst (λ (xs : List ℕ). IsInLine terms xs u) (sym c.set_value.ensures.values) (own_value terms values u v right c.requires.term are.count e));
      before = λ n k l.
          c.set_value.ensures.marks n (omega arith)
          ∙ ap (λ (ms : List Bool). get_or ms n false) c.unmark.ensures
          ∙ none_before old u n (omega (arith, c.requires.term, are.marks_count)) c.requires.before l;
      choices = λ t k. ap (λ (xs : List ℕ). get_or xs t 0) c.set_value.ensures.values ∙ choices_kept terms values u v t (omega (arith, c.requires.term, are.count)) e k;
      failed = c.set_value.ensures.failed;
    }
