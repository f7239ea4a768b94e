use Rattle.std.proofs.Common.{◌≡◌, ℕ, List, length, replicate, false, ap, subst, ◌∙◌}
use Rattle.dt_terms.specs.declared.term.Term.{Term}
use Rattle.dt_terms.specs.Problem.{ProblemData}
use Rattle.dt_terms.specs.Terms.{AreTerms, choices_of}
use Rattle.dt_check.proofs.Evaluating.{are_first, zeros_are}
use Rattle.dt_check.proofs.evaluation.Evaluation.new.Goals as goal

pub returns : goal.returns
returns c =
    let terms = c.args.problem.now.terms in
    let right : AreTerms terms = subst (λ p. AreTerms p.terms) c.problem.view_is c.problem.invariant.0.terms in
    let t : c.problem.inside.terms ≡ terms = ap (λ (p : ProblemData). p.terms) c.problem.view_is in
    let n : c.len.result ≡ length terms = c.len.ensures ∙ ap (λ (ts : List Term). length ts) t in
    let h = are_first terms (replicate (length (choices_of terms)) 0) c.in_ok-first_values.field-0.items c.in_ok-new.field-0.marks.items right (zeros_are terms)
    c.in_ok-first_values.ensures (c.in_ok-new.ensures ∙ ap (λ (n : ℕ). replicate n false) n) in
    record { are = h.0; in_line = h.1; unmarked = h.2 }
