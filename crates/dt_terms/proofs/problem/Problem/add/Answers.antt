use Rattle.std.proofs.Common.{◌≡◌, ◌<◌, false, length, sym, ap, ◌∙◌, subst}
use Rattle.dt_terms.specs.Terms.{IsTerm, is_choice}
use Rattle.std.proofs.lemmas.Bool.{leb-false}
use Rattle.dt_terms.specs.Problem.{most_terms}
use Rattle.dt_terms.proofs.Additions.{problem_more}
use Rattle.dt_terms.proofs.Choices.{choices_of-node}
use Rattle.dt_terms.proofs.problem.Problem.add.Goals as goal

pub invariant_of-self-2 : goal.invariant_of-self-2
invariant_of-self-2 c =
    let inside = c.self.inside in
    let node = c.in_ok-node.node in
    let g = c.self.invariant in
    let room : length inside.terms < most_terms = subst (λ terms. length terms < most_terms) c.as_slice.ensures (leb-false most_terms _ (sym c.is_full.ensures ∙ c.if-is_full.false)) in
    let t : IsTerm inside.terms node = subst (λ terms. IsTerm terms node) c.as_slice-2.ensures c.in_ok-node.ensures.term in
    let n : is_choice node ≡ false = ap is_choice c.in_ok-node.ensures.node in
    rw c.in_ok-push.ensures.ok (
      problem_more (record { terms = inside.terms; required = inside.required }) node g.0 room t,
      g.1 ∙ sym (choices_of-node inside.terms node n),
    )
