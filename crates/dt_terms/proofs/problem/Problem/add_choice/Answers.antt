use Rattle.std.proofs.Common.{◌<◌, ◌++◌, ◌∷◌, [], length, refl, sym, ap, ◌∙◌, subst}
use Rattle.dt_terms.specs.declared.term.Term.TheVariants.{Choice}
use Rattle.dt_terms.specs.Terms.{choices_of}
use Rattle.std.proofs.lemmas.Bool.{leb-false}
use Rattle.dt_terms.specs.Problem.{most_terms}
use Rattle.dt_terms.proofs.Additions.{problem_more}
use Rattle.dt_terms.proofs.Choices.{choices_of-choice}
use Rattle.dt_terms.proofs.problem.Problem.add_choice.Goals as goal

pub invariant_of-self-2 : goal.invariant_of-self-2
invariant_of-self-2 c =
    let inside = c.self.inside in
    let g = c.self.invariant in
    let room : length inside.terms < most_terms = subst (λ terms. length terms < most_terms) c.as_slice.ensures (leb-false most_terms _ (sym c.is_full.ensures ∙ c.if-is_full.false)) in
    rw c.in_ok-push.ensures.ok (
      problem_more (record { terms = inside.terms; required = inside.required }) (Choice c.args.width) g.0 room
          (record { width_is = c.requires; fitting = tt }),
      c.push_reserved.ensures.items ∙ ap (λ xs. xs ++ c.len-position.result ∷ []) (c.in_ok-reserve.ensures.items ∙ g.1)
          ∙ ap (λ n. choices_of inside.terms ++ n ∷ []) c.len-position.ensures ∙ sym (choices_of-choice inside.terms (Choice c.args.width) refl),
    )
