use Rattle.std.proofs.Common.{ℕ, ◌<◌, List, [], length, get_or, ap, sym, subst, ◌∙◌, arith}
use Rattle.std.proofs.lemmas.List.{get_or_default}
use Rattle.std.proofs.lemmas.List.FromFn.{length-map-range_with_len}
use Rattle.dt_terms.specs.Terms.{AreTerms}
use Rattle.dt_box.specs.Watching.{users_of}
use Rattle.dt_box.proofs.Watching.{users_at_term, user_in}
use Rattle.dt_check.specs.Marks.{AreMarked}
use Rattle.dt_check.proofs.Evaluating.{changed_seen, marks_before}
use Rattle.dt_check.proofs.evaluation.Evaluation.set_value.Goals as goal

pub users-requires : goal.users-requires
users-requires c =
    let terms = c.args.problem.now.terms in
    let n = length-map-range_with_len (users_of terms) 0 (length terms) in
    let e = ap (λ (xs : List (List ℕ)). length xs) c.requires.watches in
    omega (arith, c.requires.term)

pub mark_all-requires : goal.mark_all-requires
mark_all-requires c =
    let terms = c.args.problem.now.terms in
    let e = c.users.ensures ∙ ap (λ (xs : List (List ℕ)). get_or xs c.args.term []) c.requires.watches ∙ users_at_term terms c.args.term c.requires.term in
    λ k d l.
    let m : k < length (users_of terms c.args.term) = omega (arith, ap (λ (ns : List ℕ). length ns) e) in
    let f = ap (λ (ns : List ℕ). get_or ns k d) e ∙ sym (get_or_default (users_of terms c.args.term) k 0 d m) in
    let u = user_in terms c.args.term k m in
    omega (arith, f, c.requires.seen_to.are.marks_count)

pub returns-then-index-value-clause-seen_to : goal.returns-then-index-value-clause-seen_to
returns-then-index-value-clause-seen_to c =
    let terms = c.args.problem.now.terms in
    let old = c.args.self.now.marks.marks.items in
    let new = c.mark_all.new.self.marks.items in
    let e = c.users.ensures ∙ ap (λ (xs : List (List ℕ)). get_or xs c.args.term []) c.requires.watches ∙ users_at_term terms c.args.term c.requires.term in
    changed_seen terms c.args.self.now.values.items old new c.args.term c.args.value c.requires.seen_to c.requires.value
    (subst (λ (ns : List ℕ). AreMarked ns old new) e c.mark_all.ensures)

pub returns-then-index-value-clause-marks : goal.returns-then-index-value-clause-marks
returns-then-index-value-clause-marks c =
    let terms = c.args.problem.now.terms in
    let right : AreTerms terms = subst (λ p. AreTerms p.terms) c.problem.view_is c.problem.invariant.0.terms in
    let old = c.args.self.now.marks.marks.items in
    let new = c.mark_all.new.self.marks.items in
    let e = c.users.ensures ∙ ap (λ (xs : List (List ℕ)). get_or xs c.args.term []) c.requires.watches ∙ users_at_term terms c.args.term c.requires.term in
    λ t l. marks_before terms c.args.term t old new right c.requires.term (subst (λ (ns : List ℕ). AreMarked ns old new) e c.mark_all.ensures) l
