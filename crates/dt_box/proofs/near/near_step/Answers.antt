use Rattle.std.proofs.Common.{ℕ, ◌<◌, List, [], length, get_or, sym, ap, ◌∙◌, subst, arith, below_more}
use Rattle.std.proofs.lemmas.List.FromFn.{length-map-range_with_len}
use Rattle.dt_box.specs.Stillness.{IsStillAt}
use Rattle.dt_box.specs.Watching.{users_of}
use Rattle.dt_box.proofs.Watching.{users_at_term, user_in, still_near}
use Rattle.dt_box.proofs.near.near_step.Goals as goal

pub users-user-items-requires : goal.users-user-items-requires
users-user-items-requires g c =
    let terms = c.args.terms.now in
    let n = length-map-range_with_len (users_of terms) 0 (length terms) in
    let e = ap (λ (xs : List (List ℕ)). length xs) c.requires.watches in
    omega (arith, c.requires.term)

pub step_from-requires-clause-term : goal.step_from-requires-clause-term
step_from-requires-clause-term g c =
    let terms = c.args.terms.now in
    let e = c.users-user-items.ensures ∙ ap (λ (xs : List (List ℕ)). get_or xs c.args.term []) c.requires.watches ∙ users_at_term terms c.args.term c.requires.term in
    subst (λ (ns : List ℕ). get_or ns c.loop-user.user-index 0 < length terms) (sym e)
    (user_in terms c.args.term c.loop-user.user-index (omega (arith, ap (λ (ns : List ℕ). length ns) e, c.loop-user-test.true)))

pub loop-user-preserved : goal.loop-user-preserved
loop-user-preserved g c =
    let terms = c.args.terms.now in
    let e = c.users-user-items.ensures ∙ ap (λ (xs : List (List ℕ)). get_or xs c.args.term []) c.requires.watches ∙ users_at_term terms c.args.term c.requires.term in
    below_more _ _ c.loop-user.invariant
    (subst (λ (ns : List ℕ). IsStillAt g.D.Domain.ops terms (get_or ns c.loop-user.user-index 0) c.args.cells.now) e c.in-None-step_from.ensures)

pub returns : goal.returns
returns g c =
    let terms = c.args.terms.now in
    let e = c.users-user-items.ensures ∙ ap (λ (xs : List (List ℕ)). get_or xs c.args.term []) c.requires.watches ∙ users_at_term terms c.args.term c.requires.term in
    let users : (k : ℕ) → k < length (users_of terms c.args.term) → IsStillAt g.D.Domain.ops terms (get_or (users_of terms c.args.term) k 0) c.args.cells.now
    = λ k l. c.loop-user.invariant k (omega (arith, ap (λ (ns : List ℕ). length ns) e, c.loop-user-test.false)) in
    record { near = still_near g.row.D.Denot g.D.Domain.ops terms c.args.cells.now c.args.term c.in-None.ensures users; users = users }
