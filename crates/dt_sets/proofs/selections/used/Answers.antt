use Rattle.std.proofs.Common.{◌<◌, ◌≤◌, sym, ◌∙◌, subst}
use Rattle.std.proofs.lemmas.Bool.{cond-true, cond-false, lt-ltb, le-ltb}
use Rattle.dt_sets.proofs.selections.used.Goals as goal

pub returns-then-place-arity : goal.returns-then-place-arity
returns-then-place-arity c = sym (cond-true _ _ _ (lt-ltb _ _ (subst (λ n. c.args.place < n) c.arity.ensures c.if-place-arity.true)))

pub returns-else-place-arity : goal.returns-else-place-arity
returns-else-place-arity c = c.single.ensures ∙ sym (cond-false _ _ _ (le-ltb _ _ (subst (λ n. n ≤ c.args.place) c.arity.ensures c.if-place-arity.false)))
