-- What a cell becomes where something may narrow it.
use Rattle.std.proofs.Common.{◌≡◌, List, Option, Some, None, MatchOption, IfSome, sym, subst}
use Rattle.dt_domain.specs.Domain.{DomainOps, DomainLaws, AreAlike, IsNarrowed}
use Rattle.dt_terms.specs.declared.term.Term.{Term}
use Rattle.dt_box.specs.declared.step.Step.{Step}
use Rattle.dt_box.specs.Cells.{cell_at}
use Rattle.dt_box.specs.Steps.{target, propagated, narrowed}

module _ (D : Type 0) (ops : DomainOps D) (a b : D) where
  -- a fact of what narrows a, or else of a, is one of the meet
  pub of_meet : (P : D → Type 0) (o : Option D) → IsNarrowed ops a b o → MatchOption o (P a) P → P (ops.meet a b)
  of_meet P None e p = subst P (sym e) p
  of_meet P (Some d) e p = subst P e p

  -- what narrows a is a domain
  pub some_domain : DomainLaws ops → AreAlike ops a b → (o : Option D) → IsNarrowed ops a b o → IfSome o ops.IsDomain
  some_domain laws h None e = tt
  some_domain laws h (Some d) e = subst ops.IsDomain (sym e) (laws.meet_is a b h).0

-- what is put into the target's cell is what a step makes of it, also where terms and cells were read under
-- other names
pub put_met : (D : Type 0) (ops : DomainOps D) (read terms : List Term) (lent cells : List D) (s : Step) (old new : D) (o : Option D) → read ≡ terms → lent ≡ cells
    → old ≡ cell_at ops cells (target terms s) → IsNarrowed ops (cell_at ops lent (target read s)) (propagated ops read s lent) o
    → MatchOption o (new ≡ old) (λ n. new ≡ n) → new ≡ narrowed ops terms s cells
put_met D ops read terms lent cells s old new o r l e n m =
    let of_terms = subst (λ ts. IsNarrowed ops (cell_at ops lent (target ts s)) (propagated ops ts s lent) o) r n in
    let of_cells = subst (λ ds. IsNarrowed ops (cell_at ops ds (target terms s)) (propagated ops terms s ds) o) l of_terms in
    of_meet D ops _ _ (λ d. new ≡ d) o of_cells (subst (λ d. MatchOption o (new ≡ d) (λ n. new ≡ n)) e m)
