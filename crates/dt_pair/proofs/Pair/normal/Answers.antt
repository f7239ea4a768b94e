use Rattle.std.proofs.Common.{◌≡◌, ℕ, true, false, sym, subst, ap, ◌∙◌}
use Rattle.std.specs.Prelude.{◌↔◌}
use Rattle.dt_pair.specs.declared.Pair.{Pair}
use Rattle.dt_pair.specs.Pair.{IsPair, both_hold, pair_holds}
use Rattle.dt_pair.specs.Laws.Normal.{normal_same}
use Rattle.dt_pair.specs.Laws.Form.{normal_is, normal_empty, normal_width}
use Rattle.dt_pair.specs.Laws.Unique.{canonical, ends_are}
use Rattle.dt_pair.proofs.Pair.normal.Goals as goal

pub returns-clause-valid : goal.returns-clause-valid
returns-clause-valid c = subst IsPair (sym c.normalised.ensures) (normal_is c.args.known.now c.args.range.now c.requires)

pub returns-clause-held : goal.returns-clause-held
returns-clause-held c =
    let k = c.args.known.now in
    let r = c.args.range.now in
    subst (λ (p : Pair). (x : ℕ) → pair_holds p x ≡ both_hold k r x) (sym c.normalised.ensures) (normal_same k r c.requires)

pub returns-clause-empty : goal.returns-clause-empty
returns-clause-empty c =
    let k = c.args.known.now in
    let r = c.args.range.now in
    subst (λ (p : Pair). (p.known.empty ≡ true) ↔ ((x : ℕ) → both_hold k r x ≡ false)) (sym c.normalised.ensures) (normal_empty k r c.requires)

pub returns-clause-canonical : goal.returns-clause-canonical
returns-clause-canonical c = canonical c.normalised.result (returns-clause-valid c)

pub returns-clause-width : goal.returns-clause-width
returns-clause-width c = ap (λ (p : Pair). p.known.width) c.normalised.ensures ∙ normal_width c.args.known.now c.args.range.now

pub returns-clause-ends : goal.returns-clause-ends
returns-clause-ends c = ends_are c.normalised.result (returns-clause-valid c)
