use Rattle.std.proofs.Common.{sym, ◌∙◌}
use Rattle.std.proofs.lemmas.Bool.{true≢false}
use Rattle.dt_domain.specs.Domain.{AreAlike}
use Rattle.dt_pair.specs.Ops.{pair_ops}
use Rattle.dt_pair.proofs.Within.{pair_stays, parts_stay}
use Rattle.dt_pair.proofs.domain.PairDomain.is_within.Goals as goal

pub returns-then-is_within : goal.returns-then-is_within
returns-then-is_within c =
    let a = c.args.self.now in
    let b = c.args.other.now in
    let g : AreAlike pair_ops a b = record { a_is = c.requires.self_is; b_is = c.requires.other_is; widths = c.requires.widths } in (
      λ h. pair_stays a b g (record { known = c.is_within.ensures.0 c.if-is_within.true; range = c.is_within-then-is_within.ensures.0 h }),
      λ h. c.is_within-then-is_within.ensures.1 (parts_stay a b g h).range,
    )

pub returns-else-is_within : goal.returns-else-is_within
returns-else-is_within c =
    let a = c.args.self.now in
    let b = c.args.other.now in
    let g : AreAlike pair_ops a b = record { a_is = c.requires.self_is; b_is = c.requires.other_is; widths = c.requires.widths } in (
      λ h. absurd (true≢false (sym h ∙ c.if-is_within.false)),
      λ h. c.is_within.ensures.1 (parts_stay a b g h).known,
    )
