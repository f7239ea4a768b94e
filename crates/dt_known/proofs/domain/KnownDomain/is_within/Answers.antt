use Rattle.dt_known.proofs.Within.{known_within, within_known}
use Rattle.dt_known.proofs.domain.KnownDomain.is_within.Goals as goal

pub returns-then-not-other : goal.returns-then-not-other
returns-then-not-other c =
    let a = c.args.self.now in
    let b = c.args.other.now in (
      λ h. known_within a b c.requires.self_is c.if-self.false c.if-not-other.true (c.knows_all_of.ensures.0 h),
      λ h. c.knows_all_of.ensures.1 (within_known a b c.requires.self_is c.requires.other_is c.requires.widths c.if-self.false h),
    )
