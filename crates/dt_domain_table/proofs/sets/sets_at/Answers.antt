use Rattle.std.proofs.Common.{sym, subst, arith}
use Rattle.dt_bits.specs.Bits.{IsWidth}
use Rattle.dt_sets.specs.Sets.{IsSets}
use Rattle.dt_sets.specs.Laws.{sets_laws}
use Rattle.dt_domain_table.proofs.sets.sets_at.Goals as goal

pub returns-then-count-gt8-clause-is : goal.returns-then-count-gt8-clause-is
returns-then-count-gt8-clause-is c =
    let low = c.if-width-lt1.false in
    let high = c.if-width-gt128.false in
    let w : IsWidth c.args.width.0 = (omega (arith, low), omega (arith, high)) in
    subst IsSets (sym c.full.ensures) (sets_laws.full_is c.args.width w).0
