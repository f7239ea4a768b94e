use Rattle.dt_range.proofs.Words.{highest_is}
use Rattle.dt_range.proofs.Range.is_highest_unknown.Goals as goal

pub returns : goal.returns
returns c =
    let a = c.args.self.now in
    let p = c.requires.self_is in
    highest_is a.width.0 a.lo a.hi c.args.bit p.lo_fits p.hi_fits
