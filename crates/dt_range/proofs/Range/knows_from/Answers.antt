use Rattle.dt_range.proofs.Words.{shares_is}
use Rattle.dt_range.proofs.Range.knows_from.Goals as goal

pub returns : goal.returns
returns c =
    let a = c.args.self.now in
    let p = c.requires.self_is in
    shares_is a.width.0 a.lo a.hi c.args.bit p.lo_fits p.hi_fits
