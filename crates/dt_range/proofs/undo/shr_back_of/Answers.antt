use Rattle.std.proofs.Common.{◌/◌, ◌^◌, ◌≤◌, subst, arith}
use Rattle.dt_lemmas.proofs.Powers.{largest_shifted}
use Rattle.dt_range.proofs.undo.shr_back_of.Goals as goal

pub spread_of-requires-clause-fits : goal.spread_of-requires-clause-fits
spread_of-requires-clause-fits c =
    let r = c.args.outcome.now in
    largest_shifted r.width.0 c.args.by r.hi (omega (arith, c.requires.by)) (subst (λ n. r.hi ≤ n / 2 ^ c.args.by) c.ones.ensures c.if-outcome-ones.true)
