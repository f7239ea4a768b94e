use Rattle.std.proofs.Common.{◌≡◌, ◌+◌, ◌-◌, ◌*◌, ◌%◌, ◌^◌, ◌≤◌, ap, ◌∙◌, arith, lit<}
use Rattle.std.proofs.lemmas.Nat.{pow_pos}
use Rattle.std.proofs.Math.Nat.{pow-le-pow_right}
use Rattle.dt_lemmas.proofs.Powers.{moved_up, moved_fits}
use Rattle.dt_range.specs.Range.{range_between}
use Rattle.dt_range.proofs.undo.spread_of.Goals as goal

pub overflow_add-outcome : goal.overflow_add-outcome
overflow_add-outcome c =
    let r = c.args.outcome.now in
    let w = c.args.width.0 in
    let wide : 2 ^ w ≤ 2 ^ 128 = pow-le-pow_right (lit< tt) c.requires.width in
    omega (arith, moved_up r.hi w c.args.by c.requires.fits c.requires.by c.requires.width, moved_fits r.hi w c.args.by c.requires.fits c.requires.by, c.low_ones.ensures, pow_pos c.args.by)

pub returns : goal.returns
returns c =
    let r = c.args.outcome.now in
    let w = c.args.width.0 in
    let k = c.args.by in
    let p : r.lo * 2 ^ k % 2 ^ 128 ≡ r.lo * 2 ^ k = moved_up r.lo w k (omega (arith, c.requires.order, c.requires.fits)) c.requires.by c.requires.width in
    let q : r.hi * 2 ^ k % 2 ^ 128 + c.low_ones.result ≡ r.hi * 2 ^ k + 2 ^ k - 1 =
    omega (arith, moved_up r.hi w k c.requires.fits c.requires.by c.requires.width, c.low_ones.ensures, pow_pos k) in
    c.between.ensures
    ∙ ap (λ n. range_between c.args.width n (r.hi * 2 ^ k % 2 ^ 128 + c.low_ones.result)) p
    ∙ ap (λ n. range_between c.args.width (r.lo * 2 ^ k) n) q
