use Rattle.std.proofs.Common.{◌^◌, ◌<◌, ◌≤◌, sym, ◌∙◌, arith}
use Rattle.std.proofs.lemmas.Bool.{lt-ltb, le-leb}
use Rattle.dt_lemmas.proofs.Powers.{wider_fits}
use Rattle.dt_request.proofs.measure.fits.Goals as goal

pub returns-then-width-ge128 : goal.returns-then-width-ge128
returns-then-width-ge128 c =
    let small : c.args.value < 2 ^ 128 = omega (arith, c.ranges.value) in
    let wide : 128 ≤ c.args.width = omega (arith, c.if-width-ge128.true) in
    le-leb 128 c.args.width wide ∙ sym (lt-ltb c.args.value (2 ^ c.args.width) (wider_fits c.args.value 128 c.args.width small wide))
