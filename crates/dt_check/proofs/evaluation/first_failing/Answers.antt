use Rattle.std.proofs.Common.{◌≡◌, ◌≢◌, ◌<◌, eqb, length, get_or, arith}
use Rattle.std.proofs.lemmas.Bool.{ne_eqb}
use Rattle.std.proofs.lemmas.List.Folds.{list_all_at}
use Rattle.dt_check.proofs.evaluation.first_failing.Goals as goal

pub returns-then-values-required-ne1 : goal.returns-then-values-required-ne1
returns-then-values-required-ne1 c =
    let values = c.args.values.now in
    let required = c.args.required.now in
    let at = c.loop-place.place in
    let within : at < length required = omega arith in
    let other : get_or values (get_or required at 0) 0 ≢ 1 = c.if-values-required-ne1.true in (
      record { failing = record { within = within; fails = other }; first = c.loop-place.invariant.each },
      list_all_at (λ t. eqb (get_or values t 0) 1) required at 0 within (ne_eqb _ _ other),
    )
