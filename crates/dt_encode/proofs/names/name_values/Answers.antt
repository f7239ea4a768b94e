use Rattle.std.proofs.Common.{◌+◌, ◌++◌, List, ℕ, drop, sym, ap, ◌∙◌}
use Rattle.dt_table.specs.Images.{bits_from}
use Rattle.dt_encode.specs.Telling.{valued}
use Rattle.dt_encode.proofs.Valued.{bits_more}
use Rattle.dt_encode.proofs.names.name_values.Goals as goal

pub loop-i-preserved : goal.loop-i-preserved
loop-i-preserved c =
    let v = valued c.args.values.now in
    let i = c.loop-i.i in
    c.loop-i.invariant
    ∙ bits_more v c.args.at i c.args.names.now c.loop-i.numbers c.value_at.result c.loop-i-test.true c.value_at.ensures
    ∙ ap (λ (l : List ℕ). l ++ bits_from v (c.args.at + (i + 1)) (drop (i + 1) c.args.names.now)) (sym c.in_ok-push.ensures.ok)
