use Rattle.std.proofs.Common.{sym, ap, ◌∙◌, arith}
use Rattle.dt_sets.specs.Triple.{triple_backward}
use Rattle.dt_sets.specs.OneBit.{of_bits}
use Rattle.dt_sets.proofs.OneBits.{first_told, second_told, second_place}
use Rattle.dt_sets.proofs.one_bit.told_backward.Goals as goal

pub returns-then-place-eq0 : goal.returns-then-place-eq0
returns-then-place-eq0 c =
    let r = c.args.outcome.now in
    let a = c.args.a.now in
    let b = c.args.b.now in
    let d = c.args.c.now in
    ap (λ p. triple_backward c.args.op p r a b d) c.if-place-eq0.true
    ∙ first_told c.args.op c.in_ok-table.table r a b d c.of-result.result c.of-first.result c.beside-second.result (sym c.table_of.ensures ∙ c.in_ok-table.was)
    c.of-result.ensures c.of-first.ensures c.beside-second.ensures.used c.beside-second.ensures.alone ∙ ap of_bits (sym c.first.ensures)

pub returns-else-place-eq0 : goal.returns-else-place-eq0
returns-else-place-eq0 c =
    let r = c.args.outcome.now in
    let a = c.args.a.now in
    let b = c.args.b.now in
    let d = c.args.c.now in
    let t = c.in_ok-table.table in
    let e = sym c.table_of.ensures ∙ c.in_ok-table.was in
    let p = second_place c.args.op t c.args.place e c.requires.place (omega (arith, c.if-place-eq0.false)) in
    ap (λ p. triple_backward c.args.op p r a b d) p.0
    ∙ second_told c.args.op t r a b d c.of-result.result c.of-first.result c.beside-second.result e p.1
    c.of-result.ensures c.of-first.ensures (c.beside-second.ensures.used p.1) ∙ ap of_bits (sym c.second.ensures)
