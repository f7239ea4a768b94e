use Rattle.std.proofs.Common.{sym, ap, ◌∙◌}
use Rattle.dt_sets.specs.OneBit.{of_bits}
use Rattle.dt_sets.proofs.OneBits.{forward_told}
use Rattle.dt_sets.proofs.one_bit.told_forward.Goals as goal

pub returns : goal.returns
returns c = forward_told c.args.op c.in_ok-table.table c.args.a.now c.args.b.now c.args.c.now c.of.result c.beside.result (sym c.table_of.ensures ∙ c.in_ok-table.was)
    c.of.ensures c.beside.ensures.used c.beside.ensures.alone ∙ ap of_bits (sym c.forward.ensures)
