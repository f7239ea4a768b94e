use Rattle.std.proofs.Common.{◌≡◌, true, false, sym, ap, ◌∙◌, arith, below_more}
use Rattle.std.proofs.lemmas.List.{get_or_read}
use Rattle.dt_bits.specs.Bits.{width}
use Rattle.dt_box.specs.Cells.{cell_at}
use Rattle.dt_lemmas.proofs.Positions.{first_here, first_later, first_none}
use Rattle.dt_box.proofs.sweep.first_empty.Goals as goal

pub returns-then-is_empty-clause-first : goal.returns-then-is_empty-clause-first
returns-then-is_empty-clause-first g c =
    let empty = g.D.Domain.ops.is_empty in
    let found : empty c.index-cells-at.result ≡ true = sym c.is_empty.ensures ∙ c.if-is_empty.true in
    sym (c.loop-at.invariant.first ∙ first_here empty c.args.cells.now c.loop-at.at c.index-cells-at.result c.loop-at-test.true (ap empty (sym c.index-cells-at.is) ∙ found))

pub loop-at-preserved : goal.loop-at-preserved
loop-at-preserved g c =
    let empty = g.D.Domain.ops.is_empty in
    let held : empty c.index-cells-at.result ≡ false = sym c.is_empty.ensures ∙ c.if-is_empty.false in
    let at : c.index-cells-at.result ≡ cell_at g.D.Domain.ops c.args.cells.now c.loop-at.at = get_or_read c.args.cells.now c.loop-at.at _ c.loop-at-test.true c.index-cells-at.is (g.D.Domain.ops.full (width 1)) in
    record {
      first = c.loop-at.invariant.first ∙ first_later empty c.args.cells.now c.loop-at.at c.index-cells-at.result c.loop-at-test.true (ap empty (sym c.index-cells-at.is) ∙ held);
      held = below_more _ _ c.loop-at.invariant.held (ap empty (sym at) ∙ held);
    }

pub returns-clause-first : goal.returns-clause-first
returns-clause-first g c =
    let empty = g.D.Domain.ops.is_empty in
    sym (c.loop-at.invariant.first ∙ first_none empty c.args.cells.now c.loop-at.at (omega arith))
