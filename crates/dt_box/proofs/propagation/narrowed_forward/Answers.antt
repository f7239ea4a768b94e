use Rattle.std.proofs.Common.{◌≡◌, ◌∙◌, arith, ap}
use Rattle.std.proofs.lemmas.List.{get_or_read, get_or_default}
use Rattle.dt_bits.specs.Bits.{width}
use Rattle.dt_terms.specs.declared.term.Term.TheVariants.{Choice, Node}
use Rattle.dt_terms.specs.Terms.{term_at, width_of_term}
use Rattle.dt_terms.proofs.Placed.{placed}
use Rattle.dt_box.specs.Cells.{cell_at}
use Rattle.dt_box.proofs.Steps.{node_width}
use Rattle.dt_box.proofs.propagation.narrowed_forward.Goals as goal

pub narrowed_forward-requires-clause-width : goal.narrowed_forward-requires-clause-width
narrowed_forward-requires-clause-width g c =
    let D = g.row.D.Denot in
    let ops = g.D.Domain.ops in
    let h = c.requires.cells in
    let n = c.in-Node in
    let terms = c.args.terms.now in
    let cells = c.args.cells.now in
    let l = c.requires.step.0 in
    let e : term_at terms c.args.term ≡ Node n.op n.a n.b n.c n.width = get_or_default terms c.args.term (Choice (width 1)) _ l ∙ n.is in
    let p = placed terms c.args.term n.op n.a n.b n.c n.width c.requires.terms l e in
    let node : c.index-cells-term.result ≡ cell_at ops cells c.args.term = get_or_read cells c.args.term _ (omega (arith, h.count, l)) c.index-cells-term.is _ in
    rw (node, c.operand_cell.ensures, c.operand_cell-in-Node.ensures, c.operand_cell-in-Node-2.ensures)
    (node_width D ops g.met.D.Domain.laws terms c.requires.terms c.args.term n.op n.a n.b n.c n.width cells h p l (ap width_of_term e))
