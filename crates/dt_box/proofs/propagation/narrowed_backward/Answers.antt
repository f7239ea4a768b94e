use Rattle.std.proofs.Common.{◌≡◌, ◌<◌, ◌∙◌, length, arith, subst, ap}
use Rattle.std.proofs.lemmas.List.{get_or_read, get_or_default}
use Rattle.dt_bits.specs.Bits.{width}
use Rattle.dt_bits.specs.Ops.{arity_of}
use Rattle.dt_terms.specs.declared.term.Term.TheVariants.{Choice, Node}
use Rattle.dt_terms.specs.Terms.{term_at, width_of_term}
use Rattle.dt_terms.proofs.Placed.{placed}
use Rattle.dt_box.specs.Cells.{cell_at}
use Rattle.dt_domain.specs.Domain.{AreAlike, operand}
use Rattle.dt_box.specs.declared.step.Step.TheVariants.{Backward}
use Rattle.dt_box.specs.Steps.{HasPlace, operand_at, propagated_backward}
use Rattle.dt_box.proofs.Narrowing.{some_domain}
use Rattle.dt_box.proofs.Steps.{fitting_at, step_alike, step_narrows}
use Rattle.dt_box.proofs.propagation.narrowed_backward.Goals as goal

pub narrowed_backward-requires-clause-fitting : goal.narrowed_backward-requires-clause-fitting
narrowed_backward-requires-clause-fitting g c =
    let D = g.row.D.Denot in
    let ops = g.D.Domain.ops in
    let h = c.requires.cells in
    let n = c.in-Node in
    let terms = c.args.terms.now in
    let cells = c.args.cells.now in
    let l = c.requires.step.0 in
    let e : term_at terms c.args.parent ≡ Node n.op n.a n.b n.c n.width = get_or_default terms c.args.parent (Choice (width 1)) _ l ∙ n.is in
    let k : c.args.place < arity_of n.op = subst (λ node. HasPlace node c.args.place) e c.requires.step.1 in
    let p = placed terms c.args.parent n.op n.a n.b n.c n.width c.requires.terms l e in
    let node : c.index-cells-parent.result ≡ cell_at ops cells c.args.parent = get_or_read cells c.args.parent _ (omega (arith, h.count, l)) c.index-cells-parent.is _ in
    rw (node, c.operand_cell.ensures, c.operand_cell-in-Node.ensures, c.operand_cell-in-Node-2.ensures)
    (fitting_at D ops g.met.D.Domain.laws terms c.requires.terms c.args.parent c.args.place n.op n.a n.b n.c n.width cells h p k l (ap width_of_term e))

pub returns-clause-domain : goal.returns-clause-domain
returns-clause-domain g c =
    let D = g.row.D.Denot in
    let ops = g.D.Domain.ops in
    let laws = g.met.D.Domain.laws in
    let h = c.requires.cells in
    let n = c.in-Node in
    let terms = c.args.terms.now in
    let cells = c.args.cells.now in
    let place = c.args.place in
    let l = c.requires.step.0 in
    let step = Backward c.args.parent place in
    let e : term_at terms c.args.parent ≡ Node n.op n.a n.b n.c n.width = get_or_default terms c.args.parent (Choice (width 1)) _ l ∙ n.is in
    let target : operand place n.a n.b n.c < length terms = subst (λ node. operand_at node place < length terms) e (step_narrows D ops laws terms c.requires.terms step cells h c.requires.step).within in
    let within : c.operand_of.result < length cells = omega (arith, h.count, target, c.operand_of.ensures) in
    let reached : c.operand_of.result ≡ operand place n.a n.b n.c = c.operand_of.ensures in
    let cell : c.index-cells-operand_of.result ≡ cell_at ops cells (operand place n.a n.b n.c) = get_or_read cells c.operand_of.result _ within c.index-cells-operand_of.is _ ∙ ap (cell_at ops cells) reached in
    let node : c.index-cells-parent.result ≡ cell_at ops cells c.args.parent = get_or_read cells c.args.parent _ (omega (arith, h.count, l)) c.index-cells-parent.is _ in
    let alike : AreAlike ops (cell_at ops cells (operand place n.a n.b n.c)) (propagated_backward ops cells place (cell_at ops cells c.args.parent) (Node n.op n.a n.b n.c n.width))
    = subst (λ node. AreAlike ops (cell_at ops cells (operand_at node place)) (propagated_backward ops cells place (cell_at ops cells c.args.parent) node)) e
    (step_alike D ops laws terms c.requires.terms step cells h c.requires.step) in
    let told = ops.backward n.op place c.index-cells-parent.result c.operand_cell.result.now c.operand_cell-in-Node.result.now c.operand_cell-in-Node-2.result.now in
    let met : AreAlike ops c.index-cells-operand_of.result told = rw (cell, node, c.operand_cell.ensures, c.operand_cell-in-Node.ensures, c.operand_cell-in-Node-2.ensures) alike in
    some_domain D ops c.index-cells-operand_of.result told laws met c.narrowed_backward.result c.narrowed_backward.ensures
