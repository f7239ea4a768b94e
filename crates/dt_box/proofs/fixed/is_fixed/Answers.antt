use Rattle.std.proofs.Common.{ap, ◌∙◌, subst}
use Rattle.std.proofs.lemmas.Bool.{eq-eqb}
use Rattle.dt_bits.specs.declared.value.Bv.{Bv}
use Rattle.dt_box.specs.Cells.{cell_at}
use Rattle.dt_box.specs.Fixed.{IsOnly}
use Rattle.dt_box.proofs.OwnValues.{cell_here, same_number, comes_once}
use Rattle.dt_box.proofs.fixed.is_fixed.Goals as goal

pub returns-in-Some-known_value-clause-fixed : goal.returns-in-Some-known_value-clause-fixed
returns-in-Some-known_value-clause-fixed g c = λ v own comes.
    let D = g.row.D.Denot in
    let ops = g.D.Domain.ops in
    let laws = g.met.D.Domain.laws in
    let terms = c.args.terms.now in
    let cells = c.args.cells.now in
    let h = c.requires.cells in
    let t = c.args.node in
    let number = c.in-Some.number in
    let here = cell_here D ops laws terms c.requires.terms cells h t c.index-cells-node.result c.requires.node c.index-cells-node.is in
    let read = subst (λ (d : D). IsOnly ops d number) here c.in-Some.ensures in
    let same = same_number D ops laws (cell_at ops cells t) number v (h.domains t c.requires.node) read own in
    eq-eqb _ _ (ap (λ (b : Bv). b.bits) same ∙ comes_once D ops laws terms c.requires.terms cells h t v.bits c.in-Some-known_value.value c.requires.node comes c.in-Some-known_value.ensures.value)
