use Rattle.std.proofs.Common.{◌≡◌, sym, ap, ◌∙◌, subst, arith}
use Rattle.std.proofs.lemmas.List.{get_or_default}
use Rattle.dt_bits.specs.Bits.{width}
use Rattle.dt_bits.specs.declared.value.Bv.{Bv}
use Rattle.dt_bits.specs.Ops.{value_of}
use Rattle.dt_terms.specs.declared.term.Term.{Term}
use Rattle.dt_terms.specs.declared.term.Term.TheVariants.{Choice, Node}
use Rattle.dt_terms.specs.Terms.{term_at}
use Rattle.dt_terms.proofs.Placed.{placed}
use Rattle.dt_box.specs.Cells.{cell_at}
use Rattle.dt_box.specs.Fixed.{IsOperandNumber, IsOperatorValue, ComesTo, Fixes}
use Rattle.dt_box.proofs.OwnValues.{cell_here, operand_value, operands_fit, fixes}
use Rattle.dt_box.proofs.fixed.known_value.Goals as goal

pub operand_number-requires-in-Node : goal.operand_number-requires-in-Node
operand_number-requires-in-Node g c =
    let D = g.row.D.Denot in
    let ops = g.D.Domain.ops in
    let laws = g.met.D.Domain.laws in
    let terms = c.args.terms.now in
    let cells = c.args.cells.now in
    let h = c.requires.cells in
    let n = c.in-Node in
    let e : term_at terms c.args.node ≡ Node n.op n.a n.b n.c n.width = get_or_default terms c.args.node (Choice (width 1)) _ c.requires.node ∙ n.is in
    let p = placed terms c.args.node n.op n.a n.b n.c n.width c.requires.terms c.requires.node e in
    subst ops.IsDomain (sym (cell_here D ops laws terms c.requires.terms cells h n.b c.index-cells-b.result p.b_in c.index-cells-b.is)) (h.domains n.b p.b_in)

pub offset_bounds-cells-c : goal.offset_bounds-cells-c
offset_bounds-cells-c g c =
    let D = g.row.D.Denot in
    let ops = g.D.Domain.ops in
    let laws = g.met.D.Domain.laws in
    let terms = c.args.terms.now in
    let cells = c.args.cells.now in
    let h = c.requires.cells in
    let n = c.in-Node in
    let e : term_at terms c.args.node ≡ Node n.op n.a n.b n.c n.width = get_or_default terms c.args.node (Choice (width 1)) _ c.requires.node ∙ n.is in
    let p = placed terms c.args.node n.op n.a n.b n.c n.width c.requires.terms c.requires.node e in
    omega (arith, h.count, p.c_in)

pub bounds-cells-c : goal.bounds-cells-c
bounds-cells-c g c =
    let D = g.row.D.Denot in
    let ops = g.D.Domain.ops in
    let laws = g.met.D.Domain.laws in
    let terms = c.args.terms.now in
    let cells = c.args.cells.now in
    let h = c.requires.cells in
    let n = c.in-Node in
    let e : term_at terms c.args.node ≡ Node n.op n.a n.b n.c n.width = get_or_default terms c.args.node (Choice (width 1)) _ c.requires.node ∙ n.is in
    let p = placed terms c.args.node n.op n.a n.b n.c n.width c.requires.terms c.requires.node e in
    omega (arith, h.count, p.c_in)

pub operand_number-requires-in-Node-2 : goal.operand_number-requires-in-Node-2
operand_number-requires-in-Node-2 g c =
    let D = g.row.D.Denot in
    let ops = g.D.Domain.ops in
    let laws = g.met.D.Domain.laws in
    let terms = c.args.terms.now in
    let cells = c.args.cells.now in
    let h = c.requires.cells in
    let n = c.in-Node in
    let e : term_at terms c.args.node ≡ Node n.op n.a n.b n.c n.width = get_or_default terms c.args.node (Choice (width 1)) _ c.requires.node ∙ n.is in
    let p = placed terms c.args.node n.op n.a n.b n.c n.width c.requires.terms c.requires.node e in
    subst ops.IsDomain (sym (cell_here D ops laws terms c.requires.terms cells h n.c c.index-cells-c.result p.c_in c.index-cells-c.is)) (h.domains n.c p.c_in)

pub apply-requires-clause-a : goal.apply-requires-clause-a
apply-requires-clause-a g c =
    let D = g.row.D.Denot in
    let ops = g.D.Domain.ops in
    let laws = g.met.D.Domain.laws in
    let terms = c.args.terms.now in
    let cells = c.args.cells.now in
    let h = c.requires.cells in
    let n = c.in-Node in
    let e : term_at terms c.args.node ≡ Node n.op n.a n.b n.c n.width = get_or_default terms c.args.node (Choice (width 1)) _ c.requires.node ∙ n.is in
    let p = placed terms c.args.node n.op n.a n.b n.c n.width c.requires.terms c.requires.node e in
    let x : IsOperandNumber ops n.op 0 (cell_at ops cells n.a) c.in_ok-first-in-Node.first = subst (λ d. IsOperandNumber ops n.op 0 d c.in_ok-first-in-Node.first) (cell_here D ops laws terms c.requires.terms cells h n.a c.index-cells-a.result p.a_in c.index-cells-a.is) c.in_ok-first-in-Node.ensures in
    operand_value D ops laws n.op 0 (cell_at ops cells n.a) _ (h.domains n.a p.a_in) x

pub apply-requires-clause-b : goal.apply-requires-clause-b
apply-requires-clause-b g c =
    let D = g.row.D.Denot in
    let ops = g.D.Domain.ops in
    let laws = g.met.D.Domain.laws in
    let terms = c.args.terms.now in
    let cells = c.args.cells.now in
    let h = c.requires.cells in
    let n = c.in-Node in
    let e : term_at terms c.args.node ≡ Node n.op n.a n.b n.c n.width = get_or_default terms c.args.node (Choice (width 1)) _ c.requires.node ∙ n.is in
    let p = placed terms c.args.node n.op n.a n.b n.c n.width c.requires.terms c.requires.node e in
    let y : IsOperandNumber ops n.op 1 (cell_at ops cells n.b) c.in_ok-second-in-Node.second = subst (λ d. IsOperandNumber ops n.op 1 d c.in_ok-second-in-Node.second) (cell_here D ops laws terms c.requires.terms cells h n.b c.index-cells-b.result p.b_in c.index-cells-b.is) c.in_ok-second-in-Node.ensures in
    operand_value D ops laws n.op 1 (cell_at ops cells n.b) _ (h.domains n.b p.b_in) y

pub apply-requires-clause-c : goal.apply-requires-clause-c
apply-requires-clause-c g c =
    let D = g.row.D.Denot in
    let ops = g.D.Domain.ops in
    let laws = g.met.D.Domain.laws in
    let terms = c.args.terms.now in
    let cells = c.args.cells.now in
    let h = c.requires.cells in
    let n = c.in-Node in
    let e : term_at terms c.args.node ≡ Node n.op n.a n.b n.c n.width = get_or_default terms c.args.node (Choice (width 1)) _ c.requires.node ∙ n.is in
    let p = placed terms c.args.node n.op n.a n.b n.c n.width c.requires.terms c.requires.node e in
    let z : IsOperandNumber ops n.op 2 (cell_at ops cells n.c) c.in_ok-third-in-Node.third = subst (λ d. IsOperandNumber ops n.op 2 d c.in_ok-third-in-Node.third) (cell_here D ops laws terms c.requires.terms cells h n.c c.index-cells-c.result p.c_in c.index-cells-c.is) c.in_ok-third-in-Node.ensures in
    operand_value D ops laws n.op 2 (cell_at ops cells n.c) _ (h.domains n.c p.c_in) z

pub apply-requires-clause-fits : goal.apply-requires-clause-fits
apply-requires-clause-fits g c =
    let D = g.row.D.Denot in
    let ops = g.D.Domain.ops in
    let laws = g.met.D.Domain.laws in
    let terms = c.args.terms.now in
    let cells = c.args.cells.now in
    let h = c.requires.cells in
    let n = c.in-Node in
    let e : term_at terms c.args.node ≡ Node n.op n.a n.b n.c n.width = get_or_default terms c.args.node (Choice (width 1)) _ c.requires.node ∙ n.is in
    let p = placed terms c.args.node n.op n.a n.b n.c n.width c.requires.terms c.requires.node e in
    let x : IsOperandNumber ops n.op 0 (cell_at ops cells n.a) c.in_ok-first-in-Node.first = subst (λ d. IsOperandNumber ops n.op 0 d c.in_ok-first-in-Node.first) (cell_here D ops laws terms c.requires.terms cells h n.a c.index-cells-a.result p.a_in c.index-cells-a.is) c.in_ok-first-in-Node.ensures in
    let y : IsOperandNumber ops n.op 1 (cell_at ops cells n.b) c.in_ok-second-in-Node.second = subst (λ d. IsOperandNumber ops n.op 1 d c.in_ok-second-in-Node.second) (cell_here D ops laws terms c.requires.terms cells h n.b c.index-cells-b.result p.b_in c.index-cells-b.is) c.in_ok-second-in-Node.ensures in
    let z : IsOperandNumber ops n.op 2 (cell_at ops cells n.c) c.in_ok-third-in-Node.third = subst (λ d. IsOperandNumber ops n.op 2 d c.in_ok-third-in-Node.third) (cell_here D ops laws terms c.requires.terms cells h n.c c.index-cells-c.result p.c_in c.index-cells-c.is) c.in_ok-third-in-Node.ensures in
    operands_fit D ops laws terms c.requires.terms cells h c.args.node n.op n.a n.b n.c n.width c.requires.node e _ _ _ x y z

pub returns-in_ok-third-in-Node : goal.returns-in_ok-third-in-Node
returns-in_ok-third-in-Node g c =
    let D = g.row.D.Denot in
    let ops = g.D.Domain.ops in
    let laws = g.met.D.Domain.laws in
    let terms = c.args.terms.now in
    let cells = c.args.cells.now in
    let h = c.requires.cells in
    let n = c.in-Node in
    let e : term_at terms c.args.node ≡ Node n.op n.a n.b n.c n.width = get_or_default terms c.args.node (Choice (width 1)) _ c.requires.node ∙ n.is in
    let p = placed terms c.args.node n.op n.a n.b n.c n.width c.requires.terms c.requires.node e in
    let x : IsOperandNumber ops n.op 0 (cell_at ops cells n.a) c.in_ok-first-in-Node.first = subst (λ d. IsOperandNumber ops n.op 0 d c.in_ok-first-in-Node.first) (cell_here D ops laws terms c.requires.terms cells h n.a c.index-cells-a.result p.a_in c.index-cells-a.is) c.in_ok-first-in-Node.ensures in
    let y : IsOperandNumber ops n.op 1 (cell_at ops cells n.b) c.in_ok-second-in-Node.second = subst (λ d. IsOperandNumber ops n.op 1 d c.in_ok-second-in-Node.second) (cell_here D ops laws terms c.requires.terms cells h n.b c.index-cells-b.result p.b_in c.index-cells-b.is) c.in_ok-second-in-Node.ensures in
    let z : IsOperandNumber ops n.op 2 (cell_at ops cells n.c) c.in_ok-third-in-Node.third = subst (λ d. IsOperandNumber ops n.op 2 d c.in_ok-third-in-Node.third) (cell_here D ops laws terms c.requires.terms cells h n.c c.index-cells-c.result p.c_in c.index-cells-c.is) c.in_ok-third-in-Node.ensures in
    let came : c.apply.result.bits ≡ value_of n.op c.in_ok-first-in-Node.first c.in_ok-second-in-Node.second c.in_ok-third-in-Node.third = ap (λ (v : Bv). v.bits) c.apply.ensures.value in
    let own : IsOperatorValue ops cells n.op n.a n.b n.c c.apply.result.bits = record { first = c.in_ok-first-in-Node.first; second = c.in_ok-second-in-Node.second; third = c.in_ok-third-in-Node.third; first_is = x; second_is = y; third_is = z; value = sym came } in
    record {
      value = subst (λ (t : Term). ComesTo ops cells t c.apply.result.bits) (sym e) own;
      fixes = subst (Fixes ops terms cells c.args.node) (sym came)
          (fixes D ops laws terms c.requires.terms cells h c.args.node n.op n.a n.b n.c n.width c.requires.node e _ _ _ x y z);
    }
