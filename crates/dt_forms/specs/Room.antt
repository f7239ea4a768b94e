-- What placing a form asks of the terms: each operator fits, and there is room.
use Rattle.std.specs.Prelude.{◌≡◌, ℕ, ◌≤◌, List, None, length}
use Rattle.dt_bits.specs.Bits.{width}
use Rattle.dt_bits.specs.Ops.{IsOp}
use Rattle.dt_bits.specs.declared.op.Op.{Op}
use Rattle.dt_bits.specs.declared.op.Op.TheVariants.{Const}
use Rattle.dt_terms.specs.declared.term.Term.{Term}
use Rattle.dt_terms.specs.Problem.{most_terms}
use Rattle.dt_terms.specs.Additions.{operands_fault}
use Rattle.dt_forms.specs.Forms.{Form, term, number, form1, form2, form3, Placing, placed_by}
use Rattle.dt_forms.specs.Placing.{place}

-- the operator fits, and there is room for its node
pub record FitsPlace (placing : Placing) (terms : List Term) (op : Op) (a b c : ℕ) : Type 0 where
  pub op_is : IsOp op
  pub fits : operands_fault terms op a b c ≡ None
  pub room : length (placing terms op a b c).terms ≤ most_terms

-- each part of the form fits, and there is room for it
abbrev pub CanPlace : Placing → List Term → Form → Type 0
CanPlace placing terms (term t) = Unit {0}
CanPlace placing terms (number w n) = FitsPlace place terms (Const (record { width = width w; bits = n })) 0 0 0
CanPlace placing terms (form1 op a) =
    let x = placed_by placing terms a in
    CanPlace placing terms a × FitsPlace placing x.terms op x.at 0 0
CanPlace placing terms (form2 op a b) =
    let x = placed_by placing terms a in
    let y = placed_by placing x.terms b in
    CanPlace placing terms a × CanPlace placing x.terms b × FitsPlace placing y.terms op x.at y.at 0
CanPlace placing terms (form3 op a b c) =
    let x = placed_by placing terms a in
    let y = placed_by placing x.terms b in
    let z = placed_by placing y.terms c in
    CanPlace placing terms a × CanPlace placing x.terms b × CanPlace placing y.terms c × FitsPlace placing z.terms op x.at y.at z.at
