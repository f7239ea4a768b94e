-- Forms: operators over terms that stand already. A form is what is put behind the terms, and what is claimed of them.
use Rattle.std.specs.Prelude.{◌≡◌}
use Rattle.std.specs.List.{AllByRecursion}
use Rattle.dt_bits.specs.Ops.{IsOp, arity_of}
use Rattle.std.specs.Prelude.{ℕ, List, [], ◌∷◌}
use Rattle.dt_bits.specs.Bits.{width}
use Rattle.dt_bits.specs.Ops.{applied}
use Rattle.dt_bits.specs.declared.op.Op.{Op}
use Rattle.dt_bits.specs.declared.op.Op.TheVariants.{Not, And, Or, Eq, Ltu}
use Rattle.dt_bits.specs.declared.value.Bv.{Bv}
use Rattle.dt_terms.specs.declared.term.Term.{Term}
use Rattle.dt_forms.specs.Placing.{Placed, placed_at, place, place_const}
use Rattle.dt_forms.specs.Meaning.{Valuation}

pub data Form : Type 0 where
  term : ℕ → Form
  number : (width bits : ℕ) → Form
  form1 : Op → Form → Form
  form2 : Op → Form → Form → Form
  form3 : Op → Form → Form → Form → Form

-- where the node of an operator over terms is put
abbrev pub Placing : Type 0
Placing = List Term → Op → ℕ → ℕ → ℕ → Placed

-- where a form is put, its parts before it
abbrev pub placed_by : Placing → List Term → Form → Placed
placed_by placing terms (term t) = placed_at terms t
placed_by placing terms (number w n) = place_const terms w n
placed_by placing terms (form1 op a) =
    let x = placed_by placing terms a in
    placing x.terms op x.at 0 0
placed_by placing terms (form2 op a b) =
    let x = placed_by placing terms a in
    let y = placed_by placing x.terms b in
    placing y.terms op x.at y.at 0
placed_by placing terms (form3 op a b c) =
    let x = placed_by placing terms a in
    let y = placed_by placing x.terms b in
    let z = placed_by placing y.terms c in
    placing z.terms op x.at y.at z.at

-- where a form stands, each part as the node of its operator
abbrev pub form_placed : List Term → Form → Placed
form_placed terms f = placed_by place terms f

-- an operand that isn't there
abbrev pub nothing : Bv
nothing = record { width = width 1; bits = 0 }

-- the value of a form
abbrev pub form_value : Valuation → Form → Bv
form_value v (term t) = v t
form_value v (number w n) = record { width = width w; bits = n }
form_value v (form1 op a) = applied op (form_value v a) nothing nothing
form_value v (form2 op a b) = applied op (form_value v a) (form_value v b) nothing
form_value v (form3 op a b c) = applied op (form_value v a) (form_value v b) (form_value v c)

-- ---- what must be 1

pub record Required : Type 0 where
  pub terms : List Term
  pub required : List ℕ

-- each of the forms is put behind the terms in turn, and required
abbrev pub required_by : Placing → List Term → List Form → Required
required_by placing terms [] = record { terms = terms; required = [] }
required_by placing terms (f ∷ fs) =
    let x = placed_by placing terms f in
    let r = required_by placing x.terms fs in
    record { terms = r.terms; required = x.at ∷ r.required }

abbrev pub all_required : List Term → List Form → Required
all_required terms fs = required_by place terms fs

-- ---- words for forms

abbrev pub not_of : Form → Form
not_of a = form1 Not a

abbrev pub both_of : Form → Form → Form
both_of a b = form2 And a b

abbrev pub implies : Form → Form → Form
implies a b = form2 Or (form1 Not a) b

abbrev pub same_of : Form → Form → Form
same_of a b = form2 Eq a b

abbrev pub less_of : Form → Form → Form
less_of a b = form2 Ltu a b

-- ---- forms whose operators are applied to as many operands as they take

-- each operator has as many operands as it takes
abbrev pub HasForm : Form → Type 0
HasForm (form1 op a) = (arity_of op ≡ 1) × HasForm a
HasForm (form2 op a b) = (arity_of op ≡ 2) × HasForm a × HasForm b
HasForm (form3 op a b c) = (arity_of op ≡ 3) × HasForm a × HasForm b × HasForm c
HasForm _ = Unit {0}

abbrev pub HaveForms : List Form → Type 0
HaveForms fs = AllByRecursion HasForm fs

-- the operators are operators
abbrev pub HaveOps : Form → Type 0
HaveOps (form1 op a) = IsOp op × HaveOps a
HaveOps (form2 op a b) = IsOp op × HaveOps a × HaveOps b
HaveOps (form3 op a b c) = IsOp op × HaveOps a × HaveOps b × HaveOps c
HaveOps _ = Unit {0}
