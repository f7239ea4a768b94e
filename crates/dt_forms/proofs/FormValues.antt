-- A form stands where it was put, with its value.
use Rattle.dt_forms.specs.Forms.{HasForm, HaveForms}
use Rattle.dt_forms.specs.Claims.{AreOnes, Hold}
use Rattle.std.proofs.Common.{◌≡◌, ℕ, Bool, not, ◌&&◌, ◌||◌, eqb, List, [], ◌∷◌, refl, sym, ap, ◌∙◌}
use Rattle.dt_bits.specs.Bits.{width}
use Rattle.dt_bits.specs.Ops.{applied}
use Rattle.dt_bits.specs.declared.op.Op.{Op}
use Rattle.dt_bits.specs.declared.op.Op.TheVariants.{Const, Not, And, Or}
use Rattle.dt_terms.specs.Additions.{kept}
use Rattle.dt_forms.specs.Placing.{place}
use Rattle.dt_bits.specs.declared.value.Bv.{Bv}
use Rattle.dt_terms.specs.declared.term.Term.{Term}
use Rattle.dt_forms.specs.Forms.{Form, term, number, form1, form2, form3, Placing, placed_by, form_placed, form_value, nothing, required_by, all_required, not_of, both_of, implies, same_of}
use Rattle.dt_forms.specs.Meaning.{Valuation, IsLawful, flag, is_one}
use Rattle.dt_forms.proofs.Lawful.{place_before, place_value, one_operand, two_operands, three_operands, and_flags, or_flags, not_flag}

-- where a property of values holds of the terms with a node, it holds of those before, and the node has its operator's value
pub record GivesValues (P : Valuation → List Term → Type 0) (placing : Placing) : Type 0 where
  pub before : (v : Valuation) (terms : List Term) (op : Op) (a b c : ℕ) → P v (placing terms op a b c).terms → P v terms
  pub value : (v : Valuation) (terms : List Term) (op : Op) (a b c : ℕ) → P v (placing terms op a b c).terms → v (placing terms op a b c).at ≡ applied op (v (kept op 0 a)) (v (kept op 1 b)) (v (kept op 2 c))
  pub number_before : (v : Valuation) (terms : List Term) (x : Bv) → P v (place terms (Const x) 0 0 0).terms → P v terms
  pub number_value : (v : Valuation) (terms : List Term) (x : Bv) → P v (place terms (Const x) 0 0 0).terms → v (place terms (Const x) 0 0 0).at ≡ x

pub place_gives : GivesValues IsLawful place
place_gives = record {
  before = place_before;
  value = place_value;
  number_before = λ v terms x. place_before v terms (Const x) 0 0 0;
  number_value = λ v terms x. place_value v terms (Const x) 0 0 0;
}

pub before_by : (P : Valuation → List Term → Type 0) (placing : Placing) → GivesValues P placing → (v : Valuation) (f : Form) (terms : List Term) → P v (placed_by placing terms f).terms → P v terms
before_by P placing g v (term t) terms h = h
before_by P placing g v (number w n) terms h = g.number_before v terms (record { width = width w; bits = n }) h
before_by P placing g v (form1 op a) terms h =
    let x = placed_by placing terms a in
    before_by P placing g v a terms (g.before v x.terms op x.at 0 0 h)
before_by P placing g v (form2 op a b) terms h =
    let x = placed_by placing terms a in
    let y = placed_by placing x.terms b in
    before_by P placing g v a terms (before_by P placing g v b x.terms (g.before v y.terms op x.at y.at 0 h))
before_by P placing g v (form3 op a b c) terms h =
    let x = placed_by placing terms a in
    let y = placed_by placing x.terms b in
    let z = placed_by placing y.terms c in
    before_by P placing g v a terms (before_by P placing g v b x.terms (before_by P placing g v c y.terms (g.before v z.terms op x.at y.at z.at h)))

pub value_by : (P : Valuation → List Term → Type 0) (placing : Placing) → GivesValues P placing → (v : Valuation) (f : Form) (terms : List Term) → HasForm f → P v (placed_by placing terms f).terms → v (placed_by placing terms f).at ≡ form_value v f
value_by P placing g v (term t) terms a h = refl
value_by P placing g v (number w n) terms a h = g.number_value v terms (record { width = width w; bits = n }) h
value_by P placing g v (form1 op f) terms a h =
    let x = placed_by placing terms f in
    let h1 = g.before v x.terms op x.at 0 0 h in
    g.value v x.terms op x.at 0 0 h ∙ one_operand op v x.at nothing nothing a.0
    ∙ ap (λ (q : Bv). applied op q nothing nothing) (value_by P placing g v f terms a.1 h1)
value_by P placing g v (form2 op f k) terms a h =
    let x = placed_by placing terms f in
    let y = placed_by placing x.terms k in
    let h2 = g.before v y.terms op x.at y.at 0 h in
    let h1 = before_by P placing g v k x.terms h2 in
    g.value v y.terms op x.at y.at 0 h ∙ two_operands op v x.at y.at nothing a.0
    ∙ ap (λ (q : Bv). applied op q (v y.at) nothing) (value_by P placing g v f terms a.1 h1)
    ∙ ap (λ (q : Bv). applied op (form_value v f) q nothing) (value_by P placing g v k x.terms a.2 h2)
value_by P placing g v (form3 op f k l) terms a h =
    let x = placed_by placing terms f in
    let y = placed_by placing x.terms k in
    let z = placed_by placing y.terms l in
    let h3 = g.before v z.terms op x.at y.at z.at h in
    let h2 = before_by P placing g v l y.terms h3 in
    let h1 = before_by P placing g v k x.terms h2 in
    g.value v z.terms op x.at y.at z.at h ∙ three_operands op v x.at y.at z.at a.0
    ∙ ap (λ (q : Bv). applied op q (v y.at) (v z.at)) (value_by P placing g v f terms a.1 h1)
    ∙ ap (λ (q : Bv). applied op (form_value v f) q (v z.at)) (value_by P placing g v k x.terms a.2 h2)
    ∙ ap (λ (q : Bv). applied op (form_value v f) (form_value v k) q) (value_by P placing g v l y.terms a.3 h3)

pub form_before : (v : Valuation) (f : Form) (terms : List Term) → IsLawful v (form_placed terms f).terms → IsLawful v terms
form_before v f terms h = before_by IsLawful place place_gives v f terms h

pub form_is : (v : Valuation) (f : Form) (terms : List Term) → HasForm f → IsLawful v (form_placed terms f).terms → v (form_placed terms f).at ≡ form_value v f
form_is v f terms a h = value_by IsLawful place place_gives v f terms a h

-- ---- what is required

pub all_before : (P : Valuation → List Term → Type 0) (placing : Placing) → GivesValues P placing → (v : Valuation) (fs : List Form) (terms : List Term) → P v (required_by placing terms fs).terms → P v terms
all_before P placing g v [] terms h = h
all_before P placing g v (f ∷ fs) terms h = before_by P placing g v f terms (all_before P placing g v fs (placed_by placing terms f).terms h)

-- the required terms are 1 exactly where the forms hold
pub all_hold : (P : Valuation → List Term → Type 0) (placing : Placing) → GivesValues P placing → (v : Valuation) (fs : List Form) (terms : List Term) → HaveForms fs → P v (required_by placing terms fs).terms → AreOnes v (required_by placing terms fs).required → Hold v fs
all_hold P placing g v [] terms a h r = tt
all_hold P placing g v (f ∷ fs) terms a h r =
    let x = placed_by placing terms f in
    (ap is_one (sym (value_by P placing g v f terms a.0 (all_before P placing g v fs x.terms h))) ∙ r.0, all_hold P placing g v fs x.terms a.1 h r.1)

pub all_held : (P : Valuation → List Term → Type 0) (placing : Placing) → GivesValues P placing → (v : Valuation) (fs : List Form) (terms : List Term) → HaveForms fs → P v (required_by placing terms fs).terms → Hold v fs → AreOnes v (required_by placing terms fs).required
all_held P placing g v [] terms a h r = tt
all_held P placing g v (f ∷ fs) terms a h r =
    let x = placed_by placing terms f in
    (ap is_one (value_by P placing g v f terms a.0 (all_before P placing g v fs x.terms h)) ∙ r.0, all_held P placing g v fs x.terms a.1 h r.1)

pub required_before : (v : Valuation) (fs : List Form) (terms : List Term) → IsLawful v (all_required terms fs).terms → IsLawful v terms
required_before v fs terms h = all_before IsLawful place place_gives v fs terms h

pub required_hold : (v : Valuation) (fs : List Form) (terms : List Term) → HaveForms fs → IsLawful v (all_required terms fs).terms → AreOnes v (all_required terms fs).required → Hold v fs
required_hold v fs terms a h r = all_hold IsLawful place place_gives v fs terms a h r

pub hold_required : (v : Valuation) (fs : List Form) (terms : List Term) → HaveForms fs → IsLawful v (all_required terms fs).terms → Hold v fs → AreOnes v (all_required terms fs).required
hold_required v fs terms a h r = all_held IsLawful place place_gives v fs terms a h r

-- ---- truths

pub not_form : (v : Valuation) (f : Form) (p : Bool) → form_value v f ≡ flag p → form_value v (not_of f) ≡ flag (not p)
not_form v f p e = ap (λ (x : Bv). applied Not x nothing nothing) e ∙ not_flag p nothing nothing

pub both_form : (v : Valuation) (f g : Form) (p q : Bool) → form_value v f ≡ flag p → form_value v g ≡ flag q → form_value v (both_of f g) ≡ flag (p && q)
both_form v f g p q e k = ap (λ (x : Bv). applied And x (form_value v g) nothing) e ∙ ap (λ (x : Bv). applied And (flag p) x nothing) k ∙ and_flags p q nothing

pub or_form : (v : Valuation) (f g : Form) (p q : Bool) → form_value v f ≡ flag p → form_value v g ≡ flag q → form_value v (form2 Or f g) ≡ flag (p || q)
or_form v f g p q e k = ap (λ (x : Bv). applied Or x (form_value v g) nothing) e ∙ ap (λ (x : Bv). applied Or (flag p) x nothing) k ∙ or_flags p q nothing

pub implies_form : (v : Valuation) (f g : Form) (p q : Bool) → form_value v f ≡ flag p → form_value v g ≡ flag q → form_value v (implies f g) ≡ flag (not p || q)
implies_form v f g p q e k = or_form v (not_of f) g (not p) q (not_form v f p e) k

pub same_form : (v : Valuation) (f g : Form) → form_value v (same_of f g) ≡ flag (eqb (form_value v f).bits (form_value v g).bits)
same_form v f g = refl
