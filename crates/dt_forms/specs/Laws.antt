-- Laws of forms.
use Rattle.std.specs.Prelude.{◌≡◌, ℕ, ◌+◌, ◌≤◌, ◌↔◌, List, Some, length}
use Rattle.dt_terms.specs.declared.term.Term.{Term}
use Rattle.dt_terms.specs.Terms.{AreTerms}
use Rattle.dt_terms.specs.Problem.{most_terms}
use Rattle.dt_forms.specs.Meaning.{Valuation, IsLawful, AreValues, values}
use Rattle.dt_forms.specs.Forms.{Form, HasForm, HaveForms, HaveOps, form_placed, form_value, all_required}
use Rattle.dt_terms.specs.Values.{IsAssignment}
use Rattle.dt_forms.specs.Folding.{fold, claim_placed, all_claimed}
use Rattle.dt_forms.specs.Placing.{place}
use Rattle.dt_forms.specs.Claims.{AreOnes, Hold}
use Rattle.dt_forms.specs.Sizes.{form_width, form_size, IsFormPut}

-- where a form stands, the term has the form's value
abbrev pub FormsHaveValues : Type 0
FormsHaveValues = (v : Valuation) (f : Form) (terms : List Term) → HasForm f → IsLawful v (form_placed terms f).terms → v (form_placed terms f).at ≡ form_value v f

-- the terms that are required for forms are 1 exactly where the forms hold
abbrev pub RequiredHold : Type 0
RequiredHold = (v : Valuation) (fs : List Form) (terms : List Term) → HaveForms fs → IsLawful v (all_required terms fs).terms → AreOnes v (all_required terms fs).required ↔ Hold v fs

-- a form that has a width can be placed within its size, and stands with that width
abbrev pub FormsFit : Type 0
FormsFit = (f : Form) (terms : List Term) (w : ℕ) → AreTerms terms → HasForm f → HaveOps f → form_width terms f ≡ Some w → length terms + form_size f ≤ most_terms → IsFormPut place terms f w

-- where a claim stands, the term has the form's value
abbrev pub ClaimsHaveValues : Type 0
ClaimsHaveValues = (v : Valuation) (f : Form) (terms : List Term) → HasForm f → AreValues v (claim_placed terms f).terms → v (claim_placed terms f).at ≡ form_value v f

-- the terms that are required for claims are 1 exactly where the forms hold
abbrev pub ClaimsHold : Type 0
ClaimsHold = (v : Valuation) (fs : List Form) (terms : List Term) → HaveForms fs → AreValues v (all_claimed terms fs).terms → AreOnes v (all_claimed terms fs).required ↔ Hold v fs

-- a claim that has a width can be placed within its size, and stands with that width
abbrev pub ClaimsFit : Type 0
ClaimsFit = (f : Form) (terms : List Term) (w : ℕ) → AreTerms terms → HasForm f → HaveOps f → form_width terms f ≡ Some w → length terms + form_size f ≤ most_terms → IsFormPut fold terms f w

-- numbers for the choices give lawful values
abbrev pub NumbersGiveValues : Type 0
NumbersGiveValues = (terms : List Term) (numbers : List ℕ) → AreTerms terms → IsLawful (values terms numbers) terms

-- an assignment gives values, each of its term's width
abbrev pub AssignmentsGiveValues : Type 0
AssignmentsGiveValues = (terms : List Term) (numbers : List ℕ) → AreTerms terms → IsAssignment terms numbers → AreValues (values terms numbers) terms
