-- The laws of forms.
use Rattle.dt_forms.specs.Laws.{FormsHaveValues, RequiredHold, FormsFit, ClaimsHaveValues, ClaimsHold, ClaimsFit, NumbersGiveValues, AssignmentsGiveValues}
use Rattle.dt_forms.specs.Folding.{fold}
use Rattle.dt_forms.specs.Meaning.{AreValues}
use Rattle.dt_forms.specs.Placing.{place}
use Rattle.dt_forms.proofs.FormValues.{form_is, required_hold, hold_required, value_by, all_hold, all_held}
use Rattle.dt_forms.proofs.Folding.{fold_gives, fold_can}
use Rattle.dt_forms.proofs.Sizes.{place_can}
use Rattle.dt_forms.proofs.Forms.{can_by}
use Rattle.dt_forms.proofs.Real.{lawful_values, assigned_values}

pub forms_have_values : FormsHaveValues
forms_have_values = form_is

pub required_holds : RequiredHold
required_holds v fs terms a h = (required_hold v fs terms a h, hold_required v fs terms a h)

pub forms_fit : FormsFit
forms_fit = can_by place place_can

pub numbers_give_values : NumbersGiveValues
numbers_give_values = lawful_values

pub claims_have_values : ClaimsHaveValues
claims_have_values = value_by AreValues fold fold_gives

pub claims_hold : ClaimsHold
claims_hold v fs terms a h = (all_hold AreValues fold fold_gives v fs terms a h, all_held AreValues fold fold_gives v fs terms a h)

pub claims_fit : ClaimsFit
claims_fit = can_by fold fold_can

pub assignments_give_values : AssignmentsGiveValues
assignments_give_values = assigned_values
