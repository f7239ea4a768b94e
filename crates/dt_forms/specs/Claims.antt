-- Forms that are claimed, and terms that are 1.
use Rattle.std.specs.Prelude.{◌≡◌, ℕ, true, List}
use Rattle.std.specs.List.{AllByRecursion}
use Rattle.dt_forms.specs.Meaning.{Valuation, is_one}
use Rattle.dt_forms.specs.Forms.{Form, form_value}

abbrev pub AreOnes : Valuation → List ℕ → Type 0
AreOnes v ts = AllByRecursion (λ t. is_one (v t) ≡ true) ts

abbrev pub Hold : Valuation → List Form → Type 0
Hold v fs = AllByRecursion (λ f. is_one (form_value v f) ≡ true) fs
