-- Widths and sizes of forms.
use Rattle.std.specs.Prelude.{◌≡◌, ◌<◌, ◌≤◌}
use Rattle.dt_bits.specs.Bits.{IsWidth}
use Rattle.dt_terms.specs.Terms.{AreTerms}
use Rattle.dt_forms.specs.Forms.{Placing, placed_by}
use Rattle.dt_forms.specs.Room.{CanPlace}
use Rattle.std.specs.Prelude.{ℕ, ◌+◌, nat_lt, if◌then◌else◌, List, Option, Some, None, length}
use Rattle.dt_model.specs.Widths.{fitted, is_constant}
use Rattle.dt_terms.specs.declared.term.Term.{Term}
use Rattle.dt_terms.specs.Terms.{bits_at}
use Rattle.dt_forms.specs.Forms.{Form, term, number, form1, form2, form3}

-- the width of a form over terms, where nothing in it is at fault
abbrev pub form_width : List Term → Form → Option ℕ
form_width terms (term t) = if nat_lt t (length terms) then Some (bits_at terms t) else None
form_width terms (number w n) = if is_constant w n then Some w else None
form_width terms (form1 op a) = fitted op (form_width terms a) (Some 1) (Some 1)
form_width terms (form2 op a b) = fitted op (form_width terms a) (form_width terms b) (Some 1)
form_width terms (form3 op a b c) = fitted op (form_width terms a) (form_width terms b) (form_width terms c)

-- how many terms it takes at most
abbrev pub form_size : Form → ℕ
form_size (term t) = 0
form_size (number w n) = 1
form_size (form1 op a) = form_size a + 1
form_size (form2 op a b) = form_size a + form_size b + 1
form_size (form3 op a b c) = form_size a + form_size b + form_size c + 1

-- ---- what placing does

-- the terms go on: earlier ones keep their widths, and at most k are new
pub record Grows (terms more : List Term) (k : ℕ) : Type 0 where
  pub terms_are : AreTerms more
  pub longer : length terms ≤ length more
  pub most : length more ≤ length terms + k
  pub same : (t : ℕ) → t < length terms → bits_at more t ≡ bits_at terms t

-- a term that is put
pub record IsPut (terms more : List Term) (t w k : ℕ) : Type 0 where
  pub grows : Grows terms more k
  pub within : t < length more
  pub bits : bits_at more t ≡ w

-- a form that is placed: it can be, and stands with this width
pub record IsFormPut (placing : Placing) (terms : List Term) (f : Form) (w : ℕ) : Type 0 where
  pub can : CanPlace placing terms f
  pub put_is : IsPut terms (placed_by placing terms f).terms (placed_by placing terms f).at w (form_size f)
  pub wide : IsWidth w
