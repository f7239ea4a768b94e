-- Expressions of a model as forms over the terms of their names.
use Rattle.std.specs.Prelude.{ℕ, ◌+◌, Option, Some, None, unwrap_or}
use Rattle.dt_model.specs.ModelData.{Tree, value, reg, input, var, apply1, apply2, apply3}
use Rattle.dt_model.specs.Widths.{Scope, width_at}
use Rattle.dt_forms.specs.Forms.{Form, term, number, form1, form2, form3}

-- where the terms of names stand: the first register, the first input, and each variable that has one
pub record Named : Type 0 where
  pub scope : Scope
  pub regs : ℕ
  pub inputs : ℕ
  pub vars : ℕ → Option ℕ

abbrev pub var_form : Option ℕ → ℕ → Form
var_form (Some t) w = term t
var_form None w = number w 0

-- an expression over the terms of its names
abbrev pub form_of : Named → Tree → Form
form_of at (value w n) = number w n
form_of at (reg i) = term (at.regs + i)
form_of at (input i) = term (at.inputs + i)
form_of at (var i) = var_form (at.vars i) (unwrap_or (width_at at.scope.vars i) 1)
form_of at (apply1 op a) = form1 op (form_of at a)
form_of at (apply2 op a b) = form2 op (form_of at a) (form_of at b)
form_of at (apply3 op a b c) = form3 op (form_of at a) (form_of at b) (form_of at c)
