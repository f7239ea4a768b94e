-- Tests of a number, as forms over its term.
use Rattle.std.specs.Prelude.{ℕ}
use Rattle.dt_forms.specs.Forms.{Form}
use Rattle.dt_table.specs.Demands.{is_masked_form, is_within_form}
use Rattle.dt_claims.specs.declared.numbers.Test.{Test}
use Rattle.dt_claims.specs.declared.numbers.Test.TheVariants.{Masked, Within}

-- the test of a number of w bits that stands at a position
abbrev pub test_form : ℕ → Test → ℕ → Form
test_form w (Masked mask value) = is_masked_form w mask value
test_form w (Within lo hi) = is_within_form w lo hi
