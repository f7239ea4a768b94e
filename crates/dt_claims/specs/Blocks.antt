-- Where the block of an address lies, as forms: the block is the address's whole quotient by 2 ^ e.
use Rattle.std.specs.Prelude.{ℕ}
use Rattle.dt_bits.specs.declared.op.Op.TheVariants.{Shr}
use Rattle.dt_forms.specs.Forms.{Form, term, number, form1, not_of, both_of, less_of}

-- the block isn't above the number n of w bits
abbrev pub not_above : ℕ → ℕ → ℕ → ℕ → Form
not_above w n e t = not_of (less_of (number w n) (form1 (Shr e) (term t)))

-- it isn't below the number
abbrev pub not_below : ℕ → ℕ → ℕ → ℕ → Form
not_below w n e t = not_of (less_of (form1 (Shr e) (term t)) (number w n))

-- it is one of those from a first to a last one
abbrev pub within : ℕ → ℕ → ℕ → ℕ → ℕ → Form
within w first last e t = both_of (not_above w last e t) (not_below w first e t)
