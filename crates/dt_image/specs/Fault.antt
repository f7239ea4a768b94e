-- What is wrong with the text of an image: the number of the line, and the cause's word.
use Rattle.std.specs.Prelude.{ℕ, Bool, true, false, List, Option, Some, None, codes}
use Rattle.dt_lex.specs.Fault.{line_of as line_of_lex, word_of as word_of_lex}
use Rattle.dt_image.specs.declared.fault.ImageFault.{ImageFault}
use Rattle.dt_image.specs.declared.fault.ImageFault.TheVariants as faults
use Rattle.dt_image.specs.declared.fault.Cause.{Cause}
use Rattle.dt_image.specs.declared.fault.Cause.TheVariants.{Form, Shape, OutOfRange, Order}

-- the fault of the n-th line
abbrev pub at_line : ℕ → Cause → ImageFault
at_line n Form = faults.Form n
at_line n Shape = faults.Shape n
at_line n OutOfRange = faults.OutOfRange n
at_line n Order = faults.Order n

-- the bad line, where there is one
abbrev pub line_of : ImageFault → Option ℕ
line_of faults.Memory = None
line_of (faults.Lex f) = line_of_lex f
line_of (faults.Form n) = Some n
line_of (faults.Shape n) = Some n
line_of (faults.OutOfRange n) = Some n
line_of (faults.Order n) = Some n

-- the word of the cause
abbrev pub word_of : ImageFault → List ℕ
word_of faults.Memory = codes "memory"
word_of (faults.Lex f) = word_of_lex f
word_of (faults.Form n) = codes "form"
word_of (faults.Shape n) = codes "shape"
word_of (faults.OutOfRange n) = codes "out-of-range"
word_of (faults.Order n) = codes "order"

abbrev pub is_memory : ImageFault → Bool
is_memory faults.Memory = true
is_memory _ = false
