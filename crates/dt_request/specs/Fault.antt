-- What is wrong with the text of a request list: the number of the line, and the cause's word.
use Rattle.std.specs.Prelude.{ℕ, Bool, true, false, List, Option, Some, None, codes}
use Rattle.dt_lex.specs.Fault.{line_of as line_of_lex, word_of as word_of_lex}
use Rattle.dt_request.specs.declared.fault.RequestFault.{RequestFault}
use Rattle.dt_request.specs.declared.fault.RequestFault.TheVariants as faults
use Rattle.dt_request.specs.declared.fault.Cause.{Cause}
use Rattle.dt_request.specs.declared.fault.Cause.TheVariants.{Form, TooMany, Unknown, Twice, OutOfRange}

-- the fault of the n-th line
abbrev pub at_line : ℕ → Cause → RequestFault
at_line n Form = faults.Form n
at_line n TooMany = faults.TooMany n
at_line n Unknown = faults.Unknown n
at_line n Twice = faults.Twice n
at_line n OutOfRange = faults.OutOfRange n

-- the bad line, where there is one
abbrev pub line_of : RequestFault → Option ℕ
line_of faults.Memory = None
line_of (faults.Lex f) = line_of_lex f
line_of (faults.Form n) = Some n
line_of (faults.TooMany n) = Some n
line_of (faults.Unknown n) = Some n
line_of (faults.Twice n) = Some n
line_of (faults.OutOfRange n) = Some n

-- the word of the cause
abbrev pub word_of : RequestFault → List ℕ
word_of faults.Memory = codes "memory"
word_of (faults.Lex f) = word_of_lex f
word_of (faults.Form n) = codes "form"
word_of (faults.TooMany n) = codes "too-many"
word_of (faults.Unknown n) = codes "unknown"
word_of (faults.Twice n) = codes "twice"
word_of (faults.OutOfRange n) = codes "out-of-range"

abbrev pub is_memory : RequestFault → Bool
is_memory faults.Memory = true
is_memory _ = false
