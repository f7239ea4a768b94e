-- What is wrong with the text of a log: the number of the line or of the item, and the cause's word.
use Rattle.std.specs.Prelude.{ℕ, Bool, true, false, List, Option, Some, None, codes}
use Rattle.dt_lex.specs.Fault.{line_of as line_of_lex, word_of as word_of_lex}
use Rattle.dt_log.specs.declared.fault.LogFault.{LogFault}
use Rattle.dt_log.specs.declared.fault.LogFault.TheVariants as faults

-- the bad line, where there is one
abbrev pub line_of : LogFault → Option ℕ
line_of faults.Memory = None
line_of (faults.Lex f) = line_of_lex f
line_of (faults.Form n) = Some n
line_of (faults.NotATree k) = None

-- the item where no tree can go on, where that is what is wrong
abbrev pub item_of : LogFault → Option ℕ
item_of (faults.NotATree k) = Some k
item_of _ = None

-- the word of the cause
abbrev pub word_of : LogFault → List ℕ
word_of faults.Memory = codes "memory"
word_of (faults.Lex f) = word_of_lex f
word_of (faults.Form n) = codes "form"
word_of (faults.NotATree k) = codes "tree"

abbrev pub is_memory : LogFault → Bool
is_memory faults.Memory = true
is_memory _ = false
