-- What is wrong with the bytes of a text: the number of the line, and the cause's word.
use Rattle.std.specs.Prelude.{ℕ, List, Option, Some, None, codes}
use Rattle.dt_lex.specs.declared.fault.LexFault.{LexFault}
use Rattle.dt_lex.specs.declared.fault.LexFault.TheVariants.{Memory, LineTooLong, BadByte}

-- the bad line, where there is one
abbrev pub line_of : LexFault → Option ℕ
line_of Memory = None
line_of (LineTooLong n) = Some n
line_of (BadByte n) = Some n

-- the word of the cause
abbrev pub word_of : LexFault → List ℕ
word_of Memory = codes "memory"
word_of (LineTooLong n) = codes "long"
word_of (BadByte n) = codes "byte"
