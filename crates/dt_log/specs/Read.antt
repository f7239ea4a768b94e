-- The log that a text spells, or its first bad line, or the first item where no tree can go on.
use Rattle.std.specs.Prelude.{ℕ, ◌<◌, ◌==◌, List, length, Option, Some, None, Result, Ok, Err, if◌then◌else◌}
use Rattle.dt_lex.specs.Reading.{Grammar, reading_of}
use Rattle.dt_log.specs.declared.line.Line.{Line}
use Rattle.dt_log.specs.declared.line.Claim.{Claim}
use Rattle.dt_log.specs.declared.fault.LogFault.{LogFault}
use Rattle.dt_log.specs.declared.fault.LogFault.TheVariants as faults
use Rattle.dt_log.specs.declared.entry.Entry.{Entry}
use Rattle.dt_log.specs.declared.written.Written.{Written}
use Rattle.dt_log.specs.Shapes.{first_wrong}
use Rattle.dt_log.specs.Entry.{spelled, sections, meaning}
use Rattle.dt_log.specs.Written.{declared}

-- a line is at fault where it is no line, or may not stand here
abbrev pub entry_or_fault : Option Entry → Result Entry (Unit {0})
entry_or_fault None = Err tt
entry_or_fault (Some e) = Ok e

abbrev pub grammar : Grammar Entry Written (Unit {0}) LogFault
grammar = record { lexical = λ f. faults.Lex f; at = λ n cause. faults.Form n; declared = declared; entry = λ n w t ts. entry_or_fault (meaning w.place (spelled t ts)) }

-- what a log says: its claim, and its items
abbrev pub LogData : Type 0
LogData = Claim × List Line

abbrev pub unless_wrong : Option ℕ → LogData → Result LogData LogFault
unless_wrong None log = Ok log
unless_wrong (Some item) log = Err (faults.NotATree item)

-- the lines have come to an end before the n-th
abbrev pub finished : ℕ → Written → Result LogData LogFault
finished n w = if w.place == length sections then unless_wrong (first_wrong w.lines) (w.claim, w.lines) else Err (faults.Form n)

abbrev pub reading : List ℕ → Result LogData LogFault
reading text = reading_of grammar finished text

-- what holds of what the lines before the n-th declare
abbrev pub IsWritten : ℕ → Written → Type 0
IsWritten n w = length w.lines < n
