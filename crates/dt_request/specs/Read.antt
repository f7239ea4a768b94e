-- The list of a model that a text spells, or its first bad line and the first of its causes.
use Rattle.std.specs.Prelude.{ℕ, ◌==◌, List, length, Result, Ok, Err, if◌then◌else◌}
use Rattle.dt_lex.specs.Reading.{Grammar, reading_of}
use Rattle.dt_model.specs.ModelData.{ModelData}
use Rattle.dt_request.specs.declared.fault.RequestFault.{RequestFault}
use Rattle.dt_request.specs.declared.fault.RequestFault.TheVariants as faults
use Rattle.dt_request.specs.declared.fault.Cause.{Cause}
use Rattle.dt_request.specs.declared.list.Requests.{Requests}
use Rattle.dt_request.specs.declared.entry.Entry.{Entry}
use Rattle.dt_request.specs.Fault.{at_line}
use Rattle.dt_request.specs.Line.{spelled}
use Rattle.dt_request.specs.Entry.{Declared, sections, meaning}
use Rattle.dt_request.specs.Draft.{declared}

abbrev pub grammar : ModelData → Grammar Entry Declared Cause RequestFault
grammar d = record { lexical = λ f. faults.Lex f; at = at_line; declared = declared; entry = λ n so t ts. meaning d so (spelled t ts) }

-- the lines have come to an end before the n-th
abbrev pub finished : ℕ → Declared → Result Requests RequestFault
finished n so = if so.place == length sections then Ok so.list else Err (faults.Form n)

unfoldable pub reading : ModelData → List ℕ → Result Requests RequestFault
reading d text = reading_of (grammar d) finished text
