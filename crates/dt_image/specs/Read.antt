-- The image that a text spells for a model, or its first bad line and the first of its causes.
use Rattle.std.specs.Prelude.{ℕ, ◌==◌, List, Result, Ok, Err, if◌then◌else◌, length}
use Rattle.dt_lex.specs.Reading.{Grammar, reading_of}
use Rattle.dt_model.specs.ModelData.{ModelData}
use Rattle.dt_model.specs.Bounds.{word_bytes}
use Rattle.dt_image.specs.declared.fault.ImageFault.{ImageFault}
use Rattle.dt_image.specs.declared.fault.ImageFault.TheVariants as faults
use Rattle.dt_image.specs.declared.fault.Cause.{Cause}
use Rattle.dt_image.specs.declared.image.Image.{Image}
use Rattle.dt_image.specs.declared.entry.Entry.{Entry}
use Rattle.dt_image.specs.declared.draft.Draft.{Draft}
use Rattle.dt_image.specs.Fault.{at_line}
use Rattle.dt_image.specs.Line.{spelled}
use Rattle.dt_image.specs.Entry.{sections, meaning}
use Rattle.dt_image.specs.Draft.{declared}

abbrev pub grammar : ModelData → Grammar Entry Draft Cause ImageFault
grammar m = record { lexical = λ f. faults.Lex f; at = at_line; declared = declared; entry = λ n d t ts. meaning m d (spelled t ts) }

abbrev pub image_in : ModelData → Draft → Image
image_in m d = record {
  memory = record { bytes = word_bytes m; lo = d.bounds.0; hi = d.bounds.1; words = d.words };
  contexts = d.contexts;
  accesses = d.accesses;
}

-- the lines have come to an end before the n-th
abbrev pub finished : ModelData → ℕ → Draft → Result Image ImageFault
finished m n d = if d.place == length sections then Ok (image_in m d) else Err (faults.Form n)

abbrev pub reading : ModelData → List ℕ → Result Image ImageFault
reading m text = reading_of (grammar m) (finished m) text
