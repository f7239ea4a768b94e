-- The model that a text spells, and why a text is refused.
use Rattle.std.specs.Prelude.{◌≡◌, ℕ, ◌==◌, ◌⊎◌, List, length, Option, Result, Ok, Err, if◌then◌else◌}
use Rattle.dt_lex.specs.declared.name.Name.{Name}
use Rattle.dt_lex.specs.declared.fault.LexFault.TheVariants as lexical
use Rattle.dt_lex.specs.Text.{lines_of}
use Rattle.dt_lex.specs.Reading.{Grammar, ◌>>=◌, reading_of}
use Rattle.dt_model.specs.declared.refusal.ModelRefusal.{ModelRefusal}
use Rattle.dt_model.specs.declared.refusal.ModelRefusal.TheVariants.{TooDeep}
use Rattle.dt_model.specs.declared.refusal.Place.{Place}
use Rattle.dt_model.specs.ModelData.{ModelData}
use Rattle.dt_model.specs.Faults.{IsAccepted, IsRefused}
use Rattle.dt_model.specs.Positions.{position_of}
use Rattle.dt_modeltext.specs.declared.fault.ModelFault.{ModelFault}
use Rattle.dt_modeltext.specs.declared.fault.ModelFault.TheVariants as faults
use Rattle.dt_modeltext.specs.Fault.{Cause, fault_at}
use Rattle.dt_modeltext.specs.Line.{node_names}
use Rattle.dt_modeltext.specs.Entry.{Entry, Declared, declared, sections, origin_of, entry_at}

-- the text of a model whose nodes have these positions
abbrev pub grammar : (Name → Option ℕ) → Grammar Entry Declared Cause ModelFault
grammar nodes = record { lexical = λ e. faults.Lex e; at = fault_at; declared = declared; entry = entry_at nodes }

-- the lines have come to an end, before the n-th
abbrev pub finished : ℕ → Declared → Result Declared ModelFault
finished n d = if d.place == length sections then Ok d else Err (faults.Form n)

-- what the lines of a text declare, or the first bad line; all lines may name the nodes of the whole text
unfoldable pub reading : List ℕ → Result Declared ModelFault
reading text = reading_of (grammar (position_of (node_names (lines_of text)))) finished text

-- the model that a text spells, checked or not
abbrev pub model_in : List ℕ → Result ModelData ModelFault
model_in text = reading text >>= λ d. Ok d.model

-- a text of an accepted model
pub record IsModelText (text : List ℕ) (d : ModelData) : Type 0 where
  pub spelled : model_in text ≡ Ok d
  pub accepted : IsAccepted d

-- no line is bad, and the check refuses the model at a place that the n-th line declares
abbrev pub IsRefusedAt : List ℕ → ModelRefusal → ℕ → Type 0
IsRefusedAt text r n = (d : Declared) × (p : Place) × (reading text ≡ Ok d) × IsRefused d.model p r × (n ≡ origin_of d.origins p)

-- the text is refused so; want of memory says nothing of it, and a lexical fault is never one
abbrev pub RefusesText : List ℕ → ModelFault → Type 0
RefusesText text faults.Memory = Unit {0}
RefusesText text (faults.Lex lexical.Memory) = ⊥
RefusesText text (faults.Lex (lexical.LineTooLong n)) = reading text ≡ Err (faults.Lex (lexical.LineTooLong n))
RefusesText text (faults.Lex (lexical.BadByte n)) = reading text ≡ Err (faults.Lex (lexical.BadByte n))
RefusesText text (faults.Form n) = reading text ≡ Err (faults.Form n)
RefusesText text (faults.Refused r n) = ((r ≡ TooDeep) × (reading text ≡ Err (faults.Refused r n))) ⊎ IsRefusedAt text r n
