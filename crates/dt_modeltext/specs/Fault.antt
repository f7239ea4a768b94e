-- Why a text gave no accepted model: the number of its line, and the word of its cause.
use Rattle.std.specs.Prelude.{ℕ, Bool, true, false, List, Option, Some, None, codes}
use Rattle.dt_lex.specs.Fault.{line_of as lexical_line, word_of as lexical_word}
use Rattle.dt_model.specs.Refusal.{refusal_word}
use Rattle.dt_model.specs.declared.refusal.ModelRefusal.TheVariants.{TooDeep}
use Rattle.dt_modeltext.specs.declared.fault.ModelFault.{ModelFault}
use Rattle.dt_modeltext.specs.declared.fault.ModelFault.TheVariants as faults

abbrev pub is_memory : ModelFault → Bool
is_memory faults.Memory = true
is_memory _ = false

-- the line that the fault names, where there is one
abbrev pub line_of : ModelFault → Option ℕ
line_of faults.Memory = None
line_of (faults.Lex f) = lexical_line f
line_of (faults.Form n) = Some n
line_of (faults.Refused r n) = Some n

-- the word of the cause
abbrev pub word_of : ModelFault → List ℕ
word_of faults.Memory = codes "memory"
word_of (faults.Lex f) = lexical_word f
word_of (faults.Form n) = codes "form"
word_of (faults.Refused r n) = refusal_word r

-- what may be wrong with one line whose bytes are lawful
pub data Cause : Type 0 where
  form : Cause
  too_deep : Cause

abbrev pub fault_at : ℕ → Cause → ModelFault
fault_at n form = faults.Form n
fault_at n too_deep = faults.Refused TooDeep n
