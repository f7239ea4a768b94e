-- What a line of an image text means where it stands: its entry, or the first thing that is wrong with it.
use Rattle.std.specs.Prelude.{ℕ, ◌%◌, ◌^◌, ◌==◌, nat_lt, nat_le, Bool, true, ◌&&◌, List, [], ◌∷◌, length, Option, Some, None, Result, Ok, Err, if◌then◌else◌}
use Rattle.dt_bits.specs.declared.memory.Word.{Word as Stored}
use Rattle.dt_lex.specs.declared.section.Section.{Section}
use Rattle.dt_lex.specs.declared.section.Standing.{Standing}
use Rattle.dt_lex.specs.declared.section.Standing.TheVariants.{In}
use Rattle.dt_lex.specs.Reading.{last_of}
use Rattle.dt_lex.specs.Sections.{one, any, may_follow}
use Rattle.dt_model.specs.ModelData.{ModelData}
use Rattle.dt_model.specs.declared.model.Named.{Named}
use Rattle.dt_model.specs.Bounds.{word_bytes, bounds_fit}
use Rattle.dt_image.specs.declared.fault.Cause.{Cause}
use Rattle.dt_image.specs.declared.fault.Cause.TheVariants.{Form, Shape, OutOfRange, Order}
use Rattle.dt_image.specs.declared.line.Line.{Line}
use Rattle.dt_image.specs.declared.line.Line.TheVariants as line
use Rattle.dt_image.specs.declared.entry.Entry.{Entry}
use Rattle.dt_image.specs.declared.entry.Entry.TheVariants as entry
use Rattle.dt_image.specs.declared.draft.Draft.{Draft}

-- ---- where a line may stand

-- the header, the bounds, contexts, accesses, words, and the end
abbrev pub sections : List Section
sections = one ∷ one ∷ any ∷ any ∷ any ∷ one ∷ []

abbrev pub standing : Line → Standing
standing line.Header = In 0
standing (line.Tables lo hi) = In 1
standing (line.Context vs) = In 2
standing (line.Access k vs) = In 3
standing (line.Word w) = In 4
standing line.End = In 5

-- ---- what is wrong with a line

-- each value is below 2 to the width of its name
abbrev pub all_fit : List Named → List ℕ → Bool
all_fit (n ∷ ns) (v ∷ vs) = nat_lt v (2 ^ n.width) && all_fit ns vs
all_fit _ _ = true

-- one value for each name, and each fits
abbrev pub values_cause : List Named → List ℕ → Option Cause
values_cause ns vs = if length vs == length ns then (if all_fit ns vs then None else Some OutOfRange) else Some Shape

abbrev pub unless : Option Cause → Entry → Result Entry Cause
unless None e = Ok e
unless (Some cause) e = Err cause

-- a multiple of the bytes of a word, within the bounds, with a value of a word
abbrev pub word_fits : ModelData → ℕ × ℕ → Stored → Bool
word_fits m bounds w = (w.address % word_bytes m == 0) && nat_le bounds.0 w.address && nat_lt w.address bounds.1 && nat_lt w.value (2 ^ m.word)

-- above the last of the words; the first word has none before it
abbrev pub is_above : List Stored → ℕ → Bool
is_above [] a = true
is_above (w ∷ ws) a = nat_lt (last_of w ws).address a

abbrev pub access_entry : ModelData → Draft → ℕ → List ℕ → Result Entry Cause
access_entry m d k vs = if nat_lt k (length d.contexts) then unless (values_cause m.inputs vs) (entry.Access (record { context = k; inputs = vs })) else Err Shape

abbrev pub word_entry : ModelData → Draft → Stored → Result Entry Cause
word_entry m d w = if word_fits m d.bounds w then (if is_above d.words w.address then Ok (entry.Word w) else Err Order) else Err OutOfRange

-- the entry of a line that may stand here, after lines that declared d
abbrev pub entry_of : ModelData → Draft → Line → Result Entry Cause
entry_of m d line.Header = Ok entry.Header
entry_of m d (line.Tables lo hi) = if bounds_fit m lo hi then Ok (entry.Tables lo hi) else Err OutOfRange
entry_of m d (line.Context vs) = unless (values_cause m.regs vs) (entry.Context vs)
entry_of m d (line.Access k vs) = access_entry m d k vs
entry_of m d (line.Word w) = word_entry m d w
entry_of m d line.End = Ok entry.End

-- what a line means after lines that declared d, or the first thing that is wrong with it
abbrev pub meaning : ModelData → Draft → Option Line → Result Entry Cause
meaning m d None = Err Form
meaning m d (Some l) = if may_follow sections d.place (standing l) then entry_of m d l else Err Form
