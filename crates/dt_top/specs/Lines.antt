-- The one line of an answer that isn't a whole text.
use Rattle.std.specs.Prelude.{ℕ, List, [], ◌∷◌, ◌++◌, codes}
use Rattle.dt_lex.specs.Numeral.{decimal}
use Rattle.dt_lex.specs.Printing.{row_text}
use Rattle.dt_check.specs.declared.verdict.Cause.{Cause}
use Rattle.dt_check.specs.Words.{word_of}
use Rattle.dt_encode.specs.declared.fault.Quantity3.{Quantity3}
use Rattle.dt_encode.specs.declared.fault.Quantity3.TheVariants.{Reads, Dones, Terms}
use Rattle.dt_top.specs.declared.file.File.{File}
use Rattle.dt_top.specs.Files.{file_word}

-- a file that can't be read
abbrev pub read_fault_line : File → List ℕ
read_fault_line file = codes "read fault " ++ (file_word file ++ codes "\n")

-- a file with more bytes than its limit
abbrev pub too_long_line : File → List ℕ
too_long_line file = codes "too long " ++ (file_word file ++ codes "\n")

-- the first bad line of a file, and the word of its cause
abbrev pub bad_line : List ℕ → ℕ → List ℕ → List ℕ
bad_line file n cause = row_text (codes "refused" ∷ file ∷ codes "line" ∷ decimal n ∷ cause ∷ [])

-- the first claim that does not hold, by its number
abbrev pub breaks_line : ℕ → List ℕ
breaks_line n = row_text (codes "breaks" ∷ decimal n ∷ [])

-- the first item of a log where no tree can go on
abbrev pub tree_line : ℕ → List ℕ
tree_line item = row_text (codes "refused" ∷ codes "log" ∷ codes "item" ∷ decimal item ∷ codes "tree" ∷ [])

-- ---- a list that is too large

abbrev pub quantity_word : Quantity3 → List ℕ
quantity_word Reads = codes "reads"
quantity_word Dones = codes "dones"
quantity_word Terms = codes "terms"

-- the first product above its limit
abbrev pub too_large_line : Quantity3 → ℕ → List ℕ
too_large_line what product = row_text (codes "too" ∷ codes "large" ∷ quantity_word what ∷ decimal product ∷ [])

-- ---- what the checker says of a log

-- it refutes, with so many splits
abbrev pub closed_line : ℕ → List ℕ
closed_line splits = row_text (codes "closed" ∷ decimal splits ∷ [])

-- it is the record of a search that ended after so many splits
abbrev pub open_line : ℕ → List ℕ
open_line splits = row_text (codes "open" ∷ decimal splits ∷ [])

-- its first item that has a cause
abbrev pub item_line : ℕ → Cause → List ℕ
item_line item cause = row_text (codes "refused" ∷ codes "item" ∷ decimal item ∷ word_of cause ∷ [])
