-- A stage's walk, level by level (section 4.3.2), for every number of levels, width of an index, size of an entry, and way to fetch an entry.
use Rattle.std.specs.Prelude.{ℕ, zero, suc, ◌+◌, ◌*◌, Bool, List, [], ◌∷◌, ◌++◌, Option, Some, None}
use Rattle.dt_bits.specs.Memory.{Memory, word_of}
use Rattle.dt_manual.specs.Entry.{Verdict, fails, pointer, leaf, judged, table_at, led, page_of}

-- which walk an entry belongs to: the only one, the VS-stage, the G-stage of the VS entry of a level, or that of the final address
pub data Part : Type 0 where
  single : Part
  vs : Part
  of_entry : (level : ℕ) → Part
  of_final : Part

-- an entry that was read
pub record Entry : Type 0 where
  pub part : Part
  pub level : ℕ
  pub address : ℕ
  pub word : ℕ

-- the kinds of faults; the code is that of the original access
pub data Cause : Type 0 where
  page_fault : Cause
  guest_fault : Cause
  access_fault : Cause

-- how a stage ends: at an address, in a page of 2^page bytes, or in a fault
pub data StageEnd : Type 0 where
  reached : (address page : ℕ) → StageEnd
  stopped : Cause → StageEnd

-- the entries read, in order, and the end
pub record Walked : Type 0 where
  pub entries : List Entry
  pub end : StageEnd

-- what does not change from level to level: the bits of an index, the bytes of an entry, the stage's
-- fault, which leaf entries the access may use, and whether it stores
pub record Stage : Type 0 where
  pub bits : ℕ
  pub bytes : ℕ
  pub cause : Cause
  pub permits : ℕ → Bool
  pub stores : Bool

abbrev pub before : List Entry → Walked → Walked
before es w = record { entries = es ++ w.entries; end = w.end }

abbrev pub ending : StageEnd → Walked
ending e = record { entries = []; end = e }

-- how the entry at an address is fetched: the entries that this takes, and then its place and its word, or an end
pub data Fetched : Type 0 where
  got : (entries : List Entry) (address word : ℕ) → Fetched
  lost : (entries : List Entry) (end : StageEnd) → Fetched

-- after the verdict on an entry e at level i: the fault, the next table, or the page
abbrev pub after : Stage → ℕ → ℕ → ℕ → (ℕ → Walked) → Verdict → Walked
after s i x e next fails = ending (stopped s.cause)
after s i x e next pointer = next (table_at e)
after s i x e next leaf = ending (reached (led s.bits i e x) (page_of s.bits i e))

-- level i, where `next` is the walk from the next table on
abbrev pub fetched : Part → Stage → ℕ → ℕ → (ℕ → Walked) → Fetched → Walked
fetched p s i x next (lost es end) = before es (ending end)
fetched p s i x next (got es a e) = before (es ++ record { part = p; level = i; address = a; word = e } ∷ []) (after s i x e next (judged s.permits s.stores s.bits i e))

-- the walk of the address x from level i - 1 on, with its table; at level 0 each pointer fails, so no level is ever asked of 0 that are left
abbrev pub levels_by : Part → Stage → (ℕ → ℕ → Fetched) → ℕ → (ℕ → ℕ) → ℕ → ℕ → Walked
levels_by p s fetch x index zero table = ending (stopped s.cause)
levels_by p s fetch x index (suc i) table = fetched p s i x (levels_by p s fetch x index i) (fetch i (table + index i * s.bytes))

-- an entry in table memory; an access fault where no word can be read (step 2)
abbrev pub word_got : List Entry → ℕ → Option ℕ → Fetched
word_got es a None = lost es (stopped access_fault)
word_got es a (Some w) = got es a w

abbrev pub direct : Memory → ℕ → ℕ → Fetched
direct m i a = word_got [] a (word_of m a)

-- an entry where another walk ended
abbrev pub at_result : Memory → List Entry → StageEnd → Fetched
at_result m es (reached a page) = word_got es a (word_of m a)
at_result m es (stopped c) = lost es (stopped c)
