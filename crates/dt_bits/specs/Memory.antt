-- Table memory: words of some bytes each, at the addresses from lo on, below hi.
use Rattle.std.specs.Prelude.{◌≡◌, ℕ, ◌*◌, ◌%◌, ◌^◌, ◌<◌, ◌≤◌, Bool, ◌==◌, ◌&&◌, nat_lt, nat_le, if◌then◌else◌, Option, Some, None, List, [], ◌∷◌, ◌⊎◌, length, slice_index_or}
use Rattle.std.specs.List.{AllByRecursion}
use Rattle.dt_bits.specs.declared.memory.Word.{Word}

-- a table memory: the bytes of a word, where the memory lies, and the words that are listed
pub record Memory : Type 0 where
  pub bytes : ℕ
  pub lo : ℕ
  pub hi : ℕ
  pub words : List Word

-- a word has 1, 2, 4 or 8 bytes
abbrev pub IsWordSize : ℕ → Type 0
IsWordSize bytes = (bytes ≡ 1) ⊎ (bytes ≡ 2) ⊎ (bytes ≡ 4) ⊎ (bytes ≡ 8)

-- the addresses of the words strictly rise
abbrev pub IsRising : List Word → Type 0
IsRising words =
    (i j : ℕ) (d : Word) → i < j → j < length words
    → (slice_index_or words i d).address < (slice_index_or words j d).address

-- each word lies in the memory, at a multiple of its bytes
abbrev pub AreWords : ℕ → ℕ → ℕ → List Word → Type 0
AreWords bytes lo hi words =
    AllByRecursion (λ w. (w.address % bytes ≡ 0) × (lo ≤ w.address) × (w.address < hi)) words

-- each value fits the bytes of a word
abbrev pub Fit : ℕ → List Word → Type 0
Fit bytes words = AllByRecursion (λ w. w.value < 2 ^ (8 * bytes)) words

-- what holds of every table memory
pub record IsMemory (m : Memory) : Type 0 where
  pub bytes : IsWordSize m.bytes
  pub lo : m.lo % m.bytes ≡ 0
  pub hi : m.hi % m.bytes ≡ 0
  pub order : m.lo ≤ m.hi
  pub end : m.hi ≤ 2 ^ 64
  pub rising : IsRising m.words
  pub words : AreWords m.bytes m.lo m.hi m.words
  pub fit : Fit m.bytes m.words

-- the value of the listed word with this address, or 0
abbrev pub listed : List Word → ℕ → ℕ
listed [] address = 0
listed (w ∷ ws) address = if w.address == address then w.value else listed ws address

-- whether an address is that of a word of the memory
abbrev pub is_place : Memory → ℕ → Bool
is_place m address = address % m.bytes == 0 && (nat_le m.lo address && nat_lt address m.hi)

-- the word at an address, where there is one
abbrev pub word_of : Memory → ℕ → Option ℕ
word_of m address = if is_place m address then Some (listed m.words address) else None
