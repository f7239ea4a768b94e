-- Marks in blocks.
use Rattle.std.specs.Prelude.{◌≡◌, ◌≢◌, ℕ, ◌+◌, ◌/◌, ◌<◌, ◌≤◌, Bool, true, false, List, length, slice_index_or, All}

-- a marked number's block is set
pub record AreCovered (marks blocks : List Bool) : Type 0 where
  pub count : length blocks ≡ length marks / 512 + 1
  pub each : (n : ℕ) → slice_index_or marks n false ≡ true → slice_index_or blocks (n / 512) false ≡ true

-- no number from a up to b is marked
abbrev pub HasNone : List Bool → ℕ → ℕ → Type 0
HasNone marks a b = (n : ℕ) → a ≤ n → n < b → slice_index_or marks n false ≡ false

-- the first number from a on that is marked
pub record IsFirst (marks : List Bool) (a n : ℕ) : Type 0 where
  pub after : a ≤ n
  pub within : n < length marks
  pub marked : slice_index_or marks n false ≡ true
  pub first : HasNone marks a n

-- these numbers are marked beside those that were
pub record AreMarked (numbers : List ℕ) (old new : List Bool) : Type 0 where
  pub count : length new ≡ length old
  pub kept : (n : ℕ) → slice_index_or old n false ≡ true → slice_index_or new n false ≡ true
  pub marked : All (λ n. slice_index_or new n false ≡ true) numbers
  pub others : (n : ℕ) → All (λ m. m ≢ n) numbers → slice_index_or new n false ≡ slice_index_or old n false
