-- Sets of positions, a bit for each, 64 in a word; and at which positions steps stand.
use Rattle.std.specs.Prelude.{◌≡◌, ℕ, ◌+◌, ◌-◌, ◌*◌, ◌/◌, ◌%◌, ◌<◌, ◌≤◌, Bool, true, false, Option, Some, None, List, length, slice_index}
use Rattle.dt_bits.specs.Bits.{bit}
use Rattle.dt_terms.specs.declared.term.Term.{Term}
use Rattle.dt_box.specs.declared.step.Step.{Step}
use Rattle.dt_box.specs.declared.step.Step.TheVariants.{Forward, Backward}
use Rattle.dt_box.specs.Steps.{IsStep}
use Rattle.dt_box.specs.Neighbours.{is_near}

-- position t is in the set: bit t mod 64 of word t div 64 is 1
abbrev pub is_marked : List ℕ → ℕ → Bool
is_marked words t = bit (slice_index words (t / 64)) (t % 64)

-- there are words for this many positions, and at most one more
abbrev pub HasRoom : ℕ → List ℕ → Type 0
HasRoom count words = length words ≡ count / 64 + 1

-- the word of each position in the set is in the set of words
pub record AreCovered (words tops : List ℕ) : Type 0 where
  pub count : length words ≤ length tops * 64
  pub few : length tops ≤ length words
  pub each : (i : ℕ) → is_marked words i ≡ true → is_marked tops (i / 64) ≡ true

-- the first position from this one on, or none
abbrev pub IsNextMark : List ℕ → ℕ → Option ℕ → Type 0
IsNextMark words from None = (i : ℕ) → from ≤ i → is_marked words i ≡ false
IsNextMark words from (Some t) = (from ≤ t) × (is_marked words t ≡ true) × ((i : ℕ) → from ≤ i → i < t → is_marked words i ≡ false)

-- the first position from this one on that is below the end, or none
abbrev pub IsNextBelow : List ℕ → ℕ → ℕ → Option ℕ → Type 0
IsNextBelow words from end None = (i : ℕ) → from ≤ i → i < end → is_marked words i ≡ false
IsNextBelow words from end (Some t) = (from ≤ t) × (t < end) × ((i : ℕ) → from ≤ i → i < t → is_marked words i ≡ false)

-- what was in the set is in it
pub record Grows (old new : List ℕ) : Type 0 where
  pub each : (i : ℕ) → is_marked old i ≡ true → is_marked new i ≡ true

-- where a step stands among those of n terms: the steps to nodes rising, and behind them those to operands
-- falling
abbrev pub position : ℕ → Step → ℕ
position n (Forward t) = t
position n (Backward t k) = 2 * n - 1 - t

-- the steps that go from the term t are in the set
pub record AreMarkedAt (n : ℕ) (words : List ℕ) (t : ℕ) : Type 0 where
  pub forward : is_marked words t ≡ true
  pub backward : is_marked words (2 * n - 1 - t) ≡ true

-- the steps near the term are in the set
abbrev pub AreMarkedNear : List Term → List ℕ → ℕ → Type 0
AreMarkedNear terms words t =
    (step : Step) → IsStep terms step → is_near terms t step ≡ true → is_marked words (position (length terms) step) ≡ true
