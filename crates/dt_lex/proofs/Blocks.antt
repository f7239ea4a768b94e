-- Blocks of lines of one section, one behind the other.
use Rattle.std.proofs.Common.{◌≡◌, ℕ, ◌≤◌, List, [], ◌∷◌, refl, arith}

-- the place behind a block that ends at place k and stands behind place p
abbrev pub place_after : {X : Type 0} → ℕ → ℕ → List X → ℕ
place_after p k [] = p
place_after p k (x ∷ xs) = k

pub stays : {X : Type 0} (k : ℕ) (xs : List X) → place_after k k xs ≡ k
stays k [] = refl
stays k (x ∷ xs) = refl

pub within : {X : Type 0} (low p k : ℕ) (xs : List X) → low ≤ p → p ≤ k → (low ≤ place_after p k xs) × (place_after p k xs ≤ k)
within low p k [] h le = (h, le)
within low p k (x ∷ xs) h le = (omega arith, omega arith)
