-- What the code of a walk asks of names, values and steps: an accepted model has it.
use Rattle.std.specs.Prelude.{◌≡◌, ℕ, ◌<◌, ◌^◌, List, [], ◌∷◌, Option, Some, length, slice_get, IsSome}
use Rattle.dt_bits.specs.Bits.{IsWidth}
use Rattle.dt_model.specs.declared.model.Named.{Named}
use Rattle.dt_model.specs.ModelData.{Tree, ActData, bind, read, branch, fault, done}
use Rattle.dt_model.specs.Widths.{Scope, width_at, tree_width, HasArities}

-- each name has a width, and a value of it
abbrev pub AreValues : List Named → List ℕ → Type 0
AreValues [] [] = Unit {0}
AreValues (n ∷ ns) (v ∷ vs) = IsWidth n.width × (v < 2 ^ n.width) × AreValues ns vs
AreValues _ _ = ⊥

abbrev pub HasWidth : Scope → Tree → Option ℕ → Type 0
HasWidth s t w = HasArities t × (tree_width s t ≡ w) × IsSome w

-- a target is a later node
abbrev pub IsLater : ℕ → ℕ → ℕ → Type 0
IsLater count i to = (i < to) × (to < count)

abbrev pub IsSound : Scope → ℕ → ℕ → ℕ → ActData → Type 0
IsSound s word count i (bind x e to) = HasWidth s e (width_at s.vars x) × IsLater count i to
IsSound s word count i (read x e g t o) = HasArities e × IsSome (tree_width s e) × (width_at s.vars x ≡ Some word) × IsLater count i t × IsLater count i o
IsSound s word count i (branch e t o) = HasArities e × IsSome (tree_width s e) × IsLater count i t × IsLater count i o
IsSound s word count i (fault c) = Unit {0}
IsSound s word count i (done e p) = HasArities e × IsSome (tree_width s e)

abbrev pub AreSound : Scope → ℕ → List ActData → Type 0
AreSound s word steps = (i : ℕ) (p : ActData) → slice_get steps i ≡ Some p → IsSound s word (length steps) i p
