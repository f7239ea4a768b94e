-- What the check's sets say of a step.
use Rattle.std.specs.Prelude.{◌≡◌, ℕ, ◌<◌, true, Option, Some, None}
use Rattle.dt_model.specs.declared.set.VarSet.{VarSet}
use Rattle.dt_model.specs.ModelData.{Tree}
use Rattle.dt_model.specs.Sets.{has}
use Rattle.dt_model.specs.Widths.{uses}

abbrev pub UsesOf : VarSet → ℕ → Option Tree → Type 0
UsesOf s count None = ⊥
UsesOf s count (Some t) = (v : ℕ) × (v < count) × (uses t v ≡ true) × (has s v ≡ true)

abbrev pub AssignsOf : VarSet → ℕ → Option ℕ → Type 0
AssignsOf s count None = ⊥
AssignsOf s count (Some v) = (v < count) × (has s v ≡ true)
