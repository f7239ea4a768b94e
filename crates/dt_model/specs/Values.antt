-- Values for names.
use Rattle.std.specs.Prelude.{ℕ, ◌^◌, ◌<◌, List, [], ◌∷◌}
use Rattle.dt_model.specs.declared.model.Named.{Named}

-- each name has a value of its width, and there are no further values
abbrev pub FitNames : List Named → List ℕ → Type 0
FitNames [] [] = Unit {0}
FitNames (n ∷ ns) (v ∷ vs) = (v < 2 ^ n.width) × FitNames ns vs
FitNames _ _ = ⊥
